-- Entries that are written on two sides hold where both of their sides do.
use Rattle.std.proofs.Common.{◌≡◌, Bool, true, false, ◌&&◌, ◌||◌, All, List, [], ◌∷◌, refl, ◌∙◌, ap}
use Rattle.std.proofs.Math.Bool.{or-false}
use Rattle.std.proofs.lemmas.List.Elements.{All-head, All-tail}
use Rattle.std.proofs.lemmas.List.Folds.{list_all-append}
use Rattle.std.specs.List.{flat_map, list_all}

crossed : (a b c d : Bool) → ((a && b) && (c && d)) ≡ ((a && c) && (b && d))
crossed true true c d = refl
crossed true false true d = refl
crossed true false false d = refl
crossed false b c d = refl

module _ {C A B : Type 0} (p : A → Bool) (q : B → Bool) (f : C → List A) (g : C → List B) (holds : C → Bool) where
  -- an entry holds where both of its sides do
  abbrev pub HasSides : C → Type 0
  HasSides c = (list_all p (f c) && list_all q (g c)) ≡ holds c

  pub sides-hold : (cs : List C) → All HasSides cs → (list_all p (flat_map f cs) && list_all q (flat_map g cs)) ≡ list_all holds cs
  sides-hold [] each = refl
  sides-hold (c ∷ cs) each =
      ap (λ b. b && list_all q (flat_map g (c ∷ cs))) (list_all-append p (f c) (flat_map f cs))
      ∙ ap (λ b. (list_all p (f c) && list_all p (flat_map f cs)) && b) (list_all-append q (g c) (flat_map g cs))
      ∙ crossed (list_all p (f c)) (list_all p (flat_map f cs)) (list_all q (g c)) (list_all q (flat_map g cs))
      ∙ ap (λ b. b && (list_all p (flat_map f cs) && list_all q (flat_map g cs))) (All-head HasSides c cs each)
      ∙ ap (λ b. holds c && b) (sides-hold cs (All-tail HasSides c cs each))

-- one permission and one principal, each of its own part and its side of the conditions
pub both-sides : (s o a b c : Bool) → (a && b) ≡ c → ((o && a || false) && (s && b || false)) ≡ (s && o && c)
both-sides true true true b c h = or-false b ∙ h
both-sides true true false b c h = h
both-sides true false a b c h = refl
both-sides false true true b c h = refl
both-sides false true false b c h = refl
both-sides false false a b c h = refl
