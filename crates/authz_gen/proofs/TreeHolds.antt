-- What the trees of lists of values hold for.
use Rattle.std.proofs.Common.{◌≡◌, ◌==◌, Bool, not, ◌&&◌, ◌||◌, All, List, [], ◌∷◌, ◌++◌, get_or, length, map}
use Rattle.std.proofs.Common.{refl, ◌∙◌, ap}
use Rattle.std.proofs.Math.Bool.{and-true}
use Rattle.std.proofs.Math.Dec.{eqb-suc-zero}
use Rattle.std.proofs.lemmas.List.{length-map}
use Rattle.std.proofs.lemmas.List.Elements.{All-head, All-tail}
use Rattle.std.proofs.lemmas.List.Folds.{list_all-append}
use Rattle.std.specs.List.{list_all, list_any}
use Rattle.mesh_policy.specs.RuleHolds as rules
use Rattle.mesh_tree.specs.Joined.{or_of}
use Rattle.mesh_tree.specs.Judge.{tree_holds}
use Rattle.mesh_tree.specs.declared.tree.Tree.{Tree}
use Rattle.mesh_tree.proofs.JudgeLemmas.{holds-and, holds-any, holds-not, holds-or}
use Rattle.authz_gen.specs.Lists.{all_of, field_of, if_any, none_of}

-- what is made of each entry passes where the entry does
pub any-made : {A B : Type 0} (test : B → Bool) (make : A → B) (matches : A → Bool) (xs : List A)
    → All (λ x. test (make x) ≡ matches x) xs → list_any test (map make xs) ≡ list_any matches xs
any-made test make matches [] each = refl
any-made test make matches (x ∷ xs) each =
    ap (λ b. b || list_any test (map make xs)) (All-head (λ y. test (make y) ≡ matches y) x xs each)
    ∙ ap (λ b. matches x || b) (any-made test make matches xs (All-tail (λ y. test (make y) ≡ matches y) x xs each))

-- four lists of which all hold
pub four-lists : {A : Type 0} (p : A → Bool) (ws xs ys zs : List A) (a b c d : Bool)
    → list_all p ws ≡ a → list_all p xs ≡ b → list_all p ys ≡ c → list_all p zs ≡ d
    → list_all p (ws ++ xs ++ ys ++ zs) ≡ (a && b && c && d)
four-lists p ws xs ys zs a b c d in_ws in_xs in_ys in_zs =
    list_all-append p (ws ++ xs ++ ys) zs
    ∙ ap (λ x. x && list_all p zs)
    (list_all-append p (ws ++ xs) ys ∙ ap (λ x. x && list_all p ys) (list_all-append p ws xs))
    ∙ λ i. in_ws i && in_xs i && in_ys i && in_zs i

module _ {L : Type 0} (p : L → Bool) where
  pub all-holds : (ts : List (Tree L)) → tree_holds p (all_of ts) ≡ list_all (tree_holds p) ts
  all-holds [] = holds-any p
  all-holds (t ∷ ts) = rw (eqb-suc-zero (length ts)) (holds-and p t ts)

  one-holds : (ts : List (Tree L)) → list_all (tree_holds p) (if_any or_of ts) ≡ ((length ts == 0) || list_any (tree_holds p) ts)
  one-holds [] = refl
  one-holds (t ∷ ts) =
      rw (eqb-suc-zero (length ts)) (and-true (tree_holds p (or_of (t ∷ ts))) ∙ holds-or p t ts)

  none-holds : (ts : List (Tree L)) → list_all (tree_holds p) (if_any none_of ts) ≡ not (list_any (tree_holds p) ts)
  none-holds [] = refl
  none-holds (t ∷ ts) =
      rw (eqb-suc-zero (length ts))
      (and-true (tree_holds p (none_of (t ∷ ts))) ∙ holds-not p (or_of (t ∷ ts)) ∙ ap not (holds-or p t ts))

  module _ {A : Type 0} (tree : A → Tree L) (matches : A → Bool) where
    -- the tree of a value holds where the value matches
    abbrev pub HoldsAsMatched : A → Type 0
    HoldsAsMatched x = tree_holds p (tree x) ≡ matches x

    -- a list of values, of which one matches
    pub one-of-holds : (xs : List A) → All HoldsAsMatched xs
        → list_all (tree_holds p) (if_any or_of (map tree xs)) ≡ rules.one_of matches xs
    one-of-holds xs each =
        one-holds (map tree xs)
        ∙ ap (λ n. (n == 0) || list_any (tree_holds p) (map tree xs)) (length-map xs tree)
        ∙ ap (λ b. (length xs == 0) || b) (any-made (tree_holds p) tree matches xs each)

    none-of-holds : (xs : List A) → All HoldsAsMatched xs
        → list_all (tree_holds p) (if_any none_of (map tree xs)) ≡ rules.none_of matches xs
    none-of-holds xs each = none-holds (map tree xs) ∙ ap not (any-made (tree_holds p) tree matches xs each)

    -- a field and the `not` field beside it
    pub field-holds : (xs not_xs : List A) → All HoldsAsMatched xs → All HoldsAsMatched not_xs
        → list_all (tree_holds p) (field_of (map tree xs) (map tree not_xs)) ≡ rules.both_hold matches xs not_xs
    field-holds xs not_xs each each_not =
        list_all-append (tree_holds p) (if_any or_of (map tree xs)) (if_any none_of (map tree not_xs))
        ∙ ap (λ b. b && list_all (tree_holds p) (if_any none_of (map tree not_xs))) (one-of-holds xs each)
        ∙ ap (λ b. rules.one_of matches xs && b) (none-of-holds not_xs each_not)

    -- a field of values each of which is told alike
    pub each-field-holds : ((x : A) → HoldsAsMatched x) → (xs not_xs : List A)
        → list_all (tree_holds p) (field_of (map tree xs) (map tree not_xs)) ≡ rules.both_hold matches xs not_xs
    each-field-holds each xs not_xs =
        field-holds xs not_xs (λ k d within. each (get_or xs k d)) (λ k d within. each (get_or not_xs k d))
