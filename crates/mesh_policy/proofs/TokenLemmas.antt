-- What std's searches of texts give, in the words of Token.
use Rattle.std.proofs.Common.{◌≡◌, ◌≢◌, ℕ, ◌+◌, ◌<◌, true, false, List, [], ◌∷◌, Option, Some, None, length}
use Rattle.std.proofs.Common.{drop, get_or, ap, sym, ◌∙◌, refl, arith, Bor}
use Rattle.std.proofs.lemmas.Bool.{cond-false, cond-true, false_from_ne_true}
use Rattle.std.proofs.lemmas.Bool.Decides.{Decides-eqb}
use Rattle.std.proofs.lemmas.Slice.Eq.{starts_is}
use Rattle.std.specs.List.{list_any, starts_with}
use Rattle.std.specs.Option.{MatchOption, option_copied, option_map}
use Rattle.std.specs.Str.Pattern.{FindsTextPrefix}
use Prim.Native.Nat.{suc}
use lib.Dec.{eqb}
use Rattle.mesh_policy.specs.Token.{behind, value_in}

-- the rest of a value behind its prefix, as `strip_prefix` gives it
pub behind_is : (prefix value : List ℕ) (r : Option (Bor (List ℕ)))
    → MatchOption r (FindsTextPrefix prefix value None)
    (λ x. (n : ℕ) × FindsTextPrefix prefix value (Some n) × (x.now ≡ drop n value) × (length x.now + n ≡ length value))
    → option_copied r ≡ behind prefix (Some value)
behind_is prefix value None h =
    let s = starts_is Decides-eqb value prefix (starts_with eqb value prefix) refl in
    sym (cond-false (starts_with eqb value prefix) (Some (drop (length prefix) value)) None
    (false_from_ne_true _ (λ e. h (drop (length prefix) value) (s.0 e))))
behind_is prefix value (Some x) h =
    let s = starts_is Decides-eqb value prefix (starts_with eqb value prefix) refl in
    let begins : starts_with eqb value prefix ≡ true = s.1 (drop h.0 value) h.1.1 in
    let rest : x.now ≡ drop (length prefix) value = h.2 ∙ ap (λ n. drop n value) h.1.0 in
    ap Some rest ∙ sym (cond-true (starts_with eqb value prefix) (Some (drop (length prefix) value)) None begins)

-- no byte of the text is this one
pub lacks_byte : (c : ℕ) (bs : List ℕ) → ((i : ℕ) → i < length bs → get_or bs i 0 ≢ c) → list_any (λ b. eqb b c) bs ≡ false
lacks_byte c [] h = refl
lacks_byte c (x ∷ xs) h =
    let here : eqb x c ≡ false = false_from_ne_true _ (λ e. h 0 (omega arith) ((Decides-eqb x c).0 e)) in
    let below : list_any (λ b. eqb b c) xs ≡ false = lacks_byte c xs (λ i inside. h (suc i) (omega arith)) in
    grind (arith, here, below)

pub no_piece : (r : Option (Bor (List ℕ))) (t : Option (List ℕ)) → option_map (λ x. x.now) r ≡ t → r ≡ None → None ≡ option_map value_in t
no_piece r t e none = ap (option_map value_in) (sym (ap (option_map (λ x. x.now)) none) ∙ e)

pub one_piece : (r : Option (Bor (List ℕ))) (t : Option (List ℕ)) (x : Bor (List ℕ)) (v : List ℕ) → option_map (λ x. x.now) r ≡ t
    → r ≡ Some x → v ≡ value_in x.now → Some v ≡ option_map value_in t
one_piece r t x v e some same = ap Some same ∙ ap (option_map value_in) (sym (ap (option_map (λ x. x.now)) some) ∙ e)
