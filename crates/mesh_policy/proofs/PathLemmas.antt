-- A text that is cut twice is cut at the first of both.
use Rattle.std.proofs.Common.{◌≡◌, ℕ, ◌+◌, ◌||◌, Bool, true, false, List, [], ◌∷◌, ap, sym, ◌∙◌, refl, arith}
use Rattle.std.proofs.lemmas.Bool.{or_from, or_left, or_right}
use Rattle.std.specs.List.{before_first, position_or_len}
use Prim.Native.Nat.{suc}

stops : (p : ℕ → Bool) (x : ℕ) (xs : List ℕ) → p x ≡ true → before_first p (x ∷ xs) ≡ []
stops p x xs e = rw e refl

goes_on : (p : ℕ → Bool) (x : ℕ) (xs : List ℕ) → p x ≡ false → before_first p (x ∷ xs) ≡ x ∷ before_first p xs
goes_on p x xs e = let next : 1 + position_or_len p xs ≡ suc (position_or_len p xs) = omega arith in rw (e, next) refl

pub cut_twice : (p q : ℕ → Bool) (xs : List ℕ) → before_first p (before_first q xs) ≡ before_first (λ c. p c || q c) xs
cut_twice p q [] = refl
cut_twice p q (x ∷ xs) = at_head (q x) (p x) refl refl (cut_twice p q xs)
  where
    at_head : (second first : Bool) → q x ≡ second → p x ≡ first → before_first p (before_first q xs) ≡ before_first (λ c. p c || q c) xs
        → before_first p (before_first q (x ∷ xs)) ≡ before_first (λ c. p c || q c) (x ∷ xs)
    at_head true first e f below = ap (before_first p) (stops q x xs e) ∙ sym (stops (λ c. p c || q c) x xs (or_right (p x) (q x) e))
    at_head false true e f below =
        ap (before_first p) (goes_on q x xs e) ∙ stops p x (before_first q xs) f
        ∙ sym (stops (λ c. p c || q c) x xs (or_left (p x) (q x) f))
    at_head false false e f below =
        ap (before_first p) (goes_on q x xs e) ∙ goes_on p x (before_first q xs) f ∙ ap (λ ys. x ∷ ys) below
        ∙ sym (goes_on (λ c. p c || q c) x xs (or_from (p x) (q x) f e))
