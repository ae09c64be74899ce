-- The place of the first entry that passes a test.
use Rattle.std.proofs.Common.{◌≡◌, ℕ, ◌+◌, Bool, true, false, List, [], ◌∷◌, Option, Some, None, cond, ap, refl, ◌∙◌, arith}
use Rattle.std.specs.List.{position_from}
use Rattle.std.specs.Option.{option_map}
use Rattle.envoy_types.specs.Access.{first_position}

further : (n : ℕ) (position : Option ℕ)
    → option_map (λ k. k + (n + 1)) position ≡ option_map (λ k. k + n) (option_map (λ k. k + 1) position)
further n None = refl
further n (Some k) = ap Some (omega arith)

-- counted from a number on
counted : {A : Type 0} (test : A → Bool) (n : ℕ) (xs : List A) → position_from test n xs ≡ option_map (λ k. k + n) (first_position test xs)
counted test n [] = refl
counted test n (x ∷ xs) = at (test x) (counted test (n + 1) xs ∙ further n (first_position test xs)) where
  at : (b : Bool) → position_from test (n + 1) xs ≡ option_map (λ k. k + n) (option_map (λ k. k + 1) (first_position test xs))
      → cond b (Some n) (position_from test (n + 1) xs)
      ≡ option_map (λ k. k + n) (cond b (Some 0) (option_map (λ k. k + 1) (first_position test xs)))
  at true h = ap Some (omega arith)
  at false h = h

from_none : (position : Option ℕ) → option_map (λ k. k + 0) position ≡ position
from_none None = refl
from_none (Some k) = ap Some (omega arith)

pub position-first : {A : Type 0} (test : A → Bool) (xs : List A) → position_from test 0 xs ≡ first_position test xs
position-first test xs = counted test 0 xs ∙ from_none (first_position test xs)
