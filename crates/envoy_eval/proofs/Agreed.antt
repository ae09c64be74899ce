-- The first name that one of several chains lists, chain by chain.
use Rattle.std.proofs.Common.{◌≡◌, ℕ, zero, suc, ◌+◌, ◌<◌, ◌≤◌, Bool, true, false, not, ◌||◌, List, [], ◌∷◌, length, take, drop, get_or}
use Rattle.std.proofs.Common.{find, Option, cond, ap, sym, refl, ◌∙◌, arith}
use Rattle.std.proofs.lemmas.List.{drop_all, drop_more, length-take-le}
use Rattle.std.proofs.lemmas.List.Folds.{find_at}
use Rattle.std.proofs.lemmas.List.Sums.{prefix_len-le-length}
use Rattle.std.specs.List.{list_any, position_or_len, slice_get}

next : (n : ℕ) → 1 + n ≡ suc n
next n = omega arith

take-next : {A : Type 0} (n : ℕ) (x : A) (xs : List A) → take (1 + n) (x ∷ xs) ≡ x ∷ take n xs
take-next n x xs = ap (λ k. take k (x ∷ xs)) (next n)

-- where a name passes one of two tests: among those in front of the first that passes the one, the other is asked
cut : {A : Type 0} (p q : A → Bool) (xs : List A)
    → position_or_len (λ x. p x || q x) xs ≡ position_or_len q (take (position_or_len p xs) xs)
cut p q [] = refl
cut p q (x ∷ xs) = at (p x) (q x) refl (cut p q xs) where
  at : (b d : Bool) → q x ≡ d → position_or_len (λ x. p x || q x) xs ≡ position_or_len q (take (position_or_len p xs) xs)
      → cond (not (b || d)) (1 + position_or_len (λ x. p x || q x) xs) 0
      ≡ position_or_len q (take (cond (not b) (1 + position_or_len p xs) 0) (x ∷ xs))
  at true d f h = refl
  at false true f h = sym (ap (position_or_len q) (take-next (position_or_len p xs) x xs) ∙ rw f refl)
  at false false f h =
      ap (λ n. 1 + n) h ∙ sym (ap (position_or_len q) (take-next (position_or_len p xs) x xs) ∙ rw f refl)

-- the first that passes stands in the front that is looked at
take-front : {A : Type 0} (p : A → Bool) (n : ℕ) (xs : List A)
    → take (position_or_len p (take n xs)) (take n xs) ≡ take (position_or_len p (take n xs)) xs
take-front p zero xs = refl
take-front p (suc n) [] = refl
take-front p (suc n) (x ∷ xs) = at (p x) (take-front p n xs) where
  at : (b : Bool) → take (position_or_len p (take n xs)) (take n xs) ≡ take (position_or_len p (take n xs)) xs
      → take (cond (not b) (1 + position_or_len p (take n xs)) 0) (x ∷ take n xs)
      ≡ take (cond (not b) (1 + position_or_len p (take n xs)) 0) (x ∷ xs)
  at true h = refl
  at false h = take-next _ x (take n xs) ∙ ap (λ ys. x ∷ ys) h ∙ sym (take-next _ x xs)

pub none-passes : {A : Type 0} (xs : List A) → length xs ≡ position_or_len (λ x. false) xs
none-passes [] = refl
none-passes (x ∷ xs) = sym (next (length xs)) ∙ ap (λ n. 1 + n) (none-passes xs)

module _ {A C : Type 0} (lists : C → A → Bool) where
  -- the first name that one of the chains lists
  abbrev pub agreed : List C → List A → ℕ
  agreed chains names = position_or_len (λ name. list_any (λ c. lists c name) chains) names

  -- a chain cuts the names down
  pub one_more : (chains : List C) (i : ℕ) (c : C) (names : List A) (first later : ℕ) → i < length chains → c ≡ get_or chains i c
      → first ≤ length names → later ≡ position_or_len (lists c) (take first names)
      → agreed chains names ≡ agreed (drop i chains) (take first names)
      → (later ≤ length names) × (agreed chains names ≡ agreed (drop (i + 1) chains) (take later names))
  one_more chains i c names first later within is bound e h = (
    (let size : position_or_len (lists c) (take first names) ≤ length (take first names) =
        prefix_len-le-length (λ name. not (lists c name)) (take first names) in
        let full : length (take first names) ≡ first = length-take-le first names bound in
        omega (arith, e, size, full, bound)),
    h
        ∙ ap (λ cs. agreed cs (take first names)) (drop_more chains i c within ∙ ap (λ x. x ∷ drop (i + 1) chains) (sym is))
        ∙ cut (lists c) (λ name. list_any (λ d. lists d name) (drop (i + 1) chains)) (take first names)
        ∙ ap (agreed (drop (i + 1) chains)) (take-front (lists c) first names)
        ∙ ap (λ n. agreed (drop (i + 1) chains) (take n names)) (sym e),
  )

  -- where all were looked at
  pub all : (chains : List C) (i : ℕ) (names : List A) (first : ℕ) → length chains ≤ i → first ≤ length names
      → agreed chains names ≡ agreed (drop i chains) (take first names) → first ≡ agreed chains names
  all chains i names first done bound h =
      sym (h ∙ ap (λ cs. agreed cs (take first names)) (drop_all i chains done)
      ∙ sym (none-passes (take first names)) ∙ length-take-le first names bound)

-- the name there
pub name-at : {A : Type 0} (p : A → Bool) (names : List A) (first : ℕ) (found : Option A) → first ≡ position_or_len p names
    → found ≡ slice_get names first → found ≡ find p names
name-at p names first found e h = h ∙ ap (slice_get names) e ∙ sym (find_at p names)
