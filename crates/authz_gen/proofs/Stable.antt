-- A stable sort puts entries in order: two lists in order, where those that tie stand alike, are the same.
use Rattle.std.proofs.Common.{◌≡◌, ℕ, ◌<◌, ◌≤◌, Bool, true, false, not, ◌&&◌, List, [], ◌∷◌, cond, filter, get_or, length, suc}
use Rattle.std.proofs.Common.{refl, sym, ◌∙◌, ap, arith}
use Rattle.std.proofs.lemmas.Bool.{and_from}
use Rattle.std.proofs.lemmas.List.Sorted.{sorted_far}
use Rattle.std.specs.Cmp.{IsStrictWeakOrder}
use Rattle.std.specs.List.{list_all}
use Rattle.std.specs.List.Sorted.{IsSortedBy, IsStableBy, ties}
use Rattle.mesh_policy.specs.Lists.{in_order, put}
use Rattle.mesh_policy.proofs.Listed.{left_of, list_all-weaker, right_of}
use Rattle.authz_gen.proofs.InOrder.{all-put}

from-not : (b : Bool) → not b ≡ true → b ≡ false
from-not true h = cc
from-not false h = refl

module _ {A : Type 0} where
  swapped : (a b : Bool) (x y : A) (rest : List A) → (a ≡ true → b ≡ true → ⊥)
      → cond a (y ∷ cond b (x ∷ rest) rest) (cond b (x ∷ rest) rest) ≡ cond b (x ∷ cond a (y ∷ rest) rest) (cond a (y ∷ rest) rest)
  swapped true true x y rest h = absurd (h refl refl)
  swapped true false x y rest h = refl
  swapped false true x y rest h = refl
  swapped false false x y rest h = refl

  first-same : (a b : Bool) (x y : A) (xs ys : List A) → a ≡ true → b ≡ true → cond a (y ∷ ys) ys ≡ cond b (x ∷ xs) xs → y ≡ x
  first-same true true x y xs ys ha hb h = cc
  first-same true false x y xs ys ha hb h = cc
  first-same false b x y xs ys ha hb h = cc

  rest-same : (a b : Bool) (x y : A) (xs ys : List A) → a ≡ b → cond a (y ∷ ys) ys ≡ cond b (x ∷ xs) xs → ys ≡ xs
  rest-same true true x y xs ys e h = cc
  rest-same true false x y xs ys e h = cc
  rest-same false true x y xs ys e h = cc
  rest-same false false x y xs ys e h = h

  not-none : (a : Bool) (x : A) (xs : List A) → a ≡ true → cond a (x ∷ xs) xs ≡ [] → ⊥
  not-none true x xs e h = cc
  not-none false x xs e h = cc

module _ {A : Type 0} (before : A → A → Bool) (o : IsStrictWeakOrder before) where
  abbrev is_later : A → A → Bool
  is_later x y = not (before y x)

  abbrev ascends : List A → Bool
  ascends [] = true
  ascends (x ∷ xs) = list_all (is_later x) xs && ascends xs

  ascends-put : (x : A) (ys : List A) → ascends ys ≡ true → ascends (put before x ys) ≡ true
  ascends-put x [] h = refl
  ascends-put x (y ∷ ys) h = at (before y x) refl (left_of _ _ h) (ascends-put x ys (right_of (list_all (is_later y) ys) _ h)) where
    at : (b : Bool) → before y x ≡ b → list_all (is_later y) ys ≡ true → ascends (put before x ys) ≡ true
        → ascends (cond b (y ∷ put before x ys) (x ∷ y ∷ ys)) ≡ true
    at true e below inner = and_from _ _ (all-put before (is_later y) x ys ∙ and_from _ _ (ap not (o.one_way y x e)) below) inner
    at false e below inner =
        and_from _ _ (and_from _ _ (ap not e)
        (list_all-weaker (is_later y) (is_later x) (λ z k. ap not (o.chain z y x (from-not (before z y) k) e)) ys below)) h

  ascends-in_order : (xs : List A) → ascends (in_order before xs) ≡ true
  ascends-in_order [] = refl
  ascends-in_order (x ∷ xs) = ascends-put x (in_order before xs) (ascends-in_order xs)

  -- ---- those that tie stand as they stood

  tie-parts : (x y : A) → ties before x y ≡ true → (before x y ≡ false) × (before y x ≡ false)
  tie-parts x y h =
      (from-not (before x y) (left_of (not (before x y)) _ h), from-not (before y x) (right_of (not (before x y)) _ h))

  no-third : (k x y : A) → before y x ≡ true → ties before k y ≡ true → ties before k x ≡ true → ⊥
  no-third k x y e hy hx =
      let none : before y x ≡ false = o.chain y k x (tie-parts k y hy).1 (tie-parts k x hx).0 in
      let both : true ≡ false = sym e ∙ none in
      cc

  filter-put : (k x : A) (ys : List A) → filter (ties before k) (put before x ys) ≡ filter (ties before k) (x ∷ ys)
  filter-put k x [] = refl
  filter-put k x (y ∷ ys) = at (before y x) refl (filter-put k x ys) where
    at : (b : Bool) → before y x ≡ b → filter (ties before k) (put before x ys) ≡ filter (ties before k) (x ∷ ys)
        → filter (ties before k) (cond b (y ∷ put before x ys) (x ∷ y ∷ ys)) ≡ filter (ties before k) (x ∷ y ∷ ys)
    at true e inner =
        ap (λ (l : List A). cond (ties before k y) (y ∷ l) l) inner
        ∙ swapped (ties before k y) (ties before k x) x y (filter (ties before k) ys) (no-third k x y e)
    at false e inner = refl

  filter-in_order : (k : A) (xs : List A) → filter (ties before k) (in_order before xs) ≡ filter (ties before k) xs
  filter-in_order k [] = refl
  filter-in_order k (x ∷ xs) =
      filter-put k x (in_order before xs) ∙ ap (λ (l : List A). cond (ties before k x) (x ∷ l) l) (filter-in_order k xs)

  -- ---- so the list is the same

  itself : (x : A) → before x x ≡ false
  itself x = at (before x x) refl where
    at : (b : Bool) → before x x ≡ b → b ≡ false
    at true e = sym e ∙ o.one_way x x e
    at false e = refl

  both-not : (a b : Bool) → a ≡ false → b ≡ false → (not a && not b) ≡ true
  both-not a b ha hb = and_from _ _ (ap not ha) (ap not hb)

  before-later : (x y z : A) → before y x ≡ true → is_later x z ≡ true → before y z ≡ true
  before-later x y z e h = at (before y z) refl where
    at : (b : Bool) → before y z ≡ b → b ≡ true
    at true k = refl
    at false k = sym (o.chain y z x k (from-not (before z x) h)) ∙ e

  none-tie : (k : A) (xs : List A) → list_all (before k) xs ≡ true → filter (ties before k) xs ≡ []
  none-tie k [] h = refl
  none-tie k (x ∷ xs) h =
      at (before k x) (left_of _ _ h) (none-tie k xs (right_of (before k x) _ h)) where
        at : (b : Bool) → b ≡ true → filter (ties before k) xs ≡ []
            → cond (not b && not (before x k)) (x ∷ filter (ties before k) xs) (filter (ties before k) xs) ≡ []
        at true e inner = inner
        at false e inner = cc

  not-before : (x y : A) (xs ys : List A) → before y x ≡ true → list_all (is_later x) xs ≡ true
      → filter (ties before y) (y ∷ ys) ≡ filter (ties before y) (x ∷ xs) → ⊥
  not-before x y xs ys e later h =
      let all = and_from (before y x) (list_all (before y) xs) e
      (list_all-weaker (is_later x) (before y) (λ z k. before-later x y z e k) xs later) in
      not-none (ties before y y) y (filter (ties before y) ys) (both-not _ _ (itself y) (itself y)) (h ∙ none-tie y (x ∷ xs) all)

  same-first : (x y : A) (xs ys : List A) → ascends (x ∷ xs) ≡ true → ascends (y ∷ ys) ≡ true
      → ((k : A) → filter (ties before k) (y ∷ ys) ≡ filter (ties before k) (x ∷ xs)) → y ≡ x
  same-first x y xs ys hx hy h = at (before y x) (before x y) refl refl where
    at : (b c : Bool) → before y x ≡ b → before x y ≡ c → y ≡ x
    at true c e f = absurd (not-before x y xs ys e (left_of _ _ hx) (h y))
    at false true e f = absurd (not-before y x ys xs f (left_of _ _ hy) (sym (h x)))
    at false false e f =
        first-same (ties before x y) (ties before x x) x y (filter (ties before x) xs) (filter (ties before x) ys)
        (both-not _ _ f e) (both-not _ _ (itself x) (itself x)) (h x)

  same-list : (xs ys : List A) → ascends xs ≡ true → ascends ys ≡ true
      → ((k : A) → filter (ties before k) ys ≡ filter (ties before k) xs) → ys ≡ xs
  same-list [] [] hx hy h = refl
  same-list [] (y ∷ ys) hx hy h =
      absurd (not-none (ties before y y) y (filter (ties before y) ys) (both-not _ _ (itself y) (itself y)) (h y))
  same-list (x ∷ xs) [] hx hy h =
      absurd (not-none (ties before x x) x (filter (ties before x) xs) (both-not _ _ (itself x) (itself x)) (sym (h x)))
  same-list (x ∷ xs) (y ∷ ys) hx hy h =
      let first : y ≡ x = same-first x y xs ys hx hy h in
      let rest = same-list xs ys (right_of (list_all (is_later x) xs) _ hx) (right_of (list_all (is_later y) ys) _ hy)
      (λ k. rest-same (ties before k y) (ties before k x) x y (filter (ties before k) xs) (filter (ties before k) ys)
      (ap (ties before k) first) (h k)) in
      λ i. first i ∷ rest i

  -- ---- a sorted list ascends

  all-later : (x : A) (xs : List A) → ((j : ℕ) (d : A) → j < length xs → before (get_or xs j d) x ≡ false)
      → list_all (is_later x) xs ≡ true
  all-later x [] h = refl
  all-later x (y ∷ ys) h = and_from _ _ (ap not (h 0 y (omega arith))) (all-later x ys (λ j d within. h (suc j) d (omega arith)))

  ascends-from : (xs : List A)
      → ((i j : ℕ) (d : A) → i ≤ j → j < length xs → before (get_or xs j d) (get_or xs i d) ≡ false) → ascends xs ≡ true
  ascends-from [] h = refl
  ascends-from (x ∷ xs) h =
      and_from _ _ (all-later x xs (λ j d within. h 0 (suc j) d (omega arith) (omega arith)))
      (ascends-from xs (λ i j d before within. h (suc i) (suc j) d (omega arith) (omega arith)))

  -- what a stable sort makes of a list is the list in order
  pub sorted-in_order : (xs ys : List A) → IsSortedBy before ys → IsStableBy before xs ys → ys ≡ in_order before xs
  sorted-in_order xs ys sorted stable =
      same-list (in_order before xs) ys (ascends-in_order xs) (ascends-from ys (sorted_far before o ys sorted))
      (λ k. stable k ∙ sym (filter-in_order k xs))
