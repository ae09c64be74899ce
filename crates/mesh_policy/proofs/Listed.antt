-- Laws of lists that are filtered and put in order, and small laws of tests.
use Rattle.std.proofs.Common.{◌≡◌, Bool, true, false, cond, ◌&&◌, ◌||◌, List, [], ◌∷◌, filter, if◌then◌else◌, refl, ◌∙◌, ap}
use Rattle.std.specs.List.{list_all}
use Rattle.mesh_policy.specs.Lists.{put, in_order}

-- ---- tests

pub left_of : (a b : Bool) → (a && b) ≡ true → a ≡ true
left_of true b h = refl
left_of false b h = h

pub right_of : (a b : Bool) → (a && b) ≡ true → b ≡ true
right_of true b h = h
right_of false b h = cc

pub and-true : (b : Bool) → (b && true) ≡ b
and-true true = refl
and-true false = refl

pub or-swap : (a b c : Bool) → (a || (b || c)) ≡ (b || (a || c))
or-swap true true c = refl
or-swap true false c = refl
or-swap false true c = refl
or-swap false false c = refl

and-swap : (a b c : Bool) → (a && (b && c)) ≡ (b && (a && c))
and-swap true true c = refl
and-swap true false c = refl
and-swap false true c = refl
and-swap false false c = refl

-- ---- lists

module _ {A : Type 0} (before : A → A → Bool) where
  list_all-put : (test : A → Bool) (x : A) (ys : List A) → list_all test (put before x ys) ≡ (test x && list_all test ys)
  list_all-put test x [] = refl
  list_all-put test x (y ∷ ys) = at (before y x) (list_all-put test x ys) where
    at : (b : Bool) → list_all test (put before x ys) ≡ (test x && list_all test ys)
        → list_all test (if b then y ∷ put before x ys else x ∷ y ∷ ys) ≡ (test x && (test y && list_all test ys))
    at true inner = ap (λ (r : Bool). test y && r) inner ∙ and-swap (test y) (test x) (list_all test ys)
    at false inner = refl

  pub list_all-in_order : (test : A → Bool) (xs : List A) → list_all test (in_order before xs) ≡ list_all test xs
  list_all-in_order test [] = refl
  list_all-in_order test (x ∷ xs) = list_all-put test x (in_order before xs) ∙ ap (λ (r : Bool). test x && r) (list_all-in_order test xs)

module _ {A : Type 0} where
  pub list_all-filter : (test keep : A → Bool) (xs : List A) → list_all test xs ≡ true → list_all test (filter keep xs) ≡ true
  list_all-filter test keep [] h = refl
  list_all-filter test keep (x ∷ xs) h = at (keep x) (list_all-filter test keep xs (right_of (test x) _ h)) where
    at : (b : Bool) → list_all test (filter keep xs) ≡ true → list_all test (cond b (x ∷ filter keep xs) (filter keep xs)) ≡ true
    at true inner = ap (λ (b : Bool). b && list_all test (filter keep xs)) (left_of _ _ h) ∙ inner
    at false inner = inner

  pub list_all-weaker : (p q : A → Bool) → ((x : A) → p x ≡ true → q x ≡ true) → (xs : List A) → list_all p xs ≡ true → list_all q xs ≡ true
  list_all-weaker p q weaker [] h = refl
  list_all-weaker p q weaker (x ∷ xs) h = ap (λ (b : Bool). b && list_all q xs) (weaker x (left_of _ _ h))
      ∙ list_all-weaker p q weaker xs (right_of (p x) _ h)
