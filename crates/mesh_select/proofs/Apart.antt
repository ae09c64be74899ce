-- What holds of each entry and each later one, in a list that is mapped, and in one that is put in order: entries of
-- which no two are the same stay so.
use Rattle.std.proofs.Common.{suc, Bool, true, false, cond, All, AllPairs, List, [], ◌∷◌, map, arith}
use Rattle.std.proofs.lemmas.List.Elements.{All-head, All-map, All-tail}
use Rattle.std.proofs.lemmas.List.Kept.{AllPairs-cons}
use Rattle.mesh_policy.specs.Lists.{in_order, put}
use Rattle.mesh_select.proofs.Bounds.{all-in_order, all-put}

module _ {A : Type 0} (R : A → A → Type 0) where
  pub pairs-nil : AllPairs R []
  pairs-nil = λ i j d before within. absurd (omega arith)

  pub pairs-head : (x : A) (xs : List A) → AllPairs R (x ∷ xs) → All (R x) xs
  pairs-head x xs h = λ k d within. h 0 (suc k) d (omega arith) (omega arith)

  pub pairs-tail : (x : A) (xs : List A) → AllPairs R (x ∷ xs) → AllPairs R xs
  pairs-tail x xs h = λ i j d before within. h (suc i) (suc j) d (omega arith) (omega arith)

  module _ (turned : (x y : A) → R x y → R y x) (before : A → A → Bool) where
    pairs-put : (x : A) (ys : List A) → All (R x) ys → AllPairs R ys → AllPairs R (put before x ys)
    pairs-put x [] a h = AllPairs-cons R x [] a h
    pairs-put x (y ∷ ys) a h = at (before y x) (pairs-put x ys (All-tail (R x) y ys a) (pairs-tail y ys h)) where
      at : (b : Bool) → AllPairs R (put before x ys) → AllPairs R (cond b (y ∷ put before x ys) (x ∷ y ∷ ys))
      at true inner =
          AllPairs-cons R y (put before x ys)
          (all-put before (R y) x ys (turned x y (All-head (R x) y ys a)) (pairs-head y ys h)) inner
      at false inner = AllPairs-cons R x (y ∷ ys) a h

    pub pairs-in_order : (xs : List A) → AllPairs R xs → AllPairs R (in_order before xs)
    pairs-in_order [] h = h
    pairs-in_order (x ∷ xs) h =
        pairs-put x (in_order before xs) (all-in_order before (R x) xs (pairs-head x xs h)) (pairs-in_order xs (pairs-tail x xs h))

pub pairs-map : {A B : Type 0} (R : B → B → Type 0) (f : A → B) (xs : List A) → AllPairs (λ x y. R (f x) (f y)) xs → AllPairs R (map f xs)
pairs-map R f [] h = pairs-nil R
pairs-map {A} R f (x ∷ xs) h =
    AllPairs-cons R (f x) (map f xs) (All-map (R (f x)) f xs (pairs-head (λ (a b : A). R (f a) (f b)) x xs h))
    (pairs-map R f xs (pairs-tail (λ (a b : A). R (f a) (f b)) x xs h))
