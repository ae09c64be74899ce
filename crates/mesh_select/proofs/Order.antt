-- Entries that are put in their places one after another, and what a set of them finds.
use Rattle.std.proofs.Common.{◌≡◌, ℕ, Bool, true, false, ◌&&◌, ◌||◌, List, [], ◌∷◌, filter, if◌then◌else◌, refl, sym, ◌∙◌, ap, ap₂}
use Rattle.std.proofs.lemmas.Bool.{or_parts}
use Rattle.std.proofs.lemmas.Cmp.{alike_right, nat_list_cmp_total, on_total, then_total}
use Rattle.std.proofs.lemmas.List.Kept.{AllPairs-filter}
use Rattle.std.proofs.lemmas.Map.Keys.{IsDistinct-from_apart, IsDistinct-head, IsDistinct-tail}
use Rattle.std.proofs.lemmas.Map.Text.{is_eq-slice_cmp}
use Rattle.std.specs.BTreeMap.{is_at}
use Rattle.std.specs.BTreeSet.{insert_key}
use Rattle.std.specs.Cmp.{IsTotalOrder}
use Rattle.std.specs.Cmp.Lexicographic.{slice_cmp}
use Rattle.std.specs.List.{AllByRecursion, IsDistinct, fold, list_any}
use Rattle.std.specs.Ordering.{is_eq, is_lt, match_ordering, nat_cmp, ordering_reverse, ordering_then}
use Rattle.std.specs.declared.cmp.Ordering.{Ordering}
use Rattle.std.specs.declared.cmp.Ordering.TheVariants.{Less, Equal, Greater}
use Rattle.mesh_policy.specs.AcceptedLists.{EachOnce}
use Rattle.mesh_policy.specs.Applying.{comes_before}
use Rattle.mesh_policy.specs.Lists.{in_order, put}
use Rattle.mesh_policy.proofs.Listed.{or-swap}
use Rattle.mesh_select.specs.Applying.{pair_order, placed, same_pair}

or-same : (a b c : Bool) → a ≡ b → (b || c) ≡ (a || (b || c))
or-same true true c e = refl
or-same true false c e = cc
or-same false b c e = refl

or-false : (b : Bool) → (b || false) ≡ b
or-false true = refl
or-false false = refl

or-turn : (a b c : Bool) → ((a || b) || c) ≡ (b || (a || c))
or-turn true true c = refl
or-turn true false c = refl
or-turn false true c = refl
or-turn false false c = refl

none-from : {A : Type 0} (test : A → Bool) (xs : List A) → AllByRecursion (λ x. test x ≡ false) xs → list_any test xs ≡ false
none-from test [] h = refl
none-from test (x ∷ xs) h = ap₂ (λ (a b : Bool). a || b) h.0 (none-from test xs h.1)

module _ {A : Type 0} {R : A → A → Ordering} (o : IsTotalOrder R) where
  any_insert : (q k : A) (ks : List A) → list_any (is_at (R q)) (insert_key R ks k) ≡ (is_at (R q) k || list_any (is_at (R q)) ks)
  any_insert q k [] = refl
  any_insert q k (x ∷ xs) = at (R k x) refl (any_insert q k xs) where
    at : (r : Ordering) → R k x ≡ r → list_any (is_at (R q)) (insert_key R xs k) ≡ (is_at (R q) k || list_any (is_at (R q)) xs)
        → list_any (is_at (R q)) (match_ordering r (k ∷ x ∷ xs) (x ∷ xs) (x ∷ insert_key R xs k)) ≡ (is_at (R q) k || (is_at (R q) x || list_any (is_at (R q)) xs))
    at Less e inner = refl
    at Equal e inner = or-same (is_at (R q) k) (is_at (R q) x) (list_any (is_at (R q)) xs) (ap is_eq (alike_right o k x q e))
    at Greater e inner =
        ap (λ (r : Bool). is_at (R q) x || r) inner ∙ or-swap (is_at (R q) x) (is_at (R q) k) (list_any (is_at (R q)) xs)

  -- a set finds what was in it and what was put in
  pub any_inserted : (q : A) (ks xs : List A)
      → list_any (is_at (R q)) (fold (insert_key R) ks xs) ≡ (list_any (is_at (R q)) ks || list_any (is_at (R q)) xs)
  any_inserted q ks [] = sym (or-false (list_any (is_at (R q)) ks))
  any_inserted q ks (x ∷ xs) =
      any_inserted q (insert_key R ks x) xs
      ∙ ap (λ (r : Bool). r || list_any (is_at (R q)) xs) (any_insert q x ks)
      ∙ or-turn (is_at (R q) x) (list_any (is_at (R q)) ks) (list_any (is_at (R q)) xs)

  any_placed : (q : A) (xs : List A) → list_any (is_at (R q)) (placed R xs) ≡ list_any (is_at (R q)) xs
  any_placed q [] = refl
  any_placed q (x ∷ xs) = any_insert q x (placed R xs) ∙ ap (λ (r : Bool). is_at (R q) x || r) (any_placed q xs)

  put-insert : (x : A) (ys : List A) → list_any (is_at (R x)) ys ≡ false → put (λ a b. is_lt (R a b)) x ys ≡ insert_key R ys x
  put-insert x [] h = refl
  put-insert x (y ∷ ys) h =
      at (R x y) (R y x) (o.antisymm y x) (or_parts (is_at (R x) y) (list_any (is_at (R x)) ys) h).0
      (put-insert x ys (or_parts (is_at (R x) y) (list_any (is_at (R x)) ys) h).1) where
        at : (r s : Ordering) → s ≡ ordering_reverse r → is_eq r ≡ false → put (λ a b. is_lt (R a b)) x ys ≡ insert_key R ys x
            → (if is_lt s then y ∷ put (λ a b. is_lt (R a b)) x ys else x ∷ y ∷ ys) ≡ match_ordering r (x ∷ y ∷ ys) (y ∷ ys) (y ∷ insert_key R ys x)
        at Less s e n inner = ap (λ (s : Ordering). if is_lt s then y ∷ put (λ a b. is_lt (R a b)) x ys else x ∷ y ∷ ys) e
        at Equal s e n inner = cc
        at Greater s e n inner =
            ap (λ (s : Ordering). if is_lt s then y ∷ put (λ a b. is_lt (R a b)) x ys else x ∷ y ∷ ys) e ∙ ap (λ (r : List A). y ∷ r) inner

  -- entries of which no two tie are in order
  pub in_order-placed : (xs : List A) → IsDistinct (λ a b. is_eq (R a b)) xs → in_order (λ a b. is_lt (R a b)) xs ≡ placed R xs
  in_order-placed [] h = refl
  in_order-placed (x ∷ xs) h =
      ap (put (λ a b. is_lt (R a b)) x) (in_order-placed xs (IsDistinct-tail (λ a b. is_eq (R a b)) x xs h))
      ∙ put-insert x (placed R xs)
      (any_placed x xs ∙ none-from (is_at (R x)) xs (IsDistinct-head (λ a b. is_eq (R a b)) x xs h))

-- ---- by two texts

is_eq-then : (r s : Ordering) → is_eq (ordering_then r s) ≡ (is_eq r && is_eq s)
is_eq-then Less s = refl
is_eq-then Equal s = refl
is_eq-then Greater s = refl

module _ {A : Type 0} (pair : A → List ℕ × List ℕ) where
  pub pair_order-total : IsTotalOrder (pair_order pair)
  pair_order-total = then_total (on_total (λ a. (pair a).0) nat_list_cmp_total) (on_total (λ a. (pair a).1) nat_list_cmp_total)

  pub pair_order-same : (a b : A) → is_eq (pair_order pair a b) ≡ same_pair (pair a) (pair b)
  pair_order-same a b =
      is_eq-then (slice_cmp nat_cmp (pair a).0 (pair b).0) (slice_cmp nat_cmp (pair a).1 (pair b).1)
      ∙ ap₂ (λ (x y : Bool). x && y) (is_eq-slice_cmp (pair a).0 (pair b).0) (is_eq-slice_cmp (pair a).1 (pair b).1)

  -- those that pass a test are in order
  pub applying-placed : (test : A → Bool) (xs : List A) → EachOnce (λ p q. same_pair (pair p) (pair q)) xs
      → in_order (λ p q. comes_before (pair p) (pair q)) (filter test xs) ≡ placed (pair_order pair) (filter test xs)
  applying-placed test xs h =
      in_order-placed pair_order-total (filter test xs)
      (IsDistinct-from_apart (λ a b. is_eq (pair_order pair a b)) (filter test xs)
      (λ i j d before within. pair_order-same _ _ ∙ AllPairs-filter (λ p q. same_pair (pair p) (pair q) ≡ false) test xs h i j d before within))
