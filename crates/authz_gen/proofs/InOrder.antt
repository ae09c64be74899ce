-- What is put in order has the same entries, and rises where no two names are the same.
use Rattle.std.proofs.Common.{◌≡◌, ℕ, Bool, true, false, not, ◌&&◌, ◌||◌, List, [], ◌∷◌, refl, sym, ◌∙◌, ap, cond}
use Rattle.std.proofs.lemmas.Bool.{and_from, and_parts}
use Rattle.std.proofs.lemmas.Cmp.{nat_list_cmp_total}
use Rattle.std.proofs.lemmas.Map.Text.{is_eq-slice_cmp}
use Rattle.std.specs.Cmp.Lexicographic.{slice_cmp}
use Rattle.std.specs.List.{list_all, list_any}
use Rattle.std.specs.Ordering.{is_eq, is_lt, nat_cmp, ordering_reverse}
use Rattle.std.specs.Str.{bytes_eq}
use Rattle.std.specs.declared.cmp.Ordering.{Ordering}
use Rattle.std.specs.declared.cmp.Ordering.TheVariants.{Less, Equal, Greater}
use Rattle.mesh_policy.specs.Lists.{in_order, put}
use Rattle.mesh_policy.proofs.Listed.{list_all-in_order, list_all-weaker}
use Rattle.envoy_types.specs.Order.{is_below, names_rise}

exchanged : (a b c : Bool) → (a || (b || c)) ≡ (b || (a || c))
exchanged true true c = refl
exchanged true false c = refl
exchanged false b c = refl

both_exchanged : (a b c : Bool) → (a && (b && c)) ≡ (b && (a && c))
both_exchanged true b c = refl
both_exchanged false true c = refl
both_exchanged false false c = refl

module _ {A : Type 0} (before : A → A → Bool) (test : A → Bool) where
  any-put : (x : A) (ys : List A) → list_any test (put before x ys) ≡ (test x || list_any test ys)
  any-put x [] = refl
  any-put x (y ∷ ys) = at (before y x) (any-put x ys) where
    at : (b : Bool) → list_any test (put before x ys) ≡ (test x || list_any test ys)
        → list_any test (cond b (y ∷ put before x ys) (x ∷ y ∷ ys)) ≡ (test x || list_any test (y ∷ ys))
    at true inner = ap (λ b. test y || b) inner ∙ exchanged (test y) (test x) (list_any test ys)
    at false inner = refl

  -- one passes, wherever it stands
  pub any-in_order : (xs : List A) → list_any test (in_order before xs) ≡ list_any test xs
  any-in_order [] = refl
  any-in_order (x ∷ xs) = any-put x (in_order before xs) ∙ ap (λ b. test x || b) (any-in_order xs)

  pub all-put : (x : A) (ys : List A) → list_all test (put before x ys) ≡ (test x && list_all test ys)
  all-put x [] = refl
  all-put x (y ∷ ys) = at (before y x) (all-put x ys) where
    at : (b : Bool) → list_all test (put before x ys) ≡ (test x && list_all test ys)
        → list_all test (cond b (y ∷ put before x ys) (x ∷ y ∷ ys)) ≡ (test x && list_all test (y ∷ ys))
    at true inner = ap (λ b. test y && b) inner ∙ both_exchanged (test y) (test x) (list_all test ys)
    at false inner = refl

-- ---- names in byte order

less : (o : Ordering) → is_lt o ≡ true → o ≡ Less
less Less h = refl
less Equal h = cc
less Greater h = cc

below-later : (x y z : List ℕ) → is_below x y ≡ true → is_below y z ≡ true → is_below x z ≡ true
below-later x y z h k = ap is_lt (nat_list_cmp_total.trans x y z (less (slice_cmp nat_cmp x y) h) (less (slice_cmp nat_cmp y z) k))

below-other : (x y : List ℕ) → is_below y x ≡ false → bytes_eq x y ≡ false → is_below x y ≡ true
below-other x y h k = at (slice_cmp nat_cmp x y) (nat_list_cmp_total.antisymm y x) (is_eq-slice_cmp x y) where
  at : (o : Ordering) → slice_cmp nat_cmp y x ≡ ordering_reverse o → is_eq o ≡ bytes_eq x y → is_lt o ≡ true
  at Less e same = refl
  at Equal e same = sym (same ∙ k)
  at Greater e same = sym h ∙ ap is_lt e

module _ {A : Type 0} (name : A → List ℕ) where
  abbrev pub name_before : A → A → Bool
  name_before a b = is_below (name a) (name b)

  abbrev pub is_apart : A → A → Bool
  is_apart a b = not (bytes_eq (name a) (name b))

  -- no two names are the same
  abbrev pub are_apart : List A → Bool
  are_apart [] = true
  are_apart (x ∷ xs) = list_all (is_apart x) xs && are_apart xs

  unlike : (b : Bool) → not b ≡ true → b ≡ false
  unlike true h = cc
  unlike false h = refl

  rises-put : (x : A) (ys : List A) → names_rise name ys ≡ true → list_all (is_apart x) ys ≡ true
      → names_rise name (put name_before x ys) ≡ true
  rises-put x [] rise apart = refl
  rises-put x (y ∷ ys) rise apart =
      let below = and_parts (list_all (name_before y) ys) (names_rise name ys) rise in
      let others = and_parts (is_apart x y) (list_all (is_apart x) ys) apart in
      at (name_before y x) refl below.0 (unlike (bytes_eq (name x) (name y)) others.0) (rises-put x ys below.1 others.1) where
        at : (b : Bool) → name_before y x ≡ b → list_all (name_before y) ys ≡ true → bytes_eq (name x) (name y) ≡ false
            → names_rise name (put name_before x ys) ≡ true
            → names_rise name (cond b (y ∷ put name_before x ys) (x ∷ y ∷ ys)) ≡ true
        at true e below other inner = and_from _ _ (all-put name_before (name_before y) x ys ∙ and_from _ _ e below) inner
        at false e below other inner =
            let here : name_before x y ≡ true = below-other (name x) (name y) e other in
            and_from _ _
            (and_from _ _ here
            (list_all-weaker (name_before y) (name_before x) (λ z. below-later (name x) (name y) (name z) here) ys below)) rise

  pub rises-in_order : (xs : List A) → are_apart xs ≡ true → names_rise name (in_order name_before xs) ≡ true
  rises-in_order [] apart = refl
  rises-in_order (x ∷ xs) apart =
      let parts = and_parts (list_all (is_apart x) xs) (are_apart xs) apart in
      rises-put x (in_order name_before xs) (rises-in_order xs parts.1) (list_all-in_order name_before (is_apart x) xs ∙ parts.0)
