-- Among names that rise a search by halving finds the one entry that bears a name, or that none does.
use Rattle.std.proofs.Common.{◌≡◌, ℕ, zero, suc, ◌+◌, ◌<◌, Bool, true, false, List, [], ◌∷◌, find, get_or, length, Some, None}
use Rattle.std.proofs.Common.{Less, Equal, Greater, ◌⊎◌, inl, inr, refl, sym, ap, ◌∙◌, arith, is_eq, bytes_eq, ltb, ltb-true, ltb-false}
use Rattle.std.proofs.Common.{nat_cmp}
use Rattle.std.proofs.lemmas.Bool.{and_parts, cases_Bool}
use Rattle.std.proofs.lemmas.Cmp.{nat_list_cmp_total}
use Rattle.std.proofs.lemmas.List.Sorted.{searchable_from_sorted}
use Rattle.std.proofs.lemmas.Map.Lookups.{exact_bytes}
use Rattle.std.proofs.lemmas.Map.Text.{is_eq-slice_cmp}
use Rattle.std.specs.Cmp.Lexicographic.{slice_cmp}
use Rattle.std.specs.List.{list_all}
use Rattle.std.specs.List.Sorted.{IsNonDecreasingBy, IsPartitionPoint, IsSortedBy}
use Rattle.std.specs.Ordering.{is_lt, ordering_index, ordering_reverse}
use Rattle.std.specs.declared.cmp.Ordering.{Ordering}
use Rattle.envoy_types.specs.Order.{is_below, names_rise}

-- ---- of two names, one below the other

less : (o : Ordering) → is_lt o ≡ true → o ≡ Less
less Less h = refl
less Equal h = cc
less Greater h = cc

not-back : (x y : List ℕ) → is_below x y ≡ true → is_lt (slice_cmp nat_cmp y x) ≡ false
not-back x y h = ap is_lt (nat_list_cmp_total.antisymm y x ∙ ap ordering_reverse (less (slice_cmp nat_cmp x y) h))

-- a name below the wanted one is another
apart : (x y wanted : List ℕ) → is_below x y ≡ true → slice_cmp nat_cmp y wanted ≡ Equal → bytes_eq x wanted ≡ false
apart x y wanted h e =
    sym (is_eq-slice_cmp x wanted)
    ∙ ap (λ other. is_eq (slice_cmp nat_cmp x other)) (sym (exact_bytes y wanted e))
    ∙ ap is_eq (less (slice_cmp nat_cmp x y) h)

-- ---- names that rise are in order

passes-at : {A : Type 0} (p : A → Bool) (xs : List A) → list_all p xs ≡ true → (k : ℕ) (d : A) → k < length xs
    → p (get_or xs k d) ≡ true
passes-at p [] h k d within = absurd (omega arith)
passes-at p (x ∷ xs) h zero d within = (and_parts _ _ h).0
passes-at p (x ∷ xs) h (suc k) d within = passes-at p xs (and_parts _ _ h).1 k d (omega arith)

module _ {A : Type 0} (name : A → List ℕ) where
  next-above : (xs : List A) → names_rise name xs ≡ true → (k : ℕ) (d : A) → suc k < length xs
      → is_lt (slice_cmp nat_cmp (name (get_or xs (suc k) d)) (name (get_or xs k d))) ≡ false
  next-above [] h k d within = absurd (omega arith)
  next-above (x ∷ xs) h zero d within =
      not-back (name x) (name (get_or xs 0 d))
      (passes-at (λ later. is_below (name x) (name later)) xs (and_parts _ _ h).0 0 d (omega arith))
  next-above (x ∷ xs) h (suc k) d within = next-above xs (and_parts _ _ h).1 k d (omega arith)

  in-order : (xs : List A) → names_rise name xs ≡ true → IsSortedBy (λ x y. is_lt (slice_cmp nat_cmp (name x) (name y))) xs
  in-order xs h k d low within =
      let next : suc k ≡ k + 1 = omega arith in
      ap (λ n. is_lt (slice_cmp nat_cmp (name (get_or xs n d)) (name (get_or xs k d)))) (sym next)
      ∙ next-above xs h k d (omega arith)

  -- ---- what a search for a name finds

  module _ (wanted : List ℕ) where
    abbrev rank : A → Ordering
    rank x = slice_cmp nat_cmp (name x) wanted

    -- an entry that bears the name is the first that does
    pub found : (xs : List A) → names_rise name xs ≡ true → (i : ℕ) (d : A) → i < length xs → rank (get_or xs i d) ≡ Equal
        → find (λ x. bytes_eq (name x) wanted) xs ≡ Some (get_or xs i d)
    found [] h i d within e = absurd (omega arith)
    found (x ∷ xs) h zero d within e = rw (sym (is_eq-slice_cmp (name x) wanted) ∙ ap is_eq e) refl
    found (x ∷ xs) h (suc i) d within e =
        let below = passes-at (λ later. is_below (name x) (name later)) xs (and_parts _ _ h).0 i d (omega arith) in
        rw (apart (name x) (name (get_or xs i d)) wanted below e) (found xs (and_parts _ _ h).1 i d (omega arith) e)

    none-bears : (xs : List A) → ((k : ℕ) (d : A) → k < length xs → is_eq (rank (get_or xs k d)) ≡ false)
        → find (λ x. bytes_eq (name x) wanted) xs ≡ None
    none-bears [] h = refl
    none-bears (x ∷ xs) h =
        rw (sym (is_eq-slice_cmp (name x) wanted) ∙ h 0 x (omega arith)) (none-bears xs (λ k d within. h (suc k) d (omega arith)))

    aside : (xs : List A) (i : ℕ) → IsPartitionPoint (λ x. rank x ≡ Less) (λ x. rank x ≡ Greater) xs i
        → (k : ℕ) (d : A) → k < length xs → (ltb k i ≡ true) ⊎ (ltb k i ≡ false) → is_eq (rank (get_or xs k d)) ≡ false
    aside xs i parts k d within (inl before) = ap is_eq (parts.0 k d (omega arith) (ltb-true k i before))
    aside xs i parts k d within (inr behind) = ap is_eq (parts.1 k d (ltb-false k i behind) within)

    -- where each entry is on one side of the name, none bears it
    pub absent : (xs : List A) → names_rise name xs ≡ true → (i : ℕ)
        → (IsNonDecreasingBy (λ x. ordering_index (rank x)) xs
        → IsPartitionPoint (λ x. rank x ≡ Less) (λ x. rank x ≡ Greater) xs i)
        → find (λ x. bytes_eq (name x) wanted) xs ≡ None
    absent xs h i parted =
        let parts = parted (searchable_from_sorted nat_list_cmp_total name xs wanted (in-order xs h)) in
        none-bears xs (λ k d within. aside xs i parts k d within (cases_Bool (ltb k i)))
