-- A map of things whose names rise strictly reads back: no member passes another over, and each means its thing.
use Rattle.std.proofs.Common.{◌≡◌, ℕ, Bool, true, false, List, [], ◌∷◌, None, Less, Equal, Greater, refl, sym, ap, ap₂, ◌∙◌}
use Rattle.std.proofs.Common.{is_eq, bytes_eq, nat_cmp}
use Rattle.std.proofs.lemmas.Bool.{and_parts}
use Rattle.std.proofs.lemmas.Cmp.{nat_list_cmp_total}
use Rattle.std.proofs.lemmas.Map.Text.{is_eq-slice_cmp}
use Rattle.std.specs.Cmp.Lexicographic.{slice_cmp}
use Rattle.std.specs.List.{AllByRecursion, list_all, list_any}
use Rattle.std.specs.Ordering.{is_lt, ordering_reverse}
use Rattle.std.specs.declared.cmp.Ordering.{Ordering}
use Rattle.serde_json.specs.Data.{Data, Members, no_members, member, put}
use Rattle.mesh_doc.specs.Faults.{Check, first}
use Rattle.mesh_doc.specs.Kinds.{object_faults}
use Rattle.mesh_doc.specs.Maps.{each_member_faults, each_member_in, map_in, map_of, unique_besides}
use Rattle.mesh_doc.specs.Places.{Steps, at_key}
use Rattle.envoy_types.specs.Order.{is_below, names_rise}
use Rattle.envoy_types.specs.WrittenFields.{map_written, named_onto}
use Rattle.envoy_types.proofs.FieldsBack.{none-in-both}
use Rattle.envoy_types.proofs.PartsBack.{Back}

-- ---- of two names, one below the other

less : (o : Ordering) → is_lt o ≡ true → o ≡ Less
less Less h = refl
less Equal h = cc
less Greater h = cc

differ : (x y : List ℕ) → is_below x y ≡ true → bytes_eq y x ≡ false
differ x y h = sym (is_eq-slice_cmp y x)
    ∙ ap is_eq (nat_list_cmp_total.antisymm y x ∙ ap ordering_reverse (less (slice_cmp nat_cmp x y) h))

-- ---- members whose names rise stand as the things do in the list

module _ {A : Type 0} (name : A → List ℕ) (written : A → Data) where
  abbrev direct : List A → Members
  direct [] = no_members
  direct (x ∷ xs) = member (name x) (written x) (direct xs)

  put-first : (k : List ℕ) (d : Data) (xs : List A) → list_all (λ later. is_below k (name later)) xs ≡ true
      → put k d (direct xs) ≡ member k d (direct xs)
  put-first k d [] h = refl
  put-first k d (x ∷ xs) h = rw (less (slice_cmp nat_cmp k (name x)) (and_parts _ _ h).0) refl

  in-order : (xs : List A) → names_rise name xs ≡ true → named_onto name written no_members xs ≡ direct xs
  in-order [] h = refl
  in-order (x ∷ xs) h =
      ap (put (name x) (written x)) (in-order xs (and_parts _ _ h).1) ∙ put-first (name x) (written x) xs (and_parts _ _ h).0

  -- ---- and none of them is passed over

  abbrev AreBesides : List (List ℕ) → List A → Type 0
  AreBesides seen xs = AllByRecursion (λ x. list_any (bytes_eq (name x)) seen ≡ false) xs

  none-seen : (xs : List A) → AreBesides [] xs
  none-seen [] = tt
  none-seen (x ∷ xs) = (refl, none-seen xs)

  one-more : (k : List ℕ) (seen : List (List ℕ)) (xs : List A) → list_all (λ later. is_below k (name later)) xs ≡ true
      → AreBesides seen xs → AreBesides (k ∷ seen) xs
  one-more k seen [] h besides = tt
  one-more k seen (x ∷ xs) h besides =
      (rw (differ k (name x) (and_parts _ _ h).0) besides.0, one-more k seen xs (and_parts _ _ h).1 besides.1)

  none-passed-over : (seen : List (List ℕ)) (xs : List A) → names_rise name xs ≡ true → AreBesides seen xs
      → unique_besides seen (direct xs) ≡ direct xs
  none-passed-over seen [] h besides = refl
  none-passed-over seen (x ∷ xs) h besides =
      let more = one-more (name x) seen xs (and_parts _ _ h).0 besides.1 in
      rw besides.0 (ap (member (name x) (written x)) (none-passed-over (name x ∷ seen) xs (and_parts _ _ h).1 more))

  -- the members of a written map, each name once
  pub all-members : (xs : List A) → names_rise name xs ≡ true
      → unique_besides [] (named_onto name written no_members xs) ≡ direct xs
  all-members xs h = ap (unique_besides []) (in-order xs h) ∙ none-passed-over [] xs h (none-seen xs)

-- ---- each is read back

module _ {A : Type 0} (f : List ℕ → Check) (value : List ℕ → Data → A) (name : A → List ℕ) (written : A → Data) (P : A → Bool)
    (each : (x : A) → P x ≡ true → Back (f (name x)) (value (name x)) (written x) x) where
  members-pass : (xs : List A) (at : Steps) → list_all P xs ≡ true → first (each_member_faults f (direct name written xs) at) ≡ None
  members-pass [] at h = refl
  members-pass (x ∷ xs) at h =
      none-in-both _ _ ((each x (and_parts _ _ h).0).passes.clean (at_key (name x) at)) (members-pass xs at (and_parts _ _ h).1)

  members-back : (xs : List A) → list_all P xs ≡ true → each_member_in value (direct name written xs) ≡ xs
  members-back [] h = refl
  members-back (x ∷ xs) h =
      ap₂ (λ (y : A) (ys : List A). y ∷ ys) (each x (and_parts _ _ h).0).back (members-back xs (and_parts _ _ h).1)

  -- a written map is read back
  pub map-back : (xs : List A) → names_rise name xs ≡ true → list_all P xs ≡ true
      → Back (map_of f) (map_in value) (map_written name written xs) xs
  unfolding map_of map_in map_written object_faults
  map-back xs rise h =
      let all : unique_besides [] (named_onto name written no_members xs) ≡ direct name written xs = all-members name written xs rise in
      record {
        passes = record { clean = λ at. rw all (members-pass xs at h) };
        back = ap (each_member_in value) all ∙ members-back xs h;
      }
