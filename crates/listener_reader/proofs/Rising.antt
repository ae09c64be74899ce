-- The members of a map stand in byte order of their keys, so that what they mean does too.
use Rattle.std.proofs.Common.{◌≡◌, ℕ, true, List, [], ◌∷◌, Less, String, Global, string_bytes, string_cmp, refl, IsTrue}
use Rattle.std.specs.List.{AllByRecursion, list_all}
use Rattle.std.specs.List.Sorted.{IsStrictlySortedBy}
use Rattle.std.specs.Map.{keys_of}
use Rattle.serde_json.specs.Data.{Data, Members, no_members, member}
use Rattle.serde_json.specs.View.{members_view}
use Rattle.serde_json.specs.declared.value.Value.{Value}
use Rattle.mesh_doc.proofs.Unique.{unique_besides-sorted}
use Rattle.mesh_doc.specs.Fields.{required_written_in}
use Rattle.mesh_doc.specs.Maps.{each_member_in, map_in}
use Rattle.envoy_types.specs.Order.{is_below, names_rise}
use Rattle.listener_reader.specs.Keys.{are_rising, keys_in, keys_of_members}

-- ---- the keys of a map

above : (key : String Global) (es : List (String Global × Value)) → AllByRecursion (λ k. string_cmp key k ≡ Less) (keys_of es)
    → list_all (λ later. is_below (string_bytes key) later) (each_member_in (λ k _. k) (members_view es)) ≡ true
above key [] h = refl
above key (e ∷ es) h = rw h.0 (above key es h.1)

rising : (es : List (String Global × Value)) → IsStrictlySortedBy string_cmp (keys_of es)
    → are_rising (each_member_in (λ k _. k) (members_view es)) ≡ true
unfolding IsStrictlySortedBy
rising [] h = refl
rising (e ∷ es) h = rw (above e.0 es h.0) (rising es h.1)

pub sorted-rises : (es : List (String Global × Value)) → IsStrictlySortedBy string_cmp (keys_of es)
    → IsTrue (are_rising (keys_of_members (members_view es)))
unfolding keys_of_members
sorted-rises es h = rw (unique_besides-sorted es h) (rising es h)

-- ---- entries under their keys

module _ {A : Type 0} (name : A → List ℕ) (value : List ℕ → Data → A) (named : (key : List ℕ) (d : Data) → name (value key d) ≡ key) where
  same-above : (x : List ℕ) (ms : Members) → list_all (λ later. is_below x (name later)) (each_member_in value ms)
      ≡ list_all (λ later. is_below x later) (each_member_in (λ k _. k) ms)
  same-above x no_members = refl
  same-above x (member key d ms) = rw (named key d, same-above x ms) refl

  same-rise : (ms : Members) → names_rise name (each_member_in value ms) ≡ are_rising (each_member_in (λ k _. k) ms)
  same-rise no_members = refl
  same-rise (member key d ms) = rw (named key d, same-above key ms, same-rise ms) refl

  -- of the field of an object
  pub entries-rise : (field : List ℕ) (d : Data) (xs : List A) → xs ≡ required_written_in field (map_in value) d
      → IsTrue (are_rising (required_written_in field keys_in d)) → IsTrue (names_rise name xs)
  unfolding required_written_in keys_in map_in
  entries-rise field d xs e h = rw (e, same-rise _) h
