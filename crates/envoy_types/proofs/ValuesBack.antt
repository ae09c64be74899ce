-- A matcher of claims that is written is read back: what is asked of the value, and the keys down to it.
use Rattle.std.proofs.Common.{◌≡◌, ℕ, ◌+◌, true, false, nat_le, List, [], ◌∷◌, length, map, None, refl, ap, suc}
use Rattle.std.proofs.Math.Numerals.{suc-eq-add-one}
use Rattle.std.proofs.lemmas.Bool.{and_parts}
use Rattle.serde_json.specs.Data.{Data, boolean, string}
use Rattle.serde_json.specs.Events.{items_len}
use Rattle.serde_json.specs.View.{items_of}
use Rattle.mesh_doc.specs.Faults.{Check, Faults, first}
use Rattle.mesh_doc.specs.Fields.{optional_written, optional_written_in, required_written, required_written_in}
use Rattle.mesh_doc.specs.Kinds.{length_in, list_faults, object_faults, text_faults, text_in}
use Rattle.mesh_doc.specs.Known.{is_known, unknown_faults}
use Rattle.mesh_doc.specs.Lists.{each_in, list_in}
use Rattle.mesh_doc.specs.Places.{Steps, at_index, at_key}
use Rattle.mesh_doc.specs.Turns.{each_in_turn, list_in_turn}
use Rattle.mesh_doc.specs.declared.reason.Reason.TheVariants as reason
use Rattle.envoy_types.proofs.FieldsBack.{Passes, behind, both, demanded, none-in-both}
use Rattle.envoy_types.proofs.PartsBack.{Back, fixed-passes, list-passes, text-passes, true-passes, written-length}
use Rattle.envoy_types.proofs.StringsBack.{string-back}
use Rattle.envoy_types.specs.SmallForms.{fixed_faults, is_within, list_in_turn_that, most_entries, one_of}
use Rattle.envoy_types.specs.StringForms.{string_faults, string_in, string_written}
use Rattle.envoy_types.specs.ValueForms.{list_match_faults, list_match_in, list_match_written, metadata_faults, metadata_is_printable}
use Rattle.envoy_types.specs.ValueForms.{metadata_written, one_of_faults, one_of_in, path_faults, path_in, path_segment_faults, path_written}
use Rattle.envoy_types.specs.ValueForms.{segment_faults, segment_in, segment_written}
use Rattle.envoy_types.specs.ValueForms.{value_faults, value_in, value_is_printable, value_written}
use Rattle.envoy_types.specs.WrittenFields.{list_written, sole_field}
use Rattle.envoy_types.specs.declared.fixed.TheConstants.{PAYLOAD}
use Rattle.envoy_types.specs.declared.keys.TheConstants.{FILTER, KEY, LIST_MATCH, ONE_OF, PATH, PRESENT_MATCH, STRING_MATCH, VALUE}
use Rattle.envoy_types.specs.declared.metadata.ValueMatcher.{ValueMatcher}
use Rattle.envoy_types.specs.declared.metadata.ValueMatcher.TheVariants.{Present, Words, OneOfPresent, OneOf}
use Rattle.envoy_types.specs.declared.names.TheConstants.{JWT_NAME}
use Rattle.envoy_types.specs.declared.strings.StringMatcher.{StringMatcher}

-- ---- what is asked of a value

entry-present : Back one_of_faults one_of_in (sole_field PRESENT_MATCH.now (boolean true)) OneOfPresent
unfolding one_of_faults one_of_in optional_written optional_written_in one_of unknown_faults object_faults is_known
entry-present = record { passes = record { clean = λ at. rw (true-passes.clean (at_key PRESENT_MATCH.now at)) refl }; back = refl }

entry-words : (m : StringMatcher) → Back string_faults string_in (string_written m) m
    → Back one_of_faults one_of_in (sole_field STRING_MATCH.now (string_written m)) (OneOf m)
unfolding one_of_faults one_of_in optional_written optional_written_in one_of unknown_faults object_faults is_known
entry-words m known = record {
  passes = record { clean = λ at. rw (known.passes.clean (at_key STRING_MATCH.now at)) refl };
  back = ap OneOf known.back;
}

-- a list with such an entry
entry-back : (entry : Data) (value : ValueMatcher) → Back one_of_faults one_of_in entry value
    → Back list_match_faults list_match_in (sole_field ONE_OF.now entry) value
unfolding list_match_faults list_match_in required_written required_written_in unknown_faults object_faults is_known
entry-back entry value known = record {
  passes = record { clean = λ at. rw (known.passes.clean (at_key ONE_OF.now at)) refl };
  back = known.back;
}

list-match-back : (entry : Data) (value : ValueMatcher) → Back one_of_faults one_of_in entry value
    → Back value_faults value_in (list_match_written entry) value
unfolding value_faults value_in optional_written optional_written_in one_of unknown_faults object_faults is_known
list-match-back entry value known =
    let inner = entry-back entry value known in
    record {
      passes = record { clean = λ at. rw (inner.passes.clean (at_key LIST_MATCH.now at)) refl };
      back = inner.back;
    }

value-present : Back value_faults value_in (value_written Present) Present
unfolding value_faults value_in value_written optional_written optional_written_in one_of unknown_faults object_faults is_known
value-present = record { passes = record { clean = λ at. rw (true-passes.clean (at_key PRESENT_MATCH.now at)) refl }; back = refl }

value-words : (m : StringMatcher) → Back string_faults string_in (string_written m) m
    → Back value_faults value_in (value_written (Words m)) (Words m)
unfolding value_faults value_in value_written optional_written optional_written_in one_of unknown_faults object_faults is_known
value-words m known = record {
  passes = record { clean = λ at. rw (known.passes.clean (at_key STRING_MATCH.now at)) refl };
  back = ap Words known.back;
}

pub value-back : (v : ValueMatcher) → value_is_printable v ≡ true → Back value_faults value_in (value_written v) v
unfolding value_written value_is_printable
value-back Present h = value-present
value-back (Words m) h = value-words m (string-back m h)
value-back OneOfPresent h = list-match-back _ OneOfPresent entry-present
value-back (OneOf m) h = list-match-back _ (OneOf m) (entry-words m (string-back m h))

-- ---- the keys down to it

pub segment-back : (f : Check) (key : List ℕ) → Passes f (string key) → Back (segment_faults f) segment_in (segment_written key) key
unfolding segment_faults segment_in required_written required_written_in text_in unknown_faults object_faults is_known
segment-back f key p = record {
  passes = record { clean = λ at. rw (p.clean (at_key KEY.now at)) refl };
  back = refl;
}

-- the keys of a claim
abbrev keys_faults : ℕ → List (List ℕ) → Steps → Faults
keys_faults k keys at = each_in_turn path_segment_faults (λ is_first d. false) false k (items_of (map segment_written keys)) at

keys-pass : (k : ℕ) (keys : List (List ℕ)) (at : Steps) → first (keys_faults k keys at) ≡ None
keys-pass k [] at = refl
keys-pass k (key ∷ keys) at =
    none-in-both _ _ ((segment-back text_faults key (text-passes key)).passes.clean (at_index k at)) (keys-pass (k + 1) keys at)

keys-back : (keys : List (List ℕ)) → each_in segment_in (items_of (map segment_written keys)) ≡ keys
keys-back [] = refl
keys-back (key ∷ keys) = rw ((segment-back text_faults key (text-passes key)).back, keys-back keys) refl

payload-passes : Passes (path_segment_faults true) (segment_written PAYLOAD.now)
payload-passes = (segment-back (fixed_faults PAYLOAD.now) PAYLOAD.now (fixed-passes PAYLOAD.now)).passes

keys-length : (keys : List (List ℕ)) → items_len (items_of (map segment_written keys)) ≡ length keys
unfolding length_in list_written
keys-length keys = written-length segment_written keys

keys-mapped : (keys : List (List ℕ)) → length (map segment_written keys) ≡ length keys
keys-mapped [] = refl
keys-mapped (key ∷ keys) = ap suc (keys-mapped keys)

entries-pass : (keys : List (List ℕ)) → nat_le (suc (length keys)) most_entries ≡ true
    → Passes (list_in_turn most_entries path_segment_faults (λ is_first d. false) true) (path_written keys)
unfolding list_in_turn list_written list_faults
entries-pass keys short = record {
  clean = λ at.
      none-in-both _ _ (rw (keys-length keys, short) refl) (none-in-both _ _ (payload-passes.clean (at_index 0 at)) (keys-pass 1 keys at));
}

path-passes : (keys : List (List ℕ)) → is_within 2 most_entries (suc (length keys)) ≡ true → Passes path_faults (path_written keys)
unfolding path_faults list_in_turn_that list_written length_in
path-passes keys h =
    let fits : nat_le 2 (suc (length keys)) ≡ true = (and_parts _ _ h).0 in
    let short : nat_le (suc (length keys)) most_entries ≡ true = (and_parts _ _ h).1 in
    behind (list-passes most_entries (map segment_written (PAYLOAD.now ∷ keys)) (rw (keys-mapped keys) short))
    (both (demanded (λ d. nat_le 2 (length_in d)) reason.BadForm (path_written keys) (rw (keys-length keys) fits)) (entries-pass keys short))

pub path-back : (keys : List (List ℕ)) → is_within 2 most_entries (length keys + 1) ≡ true
    → Back path_faults path_in (path_written keys) keys
unfolding path_in list_in list_written
path-back keys h = record { passes = path-passes keys (rw (suc-eq-add-one (length keys)) h); back = keys-back keys }

-- ---- `MetadataMatcher`

-- the path and what is asked of the claim there
abbrev pub metadata_in : Data → List (List ℕ) × ValueMatcher
metadata_in d = (required_written_in PATH.now path_in d, required_written_in VALUE.now value_in d)

metadata-passes : (keys : List (List ℕ)) (value : ValueMatcher) → Passes path_faults (path_written keys)
    → Passes value_faults (value_written value) → Passes metadata_faults (metadata_written keys value)
unfolding metadata_faults metadata_written required_written unknown_faults object_faults is_known
metadata-passes keys value path asked = record {
  clean = λ at.
      let filter = (fixed-passes JWT_NAME.now).clean (at_key FILTER.now at) in
      rw (filter, path.clean (at_key PATH.now at), asked.clean (at_key VALUE.now at)) refl;
}

metadata-is : (keys : List (List ℕ)) (value : ValueMatcher) → path_in (path_written keys) ≡ keys → value_in (value_written value) ≡ value
    → metadata_in (metadata_written keys value) ≡ (keys, value)
unfolding metadata_written required_written_in
metadata-is keys value path asked = rw (path, asked) refl

pub metadata-back : (keys : List (List ℕ)) (value : ValueMatcher) → metadata_is_printable keys value ≡ true
    → Back metadata_faults metadata_in (metadata_written keys value) (keys, value)
unfolding metadata_is_printable
metadata-back keys value h =
    let path = path-back keys (and_parts _ _ h).0 in
    let asked = value-back value (and_parts _ _ h).1 in
    record { passes = metadata-passes keys value path.passes asked.passes; back = metadata-is keys value path.back asked.back }
