-- The JSON of matchers of claims (Envoy v3 API reference, `type.matcher.v3.MetadataMatcher`, `ValueMatcher` and
-- `ListMatcher`). The token filter leaves the claims behind the key `payload`.
use Rattle.std.specs.Prelude.{ℕ, ◌+◌, Bool, true, false, ◌&&◌, nat_le, List, [], ◌∷◌, length, unwrap_or, if◌then◌else◌}
use Rattle.serde_json.specs.Data.{Data, boolean, string}
use Rattle.mesh_doc.specs.Faults.{Check, ◌⨾◌}
use Rattle.mesh_doc.specs.Fields.{strict, optional_written, optional_written_in, required_written, required_written_in}
use Rattle.mesh_doc.specs.Kinds.{text_faults, text_in}
use Rattle.mesh_doc.specs.Lists.{list_in}
use Rattle.envoy_types.specs.SmallForms.{fixed_faults, is_within, list_in_turn_that, most_entries, one_of, true_faults}
use Rattle.envoy_types.specs.StringForms.{string_faults, string_in, string_is_printable, string_written}
use Rattle.envoy_types.specs.WrittenFields.{field, list_written, object_of, sole_field}
use Rattle.envoy_types.specs.declared.fixed.TheConstants.{PAYLOAD}
use Rattle.envoy_types.specs.declared.keys.TheConstants.{FILTER, KEY, LIST_MATCH, ONE_OF, PATH, PRESENT_MATCH, STRING_MATCH, VALUE}
use Rattle.envoy_types.specs.declared.metadata.ValueMatcher.{ValueMatcher}
use Rattle.envoy_types.specs.declared.metadata.ValueMatcher.TheVariants.{Present, Words, OneOfPresent, OneOf}
use Rattle.envoy_types.specs.declared.names.TheConstants.{JWT_NAME}

-- ---- what is asked of a value

-- an entry of a list: that it is there, or that it matches
unfoldable pub one_of_faults : Check
one_of_faults =
    strict (PRESENT_MATCH.now ∷ STRING_MATCH.now ∷ [])
    (one_of (PRESENT_MATCH.now ∷ STRING_MATCH.now ∷ [])
    ⨾ optional_written PRESENT_MATCH.now true_faults
    ⨾ optional_written STRING_MATCH.now string_faults)

-- the entry matches, or else it is there
unfoldable pub one_of_in : Data → ValueMatcher
one_of_in d = unwrap_or (optional_written_in STRING_MATCH.now (λ m. OneOf (string_in m)) d) OneOfPresent

-- `ListMatcher`
unfoldable pub list_match_faults : Check
list_match_faults = strict (ONE_OF.now ∷ []) (required_written ONE_OF.now one_of_faults)

-- what is asked of the entry
unfoldable pub list_match_in : Data → ValueMatcher
list_match_in d = required_written_in ONE_OF.now one_of_in d

-- `ValueMatcher`
unfoldable pub value_faults : Check
value_faults =
    strict (LIST_MATCH.now ∷ PRESENT_MATCH.now ∷ STRING_MATCH.now ∷ [])
    (one_of (LIST_MATCH.now ∷ PRESENT_MATCH.now ∷ STRING_MATCH.now ∷ [])
    ⨾ optional_written PRESENT_MATCH.now true_faults
    ⨾ optional_written STRING_MATCH.now string_faults
    ⨾ optional_written LIST_MATCH.now list_match_faults)

-- the text matches, an entry of the list does, or else the value is there
unfoldable pub value_in : Data → ValueMatcher
value_in d =
    unwrap_or (optional_written_in STRING_MATCH.now (λ m. Words (string_in m)) d)
    (unwrap_or (optional_written_in LIST_MATCH.now list_match_in d) Present)

-- a list of which an entry is as told
abbrev pub list_match_written : Data → Data
list_match_written entry = sole_field LIST_MATCH.now (sole_field ONE_OF.now entry)

-- the one alternative of each
unfoldable pub value_written : ValueMatcher → Data
value_written Present = sole_field PRESENT_MATCH.now (boolean true)
value_written (Words m) = sole_field STRING_MATCH.now (string_written m)
value_written OneOfPresent = list_match_written (sole_field PRESENT_MATCH.now (boolean true))
value_written (OneOf m) = list_match_written (sole_field STRING_MATCH.now (string_written m))

-- what compares nothing, or a matcher that can be written
unfoldable pub value_is_printable : ValueMatcher → Bool
value_is_printable Present = true
value_is_printable (Words m) = string_is_printable m
value_is_printable OneOfPresent = true
value_is_printable (OneOf m) = string_is_printable m

-- ---- the keys down to it

-- `MetadataMatcher.PathSegment`
unfoldable pub segment_faults : Check → Check
segment_faults f = strict (KEY.now ∷ []) (required_written KEY.now f)

-- the key
unfoldable pub segment_in : Data → List ℕ
segment_in d = required_written_in KEY.now text_in d

-- a key as an object
abbrev pub segment_written : List ℕ → Data
segment_written key = sole_field KEY.now (string key)

-- the first key is `payload`, the others are those of claims
abbrev pub path_segment_faults : (is_first : Bool) → Check
path_segment_faults is_first = segment_faults (if is_first then fixed_faults PAYLOAD.now else text_faults)

-- two keys at least
unfoldable pub path_faults : Check
path_faults = list_in_turn_that (nat_le 2) path_segment_faults (λ is_first d. false) true

-- all but the first
abbrev pub behind_first : List (List ℕ) → List (List ℕ)
behind_first [] = []
behind_first (key ∷ keys) = keys

-- the keys behind `payload`
unfoldable pub path_in : Data → List (List ℕ)
path_in d = behind_first (list_in segment_in d)

-- `payload`, and then the keys
abbrev pub path_written : List (List ℕ) → Data
path_written keys = list_written segment_written (PAYLOAD.now ∷ keys)

-- ---- `MetadataMatcher`

-- a claim at a path of keys, and what is asked of it
unfoldable pub metadata_faults : Check
metadata_faults =
    strict (FILTER.now ∷ PATH.now ∷ VALUE.now ∷ [])
    (required_written FILTER.now (fixed_faults JWT_NAME.now)
    ⨾ required_written PATH.now path_faults
    ⨾ required_written VALUE.now value_faults)

-- the keys and what is asked, of what the token filter left
unfoldable pub metadata_written : List (List ℕ) → ValueMatcher → Data
metadata_written keys value = object_of
    (field FILTER.now (string JWT_NAME.now)
    ∷ field PATH.now (path_written keys)
    ∷ field VALUE.now (value_written value)
    ∷ [])

-- one key at least, which with `payload` are within the limit of lists, and what is asked can be written
unfoldable pub metadata_is_printable : List (List ℕ) → ValueMatcher → Bool
metadata_is_printable keys value = is_within 2 most_entries (length keys + 1) && value_is_printable value
