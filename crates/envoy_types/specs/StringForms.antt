-- The JSON of string matchers (Envoy v3 API reference, `type.matcher.v3.StringMatcher`).
use Rattle.std.specs.Prelude.{ℕ, Bool, true, false, ◌||◌, nat_le, List, [], ◌∷◌, length, unwrap_or}
use Rattle.serde_json.specs.Data.{Data, string}
use Rattle.mesh_doc.specs.Faults.{Check, ◌⨾◌}
use Rattle.mesh_doc.specs.Fields.{strict, optional_written, optional_written_in, required_written_in}
use Rattle.mesh_doc.specs.Kinds.{text_faults, text_in, truth_faults, truth_in}
use Rattle.mesh_doc.specs.Tested.{tested}
use Rattle.mesh_doc.specs.declared.reason.Reason.TheVariants as reason
use Rattle.envoy_types.specs.SmallForms.{one_of}
use Rattle.envoy_types.specs.Strings.{matcher_with}
use Rattle.envoy_types.specs.WrittenFields.{field, object_of, truth_field}
use Rattle.envoy_types.specs.declared.keys.TheConstants.{CONTAINS, EXACT, PREFIX, SUFFIX, IGNORE_CASE}
use Rattle.envoy_types.specs.declared.strings.MatchKind.{MatchKind}
use Rattle.envoy_types.specs.declared.strings.MatchKind.TheVariants.{Exact, Prefix, Suffix, Contains}
use Rattle.envoy_types.specs.declared.strings.StringMatcher.{StringMatcher}

-- an empty prefix, suffix or part would match every text (`min_len` of these fields)
abbrev pub is_filled : List ℕ → Bool
is_filled t = nat_le 1 (length t)

-- a text that is not empty
abbrev pub filled_text_faults : Check
filled_text_faults = tested is_filled reason.BadForm

-- the names of the alternatives
abbrev pub match_keys : List (List ℕ)
match_keys = CONTAINS.now ∷ EXACT.now ∷ PREFIX.now ∷ SUFFIX.now ∷ []

-- one alternative, and then `ignore_case`
unfoldable pub string_faults : Check
string_faults =
    strict (CONTAINS.now ∷ EXACT.now ∷ PREFIX.now ∷ SUFFIX.now ∷ IGNORE_CASE.now ∷ [])
    (one_of match_keys
    ⨾ optional_written CONTAINS.now filled_text_faults
    ⨾ optional_written EXACT.now text_faults
    ⨾ optional_written PREFIX.now filled_text_faults
    ⨾ optional_written SUFFIX.now filled_text_faults
    ⨾ optional_written IGNORE_CASE.now truth_faults)

-- `ignore_case`, which is `false` where it is not written
abbrev pub folds_in : Data → Bool
folds_in d = unwrap_or (optional_written_in IGNORE_CASE.now truth_in d) false

-- the matcher of one alternative, whose text is a field of the object
abbrev pub matcher_in : MatchKind → Data → Data → StringMatcher
matcher_in kind d text = matcher_with kind (text_in text) (folds_in d)

-- the matcher of the alternative that is there
unfoldable pub string_in : Data → StringMatcher
string_in d =
    unwrap_or (optional_written_in CONTAINS.now (matcher_in Contains d) d)
    (unwrap_or (optional_written_in EXACT.now (matcher_in Exact d) d)
    (unwrap_or (optional_written_in PREFIX.now (matcher_in Prefix d) d)
    (required_written_in SUFFIX.now (matcher_in Suffix d) d)))

-- ---- how it is written

-- the alternative of a kind
abbrev pub match_key : MatchKind → List ℕ
match_key Exact = EXACT.now
match_key Prefix = PREFIX.now
match_key Suffix = SUFFIX.now
match_key Contains = CONTAINS.now

-- the text under the alternative of its kind, and `ignore_case` where it is `true`
unfoldable pub string_written : StringMatcher → Data
string_written m = object_of (field (match_key m.kind) (string m.text) ∷ truth_field IGNORE_CASE.now m.ignore_case ∷ [])

-- ---- what can be written

-- only the whole text may be compared with the empty one
abbrev pub may_be_empty : MatchKind → Bool
may_be_empty Exact = true
may_be_empty Prefix = false
may_be_empty Suffix = false
may_be_empty Contains = false

-- a matcher of the whole text, or with a text that is not empty
unfoldable pub string_is_printable : StringMatcher → Bool
string_is_printable m = may_be_empty m.kind || is_filled m.text
