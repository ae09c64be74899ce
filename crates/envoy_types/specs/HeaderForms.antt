-- The JSON of header matchers (Envoy v3 API reference, `config.route.v3.HeaderMatcher`).
use Rattle.std.specs.Prelude.{ℕ, Bool, true, not, ◌&&◌, ◌||◌, List, [], ◌∷◌, unwrap_or}
use Rattle.std.specs.List.{list_all}
use Rattle.std.specs.Str.{bytes_eq}
use Rattle.serde_json.specs.Data.{Data, boolean, string}
use Rattle.mesh_doc.specs.Faults.{Check, ◌⨾◌}
use Rattle.mesh_doc.specs.Fields.{strict, optional_written, optional_written_in, required_written, required_written_in}
use Rattle.mesh_doc.specs.Kinds.{text_in}
use Rattle.mesh_doc.specs.Tested.{tested}
use Rattle.mesh_doc.specs.declared.reason.Reason.TheVariants as reason
use Rattle.mesh_policy.specs.Values.{is_upper}
use Rattle.mesh_text.specs.Token.{is_token}
use Rattle.envoy_types.specs.SmallForms.{one_of, true_faults}
use Rattle.envoy_types.specs.StringForms.{string_faults, string_in, string_is_printable, string_written}
use Rattle.envoy_types.specs.WrittenFields.{Field, field, object_of}
use Rattle.envoy_types.specs.declared.headers.HeaderMatch.{HeaderMatch}
use Rattle.envoy_types.specs.declared.headers.HeaderTest.{HeaderTest}
use Rattle.envoy_types.specs.declared.headers.HeaderTest.TheVariants.{Present, Words}
use Rattle.envoy_types.specs.declared.keys.TheConstants.{NAME, PRESENT_MATCH, STRING_MATCH}
use Rattle.envoy_types.specs.declared.words.TheConstants.{METHOD_HEADER, AUTHORITY_HEADER, PATH_HEADER}

-- ---- names of headers

-- a token (RFC 9110, section 5.6.2) in lower case, as HTTP/2 has the names of fields (RFC 9113, section 8.2.1)
unfoldable pub is_lower_token : List ℕ → Bool
is_lower_token t = is_token t && list_all (λ c. not (is_upper c)) t

-- a header, or the pseudo-header of method, authority or path (RFC 9113, section 8.3.1)
unfoldable pub is_header_name : List ℕ → Bool
is_header_name t =
    is_lower_token t || bytes_eq t METHOD_HEADER.now || bytes_eq t AUTHORITY_HEADER.now || bytes_eq t PATH_HEADER.now

-- a text that is such a name
abbrev pub header_name_faults : Check
header_name_faults = tested is_header_name reason.BadForm

-- ---- the matcher

-- `HeaderMatcher`: one of both tests, beside the name
unfoldable pub header_faults : Check
header_faults =
    strict (NAME.now ∷ PRESENT_MATCH.now ∷ STRING_MATCH.now ∷ [])
    (one_of (PRESENT_MATCH.now ∷ STRING_MATCH.now ∷ [])
    ⨾ required_written NAME.now header_name_faults
    ⨾ optional_written PRESENT_MATCH.now true_faults
    ⨾ optional_written STRING_MATCH.now string_faults)

-- that the header is there, unless its value is to match
unfoldable pub header_in : Data → HeaderMatch
header_in d = record {
  name = required_written_in NAME.now text_in d;
  test = unwrap_or (optional_written_in STRING_MATCH.now (λ m. Words (string_in m)) d) Present;
}

-- the test, beside the name
abbrev pub header_test_field : HeaderTest → Field
header_test_field Present = field PRESENT_MATCH.now (boolean true)
header_test_field (Words m) = field STRING_MATCH.now (string_written m)

-- the name, and the one test
unfoldable pub header_written : HeaderMatch → Data
header_written h = object_of (field NAME.now (string h.name) ∷ header_test_field h.test ∷ [])

-- the matcher of a value can be written; that a header is there always can
abbrev pub header_test_is_printable : HeaderTest → Bool
header_test_is_printable Present = true
header_test_is_printable (Words m) = string_is_printable m

-- a name that the field takes, and a test that can be written
unfoldable pub header_is_printable : HeaderMatch → Bool
header_is_printable h = is_header_name h.name && header_test_is_printable h.test
