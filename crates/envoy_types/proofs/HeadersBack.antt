-- A header matcher that is written is read back.
use Rattle.std.proofs.Common.{◌≡◌, ℕ, true, List, refl}
use Rattle.std.proofs.lemmas.Bool.{and_parts}
use Rattle.serde_json.specs.Data.{string}
use Rattle.mesh_doc.specs.Fields.{optional_written, optional_written_in, required_written, required_written_in}
use Rattle.mesh_doc.specs.Kinds.{object_faults, text_in}
use Rattle.mesh_doc.specs.Known.{is_known, unknown_faults}
use Rattle.mesh_doc.specs.Places.{at_key}
use Rattle.mesh_doc.specs.declared.reason.Reason.TheVariants as reason
use Rattle.envoy_types.proofs.FieldsBack.{Passes}
use Rattle.envoy_types.proofs.PartsBack.{Back, tested-back, true-passes}
use Rattle.envoy_types.proofs.StringsBack.{string-back}
use Rattle.envoy_types.specs.HeaderForms.{header_faults, header_in, header_is_printable, header_test_is_printable, header_written}
use Rattle.envoy_types.specs.HeaderForms.{header_name_faults, is_header_name}
use Rattle.envoy_types.specs.SmallForms.{one_of}
use Rattle.envoy_types.specs.StringForms.{string_faults, string_in, string_written}
use Rattle.envoy_types.specs.declared.headers.HeaderMatch.{HeaderMatch}
use Rattle.envoy_types.specs.declared.headers.HeaderTest.{HeaderTest}
use Rattle.envoy_types.specs.declared.headers.HeaderTest.TheVariants.{Present, Words}
use Rattle.envoy_types.specs.declared.keys.TheConstants.{NAME, PRESENT_MATCH, STRING_MATCH}
use Rattle.envoy_types.specs.declared.strings.StringMatcher.{StringMatcher}

-- a header matcher of these parts
abbrev header : List ℕ → HeaderTest → HeaderMatch
header name test = record { name = name; test = test }

name-passes : (name : List ℕ) → is_header_name name ≡ true → Passes header_name_faults (string name)
name-passes name h = (tested-back is_header_name reason.BadForm name h).passes

present-passes : (name : List ℕ) → is_header_name name ≡ true → Passes header_faults (header_written (header name Present))
unfolding header_faults header_written required_written optional_written one_of unknown_faults object_faults is_known
present-passes name h = record {
  clean = λ at. rw ((name-passes name h).clean (at_key NAME.now at), true-passes.clean (at_key PRESENT_MATCH.now at)) refl;
}

present-is : (name : List ℕ) → header_in (header_written (header name Present)) ≡ header name Present
unfolding header_in header_written required_written_in optional_written_in text_in
present-is name = refl

words-passes : (name : List ℕ) (m : StringMatcher) → is_header_name name ≡ true → Passes string_faults (string_written m)
    → Passes header_faults (header_written (header name (Words m)))
unfolding header_faults header_written required_written optional_written one_of unknown_faults object_faults is_known
words-passes name m h p = record {
  clean = λ at. rw ((name-passes name h).clean (at_key NAME.now at), p.clean (at_key STRING_MATCH.now at)) refl;
}

words-are : (name : List ℕ) (m : StringMatcher) → string_in (string_written m) ≡ m
    → header_in (header_written (header name (Words m))) ≡ header name (Words m)
unfolding header_in header_written required_written_in optional_written_in text_in
words-are name m is = rw is refl

test-back : (name : List ℕ) (test : HeaderTest) → is_header_name name ≡ true → header_test_is_printable test ≡ true
    → Back header_faults header_in (header_written (header name test)) (header name test)
test-back name Present h printable = record { passes = present-passes name h; back = present-is name }
test-back name (Words m) h printable =
    let known = string-back m printable in
    record { passes = words-passes name m h known.passes; back = words-are name m known.back }

pub header-back : (h : HeaderMatch) → header_is_printable h ≡ true → Back header_faults header_in (header_written h) h
unfolding header_is_printable
header-back h printable = test-back h.name h.test (and_parts _ _ printable).0 (and_parts _ _ printable).1
