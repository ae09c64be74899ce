-- A value without fault is that of a header matcher that can be written.
use Rattle.std.proofs.Common.{◌≡◌, true, [], ◌∷◌, Option, Some, None, option_map, unwrap_or, refl}
use Rattle.std.proofs.lemmas.Bool.{and_from}
use Rattle.std.specs.Option.{ForSome}
use Rattle.serde_json.specs.Data.{Data}
use Rattle.serde_json.specs.Find.{get}
use Rattle.mesh_doc.proofs.NoFault as no_fault
use Rattle.mesh_doc.proofs.NoFault.{Ensures, ◌⨾⨾◌, strict_object}
use Rattle.mesh_doc.specs.Fields.{optional_written_in}
use Rattle.mesh_doc.specs.declared.reason.Reason.TheVariants as reason
use Rattle.envoy_types.specs.HeaderForms.{header_faults, header_in, header_is_printable, header_test_is_printable, is_header_name}
use Rattle.envoy_types.specs.StringForms.{string_in, string_is_printable}
use Rattle.envoy_types.specs.declared.headers.HeaderTest.TheVariants.{Present, Words}
use Rattle.envoy_types.specs.declared.keys.TheConstants.{NAME, PRESENT_MATCH, STRING_MATCH}
use Rattle.listener_reader.proofs.PartsPrintable.{one, the-truth}
use Rattle.listener_reader.proofs.StringsPrintable.{string-printable}

-- the matcher of a value, where it is there
test-printable : (o : Option Data) → ForSome (option_map string_in o) (λ m. string_is_printable m ≡ true)
    → header_test_is_printable (unwrap_or (option_map (λ m. Words (string_in m)) o) Present) ≡ true
test-printable None h = refl
test-printable (Some d) h = h (string_in d) refl

pub header-printable : Ensures header_faults header_in (λ m. header_is_printable m ≡ true)
unfolding header_faults header_in header_is_printable optional_written_in
header-printable = strict_object _ (record {
  holds = λ d at h.
      let parts = (one (PRESENT_MATCH.now ∷ STRING_MATCH.now ∷ [])
      ⨾⨾ no_fault.required_written NAME.now (no_fault.tested is_header_name reason.BadForm)
      ⨾⨾ no_fault.optional_written PRESENT_MATCH.now the-truth
      ⨾⨾ no_fault.optional_written STRING_MATCH.now string-printable).holds d at h in
      and_from _ _ parts.1.0 (test-printable (get STRING_MATCH.now d) parts.1.1.1);
})
