-- A value without fault is that of a matcher of claims that can be written.
use Rattle.std.proofs.Common.{◌≡◌, ℕ, ◌+◌, true, false, nat_le, List, [], ◌∷◌, length, Option, Some, None, option_map, unwrap_or, refl}
use Rattle.std.proofs.Common.{subst, arith}
use Rattle.std.proofs.lemmas.Bool.{and_from}
use Rattle.std.specs.Bool.{⊤}
use Rattle.std.specs.Option.{ForSome}
use Rattle.serde_json.specs.Data.{Data}
use Rattle.serde_json.specs.Find.{get}
use Rattle.mesh_doc.proofs.NoFault as no_fault
use Rattle.mesh_doc.proofs.NoFault.{Ensures, ◌⨾⨾◌, anything, strict_object}
use Rattle.mesh_doc.specs.Fields.{optional_written_in, required_written_in}
use Rattle.envoy_types.specs.SmallForms.{is_within, most_entries}
use Rattle.envoy_types.specs.StringForms.{string_in, string_is_printable}
use Rattle.envoy_types.specs.ValueForms.{behind_first, list_match_faults, list_match_in, metadata_faults, metadata_is_printable}
use Rattle.envoy_types.specs.ValueForms.{one_of_faults, one_of_in, path_faults, path_in, value_faults, value_in, value_is_printable}
use Rattle.envoy_types.specs.declared.keys.TheConstants.{FILTER, LIST_MATCH, ONE_OF, PATH, PRESENT_MATCH, STRING_MATCH, VALUE}
use Rattle.envoy_types.specs.declared.metadata.ValueMatcher.{ValueMatcher}
use Rattle.envoy_types.specs.declared.metadata.ValueMatcher.TheVariants.{Present, Words, OneOfPresent, OneOf}
use Rattle.envoy_types.specs.declared.names.TheConstants.{JWT_NAME}
use Rattle.listener_reader.proofs.PartsPrintable.{Listed, fixed, list-in-turn, listed-within, one, the-truth}
use Rattle.listener_reader.proofs.StringsPrintable.{string-printable}

-- ---- what is asked of a value

-- the text of a matcher, where it is there
abbrev IsPrintable : Option Data → Type 0
IsPrintable o = ForSome (option_map string_in o) (λ m. string_is_printable m ≡ true)

entry-chosen : (o : Option Data) → IsPrintable o
    → value_is_printable (unwrap_or (option_map (λ m. OneOf (string_in m)) o) OneOfPresent) ≡ true
unfolding value_is_printable
entry-chosen None h = refl
entry-chosen (Some d) h = h (string_in d) refl

entry-printable : Ensures one_of_faults one_of_in (λ v. value_is_printable v ≡ true)
unfolding one_of_faults one_of_in optional_written_in
entry-printable = strict_object _ (record {
  holds = λ d at h.
      let parts = (one (PRESENT_MATCH.now ∷ STRING_MATCH.now ∷ [])
      ⨾⨾ no_fault.optional_written PRESENT_MATCH.now the-truth
      ⨾⨾ no_fault.optional_written STRING_MATCH.now string-printable).holds d at h in
      entry-chosen (get STRING_MATCH.now d) parts.1.1;
})

list-printable : Ensures list_match_faults list_match_in (λ v. value_is_printable v ≡ true)
unfolding list_match_faults list_match_in
list-printable = strict_object _ (no_fault.required_written ONE_OF.now entry-printable)

value-chosen : (text list : Option Data) → IsPrintable text → ForSome (option_map list_match_in list) (λ v. value_is_printable v ≡ true)
    → value_is_printable (unwrap_or (option_map (λ m. Words (string_in m)) text) (unwrap_or (option_map list_match_in list) Present)) ≡ true
unfolding value_is_printable
value-chosen (Some d) list t l = t (string_in d) refl
value-chosen None (Some d) t l = l (list_match_in d) refl
value-chosen None None t l = refl

value-printable : Ensures value_faults value_in (λ v. value_is_printable v ≡ true)
unfolding value_faults value_in optional_written_in
value-printable = strict_object _ (record {
  holds = λ d at h.
      let parts = (one (LIST_MATCH.now ∷ PRESENT_MATCH.now ∷ STRING_MATCH.now ∷ [])
      ⨾⨾ no_fault.optional_written PRESENT_MATCH.now the-truth
      ⨾⨾ no_fault.optional_written STRING_MATCH.now string-printable
      ⨾⨾ no_fault.optional_written LIST_MATCH.now list-printable).holds d at h in
      value-chosen (get STRING_MATCH.now d) (get LIST_MATCH.now d) parts.1.1.0 parts.1.1.1;
})

-- ---- the keys down to it

keys-within : (keys : List (List ℕ)) → Listed (nat_le 2) most_entries (λ _. ⊤) keys
    → is_within 2 most_entries (length (behind_first keys) + 1) ≡ true
keys-within [] h = let none : false ≡ true = h.fitting in cc
keys-within (key ∷ keys) h =
    let one-more : length (key ∷ keys) ≡ length keys + 1 = omega arith in
    subst (λ n. is_within 2 most_entries n ≡ true) one-more (listed-within 2 most_entries (key ∷ keys) h)

path-printable : Ensures path_faults path_in (λ keys. is_within 2 most_entries (length keys + 1) ≡ true)
unfolding path_faults path_in
path-printable = no_fault.therefore behind_first (λ keys. is_within 2 most_entries (length keys + 1) ≡ true) keys-within
    (list-in-turn (nat_le 2) (λ is_first d. false) true (λ is_first. anything))

-- ---- the whole matcher

pub metadata-printable : Ensures {A = List (List ℕ) × ValueMatcher} metadata_faults
    (λ d. (required_written_in PATH.now path_in d, required_written_in VALUE.now value_in d)) (λ x. metadata_is_printable x.0 x.1 ≡ true)
unfolding metadata_faults metadata_is_printable
metadata-printable = strict_object _ (record {
  holds = λ d at h.
      let parts = (no_fault.required_written FILTER.now (fixed JWT_NAME.now)
      ⨾⨾ no_fault.required_written PATH.now path-printable
      ⨾⨾ no_fault.required_written VALUE.now value-printable).holds d at h in
      and_from _ _ parts.1.0 parts.1.1;
})
