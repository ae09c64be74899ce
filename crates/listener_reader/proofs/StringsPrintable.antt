-- A value without fault is that of a string matcher that can be written: of its alternatives one is there.
use Rattle.std.proofs.Common.{◌≡◌, ℕ, ◌+◌, ◌==◌, Bool, true, Option, Some, None, is_some, option_map, unwrap_or, refl, if◌then◌else◌}
use Rattle.std.specs.Option.{ForSome}
use Rattle.serde_json.specs.Data.{Data, null}
use Rattle.serde_json.specs.Find.{get}
use Rattle.mesh_doc.proofs.NoFault as no_fault
use Rattle.mesh_doc.proofs.NoFault.{Ensures, ◌⨾⨾◌, strict_object}
use Rattle.mesh_doc.specs.Fields.{optional_written_in, required_written_in}
use Rattle.mesh_doc.specs.Kinds.{text_in}
use Rattle.mesh_doc.specs.declared.reason.Reason.TheVariants as reason
use Rattle.envoy_types.specs.StringForms.{filled_text_faults, folds_in, is_filled, match_keys, string_faults, string_in}
use Rattle.envoy_types.specs.StringForms.{string_is_printable}
use Rattle.envoy_types.specs.Strings.{matcher_with}
use Rattle.envoy_types.specs.declared.keys.TheConstants.{CONTAINS, EXACT, IGNORE_CASE, PREFIX, SUFFIX}
use Rattle.envoy_types.specs.declared.strings.MatchKind.TheVariants.{Exact, Prefix, Suffix, Contains}
use Rattle.envoy_types.specs.declared.strings.StringMatcher.{StringMatcher}
use Rattle.listener_reader.proofs.PartsPrintable.{any-text, any-truth, one}

-- a text that is there is not empty
abbrev IsFilled : Option Data → Type 0
IsFilled o = ForSome (option_map text_in o) (λ t. is_filled t ≡ true)

abbrev count-of : Option Data → ℕ
count-of o = if is_some o then 1 else 0

abbrev chosen : Option Data → Option Data → Option Data → Option Data → Bool → StringMatcher
chosen contains exact prefix suffix fold =
    unwrap_or (option_map (λ x. matcher_with Contains (text_in x) fold) contains)
    (unwrap_or (option_map (λ x. matcher_with Exact (text_in x) fold) exact)
    (unwrap_or (option_map (λ x. matcher_with Prefix (text_in x) fold) prefix)
    (matcher_with Suffix (text_in (unwrap_or suffix null)) fold)))

chosen-printable : (contains exact prefix suffix : Option Data) (fold : Bool) → IsFilled contains → IsFilled prefix → IsFilled suffix
    → (count-of contains + (count-of exact + (count-of prefix + (count-of suffix + 0))) == 1) ≡ true
    → string_is_printable (chosen contains exact prefix suffix fold) ≡ true
unfolding string_is_printable
chosen-printable (Some x) exact prefix suffix fold c p s one = c (text_in x) refl
chosen-printable None (Some x) prefix suffix fold c p s one = refl
chosen-printable None None (Some x) suffix fold c p s one = p (text_in x) refl
chosen-printable None None None (Some x) fold c p s one = s (text_in x) refl
chosen-printable None None None None fold c p s one = cc

filled : Ensures filled_text_faults text_in (λ t. is_filled t ≡ true)
filled = no_fault.tested is_filled reason.BadForm

pub string-printable : Ensures string_faults string_in (λ m. string_is_printable m ≡ true)
unfolding string_faults string_in optional_written_in required_written_in
string-printable = strict_object _ (record {
  holds = λ d at h.
      let parts = (one match_keys
      ⨾⨾ no_fault.optional_written CONTAINS.now filled
      ⨾⨾ no_fault.optional_written EXACT.now any-text
      ⨾⨾ no_fault.optional_written PREFIX.now filled
      ⨾⨾ no_fault.optional_written SUFFIX.now filled
      ⨾⨾ no_fault.optional_written IGNORE_CASE.now any-truth).holds d at h in
      chosen-printable (get CONTAINS.now d) (get EXACT.now d) (get PREFIX.now d) (get SUFFIX.now d) (folds_in d)
      parts.1.0 parts.1.1.1.0 parts.1.1.1.1.0 parts.0;
})
