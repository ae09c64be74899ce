-- The matcher of a value, from the texts of its alternatives.
use Rattle.std.proofs.Common.{◌≡◌, ℕ, Bool, false, List, [], Option, Some, None, option_map, unwrap_or, refl}
use Rattle.serde_json.specs.Data.{Data, null}
use Rattle.serde_json.specs.Find.{get}
use Rattle.mesh_doc.specs.Fields.{optional_written_in, required_written_in}
use Rattle.mesh_doc.specs.Kinds.{text_in, truth_in}
use Rattle.envoy_types.specs.StringForms.{string_in}
use Rattle.envoy_types.specs.Strings.{matcher_with}
use Rattle.envoy_types.specs.declared.keys.TheConstants.{CONTAINS, EXACT, PREFIX, SUFFIX, IGNORE_CASE}
use Rattle.envoy_types.specs.declared.strings.MatchKind.TheVariants.{Exact, Prefix, Suffix, Contains}
use Rattle.envoy_types.specs.declared.strings.StringMatcher.{StringMatcher}

-- the matcher of the first text that is there
abbrev pub matcher-of : Option (List ℕ) → Option (List ℕ) → Option (List ℕ) → List ℕ → Bool → StringMatcher
matcher-of contains exact prefix suffix fold =
    unwrap_or (option_map (λ t. matcher_with Contains t fold) contains)
    (unwrap_or (option_map (λ t. matcher_with Exact t fold) exact)
    (unwrap_or (option_map (λ t. matcher_with Prefix t fold) prefix)
    (matcher_with Suffix suffix fold)))

abbrev chosen-at : Option Data → Option Data → Option Data → Option Data → Bool → StringMatcher
chosen-at contains exact prefix suffix fold =
    unwrap_or (option_map (λ x. matcher_with Contains (text_in x) fold) contains)
    (unwrap_or (option_map (λ x. matcher_with Exact (text_in x) fold) exact)
    (unwrap_or (option_map (λ x. matcher_with Prefix (text_in x) fold) prefix)
    (matcher_with Suffix (text_in (unwrap_or suffix null)) fold)))

chosen-texts : (contains exact prefix suffix : Option Data) (fold : Bool)
    → matcher-of (option_map text_in contains) (option_map text_in exact) (option_map text_in prefix)
    (unwrap_or (option_map text_in suffix) []) fold
    ≡ chosen-at contains exact prefix suffix fold
unfolding text_in
chosen-texts (Some x) exact prefix suffix fold = refl
chosen-texts None (Some x) prefix suffix fold = refl
chosen-texts None None (Some x) suffix fold = refl
chosen-texts None None None (Some x) fold = refl
chosen-texts None None None None fold = refl

pub matcher_of_texts : (d : Data)
    → matcher-of (optional_written_in CONTAINS.now text_in d) (optional_written_in EXACT.now text_in d)
    (optional_written_in PREFIX.now text_in d) (unwrap_or (optional_written_in SUFFIX.now text_in d) [])
    (unwrap_or (optional_written_in IGNORE_CASE.now truth_in d) false)
    ≡ string_in d
unfolding string_in optional_written_in required_written_in
matcher_of_texts d =
    chosen-texts (get CONTAINS.now d) (get EXACT.now d) (get PREFIX.now d) (get SUFFIX.now d)
    (unwrap_or (option_map truth_in (get IGNORE_CASE.now d)) false)
