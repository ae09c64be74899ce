-- A value without fault is that of a token filter that can be written, if the names of providers rise.
use Rattle.std.proofs.Common.{◌≡◌, ℕ, true, List, Option, Some, None, refl}
use Rattle.std.proofs.lemmas.Bool.{and_from, le-leb}
use Rattle.std.proofs.lemmas.List.Sums.{list_all-from_AllPass}
use Rattle.std.specs.Bool.{⊤}
use Rattle.std.specs.Option.{ForSome}
use Rattle.serde_json.specs.Data.{Data}
use Rattle.mesh_doc.proofs.NoFault as no_fault
use Rattle.mesh_doc.proofs.NoFault.{Ensures, ◌⨾⨾◌, IsListOf, anything, strict_object}
use Rattle.mesh_doc.specs.Fields.{optional_written_in, required_written, required_written_in}
use Rattle.mesh_doc.specs.Kinds.{text_in}
use Rattle.mesh_doc.specs.Lists.{list_in}
use Rattle.envoy_types.specs.Jwt.{Authentication}
use Rattle.envoy_types.specs.JwtForms.{check_faults, check_in, check_is_printable, jwt_config_faults, jwt_config_in, jwt_faults, jwt_in}
use Rattle.envoy_types.specs.JwtForms.{jwt_is_printable, prefix_match_faults, provider_names, providers_in, requirement_in}
use Rattle.envoy_types.specs.JwtForms.{requirement_is_printable}
use Rattle.envoy_types.specs.ProviderForms.{provider_is_printable}
use Rattle.envoy_types.specs.SmallForms.{any_list, given, most_entries}
use Rattle.envoy_types.specs.declared.jwt.JwtCheck.{JwtCheck}
use Rattle.envoy_types.specs.declared.jwt.Requirement.{Requirement}
use Rattle.envoy_types.specs.declared.keys.TheConstants.{MATCH, PREFIX, PROVIDERS, REQUIRES, RULES}
use Rattle.envoy_types.specs.declared.names.TheConstants.{JWT_NAME, JWT_TYPE}
use Rattle.listener_reader.proofs.PartsPrintable.{named, typed}
use Rattle.listener_reader.proofs.ProvidersPrintable.{provider-printable}
use Rattle.listener_reader.proofs.RequirementsPrintable.{requirement-printable}
use Rattle.listener_reader.specs.RisingNames.{jwt_rises}

-- ---- rules

any-prefix : Ensures prefix_match_faults (required_written_in PREFIX.now text_in) (λ _. ⊤)
any-prefix = anything

if-there : (names : List (List ℕ)) (found : Option Requirement) → ForSome found (λ r. requirement_is_printable names r ≡ true)
    → check_is_printable names found ≡ true
if-there names None h = refl
if-there names (Some r) h = h r refl

-- what is required can be written
abbrev IsRule : List (List ℕ) → JwtCheck → Type 0
IsRule names rule = check_is_printable names rule.requirement ≡ true

check-printable : (names : List (List ℕ)) → Ensures (check_faults names) check_in (IsRule names)
unfolding check_faults check_in
check-printable names = strict_object _ (record {
  holds = λ d at h.
      let parts = (no_fault.required_written MATCH.now any-prefix
      ⨾⨾ no_fault.optional_written REQUIRES.now (requirement-printable names)).holds d at h in
      if-there names (optional_written_in REQUIRES.now requirement_in d) parts.1;
})

-- the names that requirements may have
abbrev names-in : Data → List (List ℕ)
names-in d = provider_names (providers_in d)

rules-printable : Ensures (given (λ d. required_written RULES.now (any_list (check_faults (names-in d))))) (λ d. d)
    (λ d. IsListOf most_entries (IsRule (names-in d)) (required_written_in RULES.now (list_in check_in) d))
rules-printable = record {
  holds = λ d at h. (no_fault.required_written RULES.now (no_fault.list_of most_entries (check-printable (names-in d)))).holds d at h;
}

-- ---- the filter

-- a filter that can be written, if its names rise
abbrev pub PrintableJwt : Authentication → Type 0
PrintableJwt jwt = jwt_rises jwt ≡ true → jwt_is_printable jwt ≡ true

config-printable : Ensures jwt_config_faults jwt_config_in PrintableJwt
unfolding jwt_config_faults jwt_config_in jwt_is_printable jwt_rises providers_in
config-printable = strict_object _ (record {
  holds = λ d at h rise.
      let parts = (typed JWT_TYPE.now
      ⨾⨾ no_fault.required_written PROVIDERS.now (no_fault.map_of provider-printable)
      ⨾⨾ rules-printable).holds d at h in
      let jwt = jwt_config_in d in
      let providers = list_all-from_AllPass provider_is_printable jwt.providers parts.1.0 in
      let rules = list_all-from_AllPass (λ rule. check_is_printable (names-in d) rule.requirement) jwt.rules parts.1.1.each in
      and_from _ _ (and_from _ _ (and_from _ _ rise providers) (le-leb _ most_entries parts.1.1.few)) rules;
})

pub jwt-printable : Ensures jwt_faults jwt_in PrintableJwt
jwt-printable = named JWT_NAME.now config-printable
