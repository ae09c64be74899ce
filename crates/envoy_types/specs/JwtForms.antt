-- The JSON of the token filter (Envoy v3 API reference, `extensions.filters.http.jwt_authn.v3`: JwtAuthentication,
-- RequirementRule and JwtRequirement).
use Rattle.std.specs.Prelude.{ℕ, ◌+◌, ◌-◌, ◌==◌, Bool, true, ◌&&◌, nat_le, List, [], ◌∷◌, ◌++◌, length, map, Option, Some, None, is_none}
use Rattle.std.specs.Prelude.{unwrap_or, if◌then◌else◌}
use Rattle.std.specs.List.{filter_map, list_all, list_any}
use Rattle.std.specs.Str.{bytes_eq}
use Rattle.serde_json.specs.Data.{Data, array, string, object, no_members}
use Rattle.serde_json.specs.View.{items_of as items}
use Rattle.mesh_doc.specs.Faults.{Check, ◌⨾◌, demands}
use Rattle.mesh_doc.specs.Fields.{strict, optional_written, optional_written_in, required_written, required_written_in}
use Rattle.mesh_doc.specs.Kinds.{length_in, text_faults, text_in}
use Rattle.mesh_doc.specs.Known.{unknown_faults}
use Rattle.mesh_doc.specs.Lists.{list_in}
use Rattle.mesh_doc.specs.Maps.{map_of, map_in}
use Rattle.mesh_doc.specs.Tested.{tested}
use Rattle.mesh_doc.specs.declared.reason.Reason.TheVariants as reason
use Rattle.envoy_types.specs.Jwt.{Authentication, Provider}
use Rattle.envoy_types.specs.Order.{names_rise}
use Rattle.envoy_types.specs.ProviderForms.{provider_faults, provider_in, provider_is_printable, provider_written}
use Rattle.envoy_types.specs.SmallForms.{any_list, config_in, given, is_within, is_written, list_in_turn_that, most_entries}
use Rattle.envoy_types.specs.SmallForms.{is_short_list, named_faults, one_of, type_faults}
use Rattle.envoy_types.specs.WrittenFields.{config_written, field, list_written, map_written, named_written, object_of, optional_field}
use Rattle.envoy_types.specs.WrittenFields.{sole_field}
use Rattle.envoy_types.specs.declared.jwt.JwtCheck.{JwtCheck}
use Rattle.envoy_types.specs.declared.jwt.Requirement.{Requirement}
use Rattle.envoy_types.specs.declared.jwt.Requirement.TheVariants.{One, AnyOf}
use Rattle.envoy_types.specs.declared.keys.TheConstants.{ALLOW_MISSING, MATCH, PREFIX, PROVIDERS, PROVIDER_NAME, REQUIREMENTS}
use Rattle.envoy_types.specs.declared.keys.TheConstants.{REQUIRES, REQUIRES_ANY, RULES, TYPE}
use Rattle.envoy_types.specs.declared.names.TheConstants.{JWT_NAME, JWT_TYPE}

-- ---- requirements, of the providers of these names

-- the name of a provider of the filter
abbrev pub is_provider : List (List ℕ) → List ℕ → Bool
is_provider names name = list_any (bytes_eq name) names

-- the name of one of these providers
abbrev pub provider_name_faults : List (List ℕ) → Check
provider_name_faults names = tested (is_provider names) reason.BadForm

-- an object without fields (`google.protobuf.Empty`)
unfoldable pub empty_faults : Check
empty_faults = unknown_faults []

-- one of several: a provider, or, at the end of the list alone, that a token may be missing
unfoldable pub requirement_entry_faults : List (List ℕ) → (is_last : Bool) → Check
requirement_entry_faults names is_last =
    strict (ALLOW_MISSING.now ∷ PROVIDER_NAME.now ∷ [])
    (one_of (ALLOW_MISSING.now ∷ PROVIDER_NAME.now ∷ [])
    ⨾ demands (λ d. if is_written ALLOW_MISSING.now d then is_last else true) reason.BadForm
    ⨾ optional_written PROVIDER_NAME.now (provider_name_faults names)
    ⨾ optional_written ALLOW_MISSING.now empty_faults)

-- the provider, and none for a token that may be missing
unfoldable pub requirement_entry_in : Data → Option (List ℕ)
requirement_entry_in d = optional_written_in PROVIDER_NAME.now text_in d

-- two entries at least, each read with how many are left behind it
unfoldable pub requirement_list_faults : List (List ℕ) → Check
requirement_list_faults names =
    given (λ d. list_in_turn_that {S = ℕ} (nat_le 2)
    (λ left. requirement_entry_faults names (left == 0)) (λ left _. left - 1) (length_in d - 1))

-- `JwtRequirementOrList`
unfoldable pub requires_any_faults : List (List ℕ) → Check
requires_any_faults names = strict (REQUIREMENTS.now ∷ []) (required_written REQUIREMENTS.now (requirement_list_faults names))

-- what the entries mean
abbrev pub any_of : List (Option (List ℕ)) → Requirement
any_of entries = AnyOf (filter_map (λ entry. entry) entries) (list_any is_none entries)

-- the entries of the list
unfoldable pub requires_any_in : Data → Requirement
requires_any_in d = any_of (required_written_in REQUIREMENTS.now (list_in requirement_entry_in) d)

-- `JwtRequirement`
unfoldable pub requirement_faults : List (List ℕ) → Check
requirement_faults names =
    strict (PROVIDER_NAME.now ∷ REQUIRES_ANY.now ∷ [])
    (one_of (PROVIDER_NAME.now ∷ REQUIRES_ANY.now ∷ [])
    ⨾ optional_written PROVIDER_NAME.now (provider_name_faults names)
    ⨾ optional_written REQUIRES_ANY.now (requires_any_faults names))

-- the alternative that is there
unfoldable pub requirement_in : Data → Requirement
requirement_in d =
    unwrap_or (optional_written_in REQUIRES_ANY.now requires_any_in d) (One (required_written_in PROVIDER_NAME.now text_in d))

-- one provider, by its name
abbrev pub provider_name_written : List ℕ → Data
provider_name_written name = sole_field PROVIDER_NAME.now (string name)

-- the last entry, where a token may be missing
abbrev pub missing_entries : Bool → List Data
missing_entries allow_missing = if allow_missing then sole_field ALLOW_MISSING.now (object no_members) ∷ [] else []

-- one provider, or the list of several
unfoldable pub requirement_written : Requirement → Data
requirement_written (One name) = provider_name_written name
requirement_written (AnyOf names allow_missing) = sole_field REQUIRES_ANY.now (sole_field REQUIREMENTS.now
    (array (items (map provider_name_written names ++ missing_entries allow_missing))))

-- how many entries such a list has
abbrev pub count_entries : List (List ℕ) → Bool → ℕ
count_entries names allow_missing = length names + (if allow_missing then 1 else 0)

-- each name is that of a provider, and there are two entries at least
unfoldable pub requirement_is_printable : List (List ℕ) → Requirement → Bool
requirement_is_printable known (One name) = is_provider known name
requirement_is_printable known (AnyOf names allow_missing) =
    list_all (is_provider known) names && is_within 2 most_entries (count_entries names allow_missing)

-- ---- rules

-- `config.route.v3.RouteMatch`
unfoldable pub prefix_match_faults : Check
prefix_match_faults = strict (PREFIX.now ∷ []) (required_written PREFIX.now text_faults)

-- `RequirementRule`
unfoldable pub check_faults : List (List ℕ) → Check
check_faults names =
    strict (MATCH.now ∷ REQUIRES.now ∷ [])
    (required_written MATCH.now prefix_match_faults
    ⨾ optional_written REQUIRES.now (requirement_faults names))

-- the prefix of the paths, and what is required, if anything is
unfoldable pub check_in : Data → JwtCheck
check_in d = record {
  prefix = required_written_in MATCH.now (required_written_in PREFIX.now text_in) d;
  requirement = optional_written_in REQUIRES.now requirement_in d;
}

-- the prefix, and the requirement where there is one
unfoldable pub check_written : JwtCheck → Data
check_written check = object_of
    (field MATCH.now (sole_field PREFIX.now (string check.prefix))
    ∷ optional_field REQUIRES.now requirement_written check.requirement
    ∷ [])

-- nothing is required, or what can be written
abbrev pub check_is_printable : List (List ℕ) → Option Requirement → Bool
check_is_printable known None = true
check_is_printable known (Some requirement) = requirement_is_printable known requirement

-- ---- the filter

-- the providers, as members stand: in byte order of their names
unfoldable pub providers_in : Data → List Provider
providers_in d = required_written_in PROVIDERS.now (map_in provider_in) d

-- their names
abbrev pub provider_names : List Provider → List (List ℕ)
provider_names providers = map (λ provider. provider.name) providers

-- `JwtAuthentication`
unfoldable pub jwt_config_faults : Check
jwt_config_faults =
    strict (TYPE.now ∷ PROVIDERS.now ∷ RULES.now ∷ [])
    (type_faults JWT_TYPE.now
    ⨾ required_written PROVIDERS.now (map_of provider_faults)
    ⨾ given (λ d. required_written RULES.now (any_list (check_faults (provider_names (providers_in d))))))

-- `JwtAuthentication` under its name
abbrev pub jwt_faults : Check
jwt_faults = named_faults JWT_NAME.now jwt_config_faults

-- the providers and the rules
unfoldable pub jwt_config_in : Data → Authentication
jwt_config_in d = record { providers = providers_in d; rules = required_written_in RULES.now (list_in check_in) d }

-- of the filter
abbrev pub jwt_in : Data → Authentication
jwt_in = config_in jwt_config_in

-- the providers by their names, and the rules, both also where they are empty
unfoldable pub jwt_written : Authentication → Data
jwt_written jwt = named_written JWT_NAME.now (config_written JWT_TYPE.now
    (field PROVIDERS.now (map_written (λ provider. provider.name) provider_written jwt.providers)
    ∷ field RULES.now (list_written check_written jwt.rules)
    ∷ []))

-- providers whose names rise, rules within the limit of lists, and no requirement of another provider
unfoldable pub jwt_is_printable : Authentication → Bool
jwt_is_printable jwt =
    names_rise (λ provider. provider.name) jwt.providers && list_all provider_is_printable jwt.providers
    && is_short_list jwt.rules && list_all (λ rule. check_is_printable (provider_names jwt.providers) rule.requirement) jwt.rules
