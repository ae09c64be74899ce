-- What the token filter asks of a request (Envoy v3 API reference, `extensions.filters.http.jwt_authn.v3`: JwtAuthentication,
-- RequirementRule and JwtRequirement). How a token is found and judged is told by the rule of its provider.
use Rattle.std.specs.Prelude.{ℕ, Bool, not, ◌&&◌, ◌||◌, List, [], ◌∷◌, find, Option, is_some}
use Rattle.std.specs.List.{list_any}
use Rattle.std.specs.Option.{option_and_then, option_map}
use Rattle.std.specs.Str.{bytes_eq}
use Rattle.mesh_text.specs.Parts.{is_prefix}
use Rattle.mesh_policy.specs.Authenticated.{token_of, verdict_for}
use Rattle.mesh_policy.specs.Lists.{first_answer}
use Rattle.mesh_policy.specs.declared.case.Case.{Case}
use Rattle.mesh_policy.specs.declared.jwt.JwtRule.{JwtRule}
use Rattle.mesh_policy.specs.declared.request.Request.{Request}
use Rattle.mesh_policy.specs.declared.token_verdict.ClaimField.{ClaimField}
use Rattle.mesh_policy.specs.declared.token_verdict.TokenVerdict.{TokenVerdict}
use Rattle.envoy_types.specs.declared.jwt.JwtCheck.{JwtCheck}
use Rattle.envoy_types.specs.declared.jwt.Requirement.{Requirement}
use Rattle.envoy_types.specs.declared.jwt.Requirement.TheVariants.{One, AnyOf}

-- a provider as contracts see it
pub record Provider : Type 0 where
  pub name : List ℕ
  -- one place at least, and headers before parameters
  pub rule : JwtRule

-- a token filter as contracts see it
pub record Authentication : Type 0 where
  -- in byte order of their names
  pub providers : List Provider
  pub rules : List JwtCheck

-- the provider of a name, if there is one
abbrev pub provider_named : List Provider → List ℕ → Option Provider
provider_named providers name = find (λ provider. bytes_eq provider.name name) providers

-- the provider of that name finds a token
abbrev pub has_token : List Provider → Case → List ℕ → Bool
has_token providers case name = is_some (option_and_then (λ provider. token_of case provider.rule) (provider_named providers name))

-- the verdict that the case lists for the question of the provider of that name, where it finds a token
abbrev pub verdict_by : List Provider → Case → List ℕ → Option TokenVerdict
verdict_by providers case name = option_and_then (λ provider. verdict_for case provider.rule) (provider_named providers name)

-- the provider of that name finds a token and its question is listed
abbrev pub provider_holds : List Provider → Case → List ℕ → Bool
provider_holds providers case name = is_some (verdict_by providers case name)

-- the names of a requirement, in order
abbrev pub names_of : Requirement → List (List ℕ)
names_of (One name) = name ∷ []
names_of (AnyOf names allow_missing) = names

-- The provider holds; one of several does, or, with `allow_missing`, none of them finds a token.
abbrev pub requirement_holds : List Provider → Requirement → Case → Bool
requirement_holds providers (One name) case = provider_holds providers case name
requirement_holds providers (AnyOf names allow_missing) case =
    list_any (provider_holds providers case) names || (allow_missing && not (list_any (has_token providers case) names))

-- the claims that the first provider that holds sets
abbrev pub claims_by : List Provider → Requirement → Case → Option (List ClaimField)
claims_by providers requirement case =
    option_map (λ verdict. verdict.claims) (first_answer (verdict_by providers case) (names_of requirement))

-- what the first rule whose prefix begins the whole path requires, if anything
abbrev pub required_of : List JwtCheck → Request → Option Requirement
required_of rules request = option_and_then (λ rule. rule.requirement) (find (λ rule. is_prefix rule.prefix request.path) rules)

-- of the request of a case
abbrev pub required : Authentication → Case → Option Requirement
required jwt case = option_and_then (required_of jwt.rules) case.request
