-- Where a case lists the valid tokens that the providers of a requirement find.
use Rattle.std.specs.Prelude.{ℕ, Bool, false, not, ◌&&◌, List, Option}
use Rattle.std.specs.List.{list_any, position_from}
use Rattle.std.specs.Option.{option_and_then}
use Rattle.mesh_policy.specs.Authenticated.{is_answer, question_of, token_of}
use Rattle.mesh_policy.specs.Lists.{first_answer}
use Rattle.mesh_policy.specs.declared.case.Case.{Case}
use Rattle.mesh_policy.specs.declared.jwt.JwtRule.{JwtRule}
use Rattle.envoy_types.specs.Jwt.{Provider, has_token, provider_named}
use Rattle.envoy_types.specs.declared.jwt.Requirement.{Requirement}
use Rattle.envoy_types.specs.declared.jwt.Requirement.TheVariants.{One, AnyOf}

-- where the case first lists the question of a rule
abbrev pub position_for : Case → JwtRule → Option ℕ
position_for case rule = option_and_then (λ token. position_from (is_answer (question_of rule token)) 0 case.verdicts) (token_of case rule)

-- the same of the provider of a name
abbrev pub position_by : List Provider → Case → List ℕ → Option ℕ
position_by providers case name = option_and_then (λ provider. position_for case provider.rule) (provider_named providers name)

-- and of the first of several that finds one
abbrev pub first_position_by : List Provider → Case → List (List ℕ) → Option ℕ
first_position_by providers case names = first_answer (position_by providers case) names

-- with `allow_missing`, none of the providers finds a token
abbrev pub may_miss : List Provider → Case → Requirement → Bool
may_miss providers case (One name) = false
may_miss providers case (AnyOf names allow_missing) = allow_missing && not (list_any (has_token providers case) names)
