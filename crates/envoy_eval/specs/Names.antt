-- The names of policies that the hits of shadow rules stand for.
use Rattle.std.specs.Prelude.{ℕ, List, Option, Some, None}
use Rattle.std.specs.Option.{option_map}
use Rattle.envoy_types.specs.Access.{Rules, name_at}
use Rattle.envoy_eval.specs.declared.hits.Hit.{Hit}

-- where the policy of a hit stands
abbrev pub policy_of : Option Hit → Option ℕ
policy_of hit = option_map (λ h. h.policy) hit

-- the name of the policy that shadow rules hit, if there are such rules and one was hit
abbrev pub name_of_hit : Option Rules → Option Hit → Option (List ℕ)
name_of_hit None hit = None
name_of_hit (Some rules) hit = name_at rules (policy_of hit)
