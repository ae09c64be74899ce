-- The headers that policies test and change, rule by rule.
use Rattle.std.specs.Prelude.{ℕ, List, [], ◌++◌, flat_map, Option, if◌then◌else◌}
use Rattle.std.specs.Option.{option_copied, option_to_list}
use Rattle.mesh_policy.specs.SelectFault.{headers_of_condition, headers_of_place}
use Rattle.mesh_policy.specs.declared.jwt.JwtRule.{JwtRule}
use Rattle.mesh_policy.specs.declared.policy.Rule.{Rule}
use denote.Ref.{Bor}

-- the headers that the conditions of rules test (Istio, "Authorization Policy Conditions": `request.headers`)
abbrev pub tested_by_rules : List Rule → List (List ℕ)
tested_by_rules rules = flat_map (λ rule. flat_map headers_of_condition rule.conditions) rules

-- a text that is there, as a list
abbrev pub listed : Option (Bor (List ℕ)) → List (List ℕ)
listed name = option_to_list (option_copied name)

-- the headers that a token stands in, where the rule takes its token away
abbrev pub taken_headers : JwtRule → List (List ℕ)
taken_headers rule = if rule.forward then [] else flat_map headers_of_place rule.places

-- the headers that a rule changes
abbrev pub changed_by : JwtRule → List (List ℕ)
changed_by rule = taken_headers rule ++ option_to_list rule.payload_header
