-- What is found, with what the rules left give, is what all give.
use Rattle.std.proofs.Common.{◌≡◌, ◌++◌, drop, filter, map}
use Rattle.std.specs.List.{enumerate_from}
use Rattle.authz_gen.specs.Policies.{has_policy, rule_policies, rule_policy}
use Rattle.authz_gen.proofs.policies.push_rules.Given as goal

abbrev pub invariant-loop-index : goal.invariant-loop-index
invariant-loop-index l =
    l.found
    ++ map (rule_policy l.protocol l.policy)
    (filter (has_policy l.protocol l.policy.action) (enumerate_from l.index (drop l.index l.policy.rules)))
    ≡ l.fn.found ++ rule_policies l.protocol l.policy
