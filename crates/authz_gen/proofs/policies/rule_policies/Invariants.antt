-- What is found, with what the policies left give, is what all give.
use Rattle.std.proofs.Common.{◌≡◌, ◌++◌, drop}
use Rattle.std.specs.List.{flat_map}
use Rattle.authz_gen.specs.Policies.{rule_policies}
use Rattle.authz_gen.proofs.policies.rule_policies.Given as goal

abbrev pub invariant-loop-policy : goal.invariant-loop-policy
invariant-loop-policy l =
    l.found ++ flat_map (rule_policies l.protocol) (drop l.policy-index l.policies) ≡ flat_map (rule_policies l.protocol) l.policies
