-- Each policy is accepted.
use Rattle.mesh_policy.specs.AcceptedRules.{AcceptedPolicy}
use Rattle.authz_gen.proofs.Items.{item-is}
use Rattle.authz_gen.proofs.policies.rule_policies.Goals as goal

pub push_rules-requires : goal.push_rules-requires
push_rules-requires c =
    item-is AcceptedPolicy _ c.loop-policy.policy-index c.policy-item.result c.requires c.loop-policy-test.true c.policy-item.is
