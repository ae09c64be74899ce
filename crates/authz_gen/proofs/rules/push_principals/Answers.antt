-- Each condition is accepted.
use Rattle.mesh_policy.specs.AcceptedRules.{AcceptedCondition}
use Rattle.authz_gen.proofs.Items.{item-is}
use Rattle.authz_gen.proofs.rules.push_principals.Goals as goal

pub push_tested_principal-requires : goal.push_tested_principal-requires
push_tested_principal-requires c =
    item-is AcceptedCondition _ c.loop-condition.condition-index c.condition-item.result c.requires c.loop-condition-test.true
    c.condition-item.is
