-- The filter is of the policies of its action, which ask for no token.
use Rattle.std.proofs.Common.{subst, sym}
use Rattle.mesh_policy.specs.declared.service.Protocol.TheVariants.{Http}
use Rattle.authz_gen.specs.Policies.{AreToldOn, ArePoliciesOf}
use Rattle.chain_build.proofs.Enforced.{enforced, told}
use Rattle.chain_build.proofs.filters.push_filter.Goals as goal

pub rbac_on-requires-clause-policies : goal.rbac_on-requires-clause-policies
rbac_on-requires-clause-policies c =
    subst (ArePoliciesOf c.args.action) (sym c.policies-policies.ensures)
    (enforced c.args.workload.now c.limits.ensures c.args.action c.requires.decided)

pub rbac_on-requires-clause-told : goal.rbac_on-requires-clause-told
rbac_on-requires-clause-told c =
    subst (AreToldOn Http) (sym c.policies-policies.ensures)
    (told c.args.workload.now c.requires.buildable c.args.action c.requires.decided)
