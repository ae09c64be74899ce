-- Policies stand under their names, as the members of an object.
use Rattle.std.proofs.Common.{refl}
use Rattle.serde_json.specs.View.{view}
use Rattle.envoy_types.specs.RbacForms.{policy_in}
use Rattle.envoy_types.specs.declared.keys.TheConstants.{POLICIES}
use Rattle.listener_reader.proofs.Rising.{entries-rise}
use Rattle.listener_reader.proofs.rbac.RulesForm.read.Goals as goal

pub invariant_of-result : goal.invariant_of-result
unfolding policy_in
invariant_of-result c =
    entries-rise (λ policy. policy.name) policy_in (λ key d. refl) POLICIES.now (view c.args.v.now) _
    c.in_ok-policies.ensures.reads.1 c.in_ok-policies.ensures.rising
