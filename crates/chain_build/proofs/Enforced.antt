-- The policies of a workload are those that filters are made of.
use Rattle.std.proofs.Common.{◌≢◌, refl}
use Rattle.mesh_policy.specs.AcceptedBundle.{AcceptedItems, same_policy}
use Rattle.mesh_policy.specs.AcceptedRules.{AcceptedPolicy}
use Rattle.mesh_policy.specs.Workload.{Workload, with_action}
use Rattle.mesh_policy.specs.declared.policy.Action.{Action}
use Rattle.mesh_policy.specs.declared.policy.Action.TheVariants.{Allow, Deny, Audit, Custom}
use Rattle.mesh_policy.specs.declared.service.Protocol.TheVariants.{Http}
use Rattle.mesh_select.specs.Workload.{KeepsLimits}
use Rattle.authz_gen.specs.Policies.{AreToldOn, ArePoliciesOf}
use Rattle.chain_build.specs.Buildable.{IsBuildable}

module _ (workload : Workload) where
  accepted : KeepsLimits workload → (action : Action) → AcceptedItems AcceptedPolicy same_policy (with_action workload action)
  accepted limits Allow = limits.allow
  accepted limits Deny = limits.deny
  accepted limits Audit = limits.audit
  accepted limits Custom = limits.custom

  pub enforced : KeepsLimits workload → (action : Action) → action ≢ Custom → ArePoliciesOf action (with_action workload action)
  enforced limits action decided = record { accepted = accepted limits action; actions = limits.actions action; decided = decided }

  -- none of them asks for a token
  pub told : IsBuildable workload → (action : Action) → action ≢ Custom → AreToldOn Http (with_action workload action)
  told h Allow decided = h.allow
  told h Deny decided = h.deny
  told h Audit decided = h.audit
  told h Custom decided = absurd (decided refl)
