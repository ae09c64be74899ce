use Rattle.std.proofs.Common.{◌≡◌, drop, filter}
use Rattle.mesh_policy.specs.Lists.{first_answer}
use Rattle.mesh_policy.specs.Workload.{is_action}
use Rattle.mesh_policy.specs.declared.policy.Action.TheVariants.{Custom}
use Rattle.mesh_select.proofs.providers.first_written.Given as goal

abbrev pub invariant-loop-entry : goal.invariant-loop-entry
invariant-loop-entry l =
    first_answer (λ policy. policy.provider) (filter (λ policy. is_action Custom policy.action) (drop l.entry-index l.policies))
    ≡ first_answer (λ policy. policy.provider) (filter (λ policy. is_action Custom policy.action) l.policies)
