use Rattle.std.proofs.Common.{◌≡◌, ◌++◌, drop, filter}
use Rattle.mesh_policy.specs.Workload.{is_action}
use Rattle.mesh_select.proofs.build.with_action.Given as goal

abbrev pub invariant-loop-entry : goal.invariant-loop-entry
invariant-loop-entry l =
    l.copies ++ filter (λ policy. is_action l.action policy.action) (drop l.entry-index l.policies)
    ≡ filter (λ policy. is_action l.action policy.action) l.policies
