use Rattle.std.proofs.Common.{◌≡◌, ◌++◌, drop, filter, filter_map, map}
use Rattle.mesh_policy.specs.Workload.{is_action}
use Rattle.mesh_policy.specs.declared.policy.Action.TheVariants.{Custom}
use Rattle.mesh_select.proofs.providers.written.Given as goal

abbrev pub invariant-loop-entry : goal.invariant-loop-entry
invariant-loop-entry l =
    map (λ t. t.now) l.names.items
    ++ filter_map (λ policy. policy.provider) (filter (λ policy. is_action Custom policy.action) (drop l.entry-index l.policies))
    ≡ filter_map (λ policy. policy.provider) (filter (λ policy. is_action Custom policy.action) l.policies)
