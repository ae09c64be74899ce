use Rattle.std.proofs.Common.{◌≤◌, drop, length}
use Rattle.mesh_select.specs.Labels.{HasPorts}
use Rattle.mesh_select.proofs.labels.by_name.Given as goal

abbrev pub invariant-loop-at : goal.invariant-loop-at
invariant-loop-at l = record { within : l.at ≤ length l.ports; has : HasPorts l.map (drop l.at l.ports) }

abbrev pub decreases-loop-at : goal.decreases-loop-at
decreases-loop-at l = l.at
