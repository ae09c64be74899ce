use Rattle.std.proofs.Common.{◌≡◌, drop}
use Rattle.mesh_policy.specs.Applying.{has_labels}
use Rattle.mesh_select.proofs.labels.SelectedPod.has_labels.Given as goal

abbrev pub invariant-loop-label : goal.invariant-loop-label
invariant-loop-label l = has_labels l.self (drop l.label-index l.labels) ≡ has_labels l.self l.labels
