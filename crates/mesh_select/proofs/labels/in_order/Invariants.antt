use Rattle.std.proofs.Common.{◌≡◌, drop}
use Rattle.std.specs.BTreeSet.{insert_key}
use Rattle.std.specs.List.{fold}
use Rattle.mesh_select.specs.Labels.{inserted, label_cmp}
use Rattle.mesh_select.proofs.labels.in_order.Given as goal

abbrev pub invariant-loop-label : goal.invariant-loop-label
invariant-loop-label l = fold (insert_key label_cmp) l.set.keys (drop l.label-index l.labels) ≡ inserted l.labels
