-- The values are those of the first trees.
use Rattle.std.proofs.Common.{◌≡◌, map, take}
use Rattle.serde_json.specs.View.{view}
use Rattle.envoy_types.specs.TreeForms.{tree_written}
use Rattle.leaf_json.proofs.trees.+write.Given as goal

abbrev pub invariant-tree_list_value-loop-tree : goal.invariant-tree_list_value-loop-tree
invariant-tree_list_value-loop-tree g l = map view l.values.items ≡ map (tree_written g.L.Form.form) (take l.tree-index l.trees)
