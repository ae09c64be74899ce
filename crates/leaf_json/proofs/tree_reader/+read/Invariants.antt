-- What is wrong with the trees of a list is what is wrong with those that are left, and so are the trees.
use Rattle.std.proofs.Common.{◌≡◌, ◌++◌, drop, length}
use Rattle.serde_json.specs.View.{items_view}
use Rattle.mesh_doc.specs.Faults.{first}
use Rattle.envoy_types.specs.TreeForms.{each_tree_faults, each_tree_in}
use Rattle.leaf_json.proofs.tree_reader.+read.Given as goal

abbrev pub invariant-each_tree-loop-i : goal.invariant-each_tree-loop-i
invariant-each_tree-loop-i g l = record {
  faults :
      first (each_tree_faults g.L.Form.form 0 (items_view l.items) l.at)
      ≡ first (each_tree_faults g.L.Form.form l.i (items_view (drop l.i l.items)) l.at);
  value : each_tree_in g.L.Form.form (items_view l.items) ≡ l.all ++ each_tree_in g.L.Form.form (items_view (drop l.i l.items));
  count : length l.all ≡ l.i;
}
