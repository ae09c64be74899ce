-- What is wrong with the entries from the first on is what is wrong with those that are left, and so are the keys.
use Rattle.std.proofs.Common.{◌≡◌, ◌+◌, ◌++◌, false, drop}
use Rattle.serde_json.specs.View.{items_view}
use Rattle.mesh_doc.specs.Faults.{first}
use Rattle.mesh_doc.specs.Lists.{each_in}
use Rattle.mesh_doc.specs.Turns.{each_in_turn}
use Rattle.envoy_types.specs.ValueForms.{path_segment_faults, segment_in}
use Rattle.leaf_json.proofs.values.later_keys.Given as goal

abbrev pub invariant-loop-i : goal.invariant-loop-i
invariant-loop-i l = record {
  faults :
      first (each_in_turn path_segment_faults (λ is_first d. false) false 1 (items_view l.items) l.at)
      ≡ first (each_in_turn path_segment_faults (λ is_first d. false) false (l.i + 1) (items_view (drop l.i l.items)) l.at);
  value : each_in segment_in (items_view l.items) ≡ l.keys ++ each_in segment_in (items_view (drop l.i l.items));
}
