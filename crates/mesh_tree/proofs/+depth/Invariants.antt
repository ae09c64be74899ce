use Rattle.std.proofs.Common.{◌≡◌, ◌≤◌, ◌+◌, drop, map, max}
use Rattle.mesh_tree.specs.Size.{greatest, total, tree_count, tree_depth}
use Rattle.mesh_tree.proofs.+depth.Given as goal

abbrev pub invariant-size::deepest-loop-part : goal.invariant-size::deepest-loop-part
invariant-size::deepest-loop-part g l = record {
  value : max l.most (greatest (map tree_depth (drop l.part-index l.parts))) ≡ greatest (map tree_depth l.parts);
  bound : l.most + total (map tree_count (drop l.part-index l.parts)) ≤ total (map tree_count l.parts);
}
