use Rattle.std.proofs.Common.{◌≡◌, ◌+◌, drop, map}
use Rattle.mesh_tree.specs.Size.{total, tree_count}
use Rattle.mesh_tree.proofs.+count.Given as goal

abbrev pub invariant-size::count_all-loop-part : goal.invariant-size::count_all-loop-part
invariant-size::count_all-loop-part g l =
    l.count + total (map tree_count (drop l.part-index l.parts)) ≡ total (map tree_count l.parts)
