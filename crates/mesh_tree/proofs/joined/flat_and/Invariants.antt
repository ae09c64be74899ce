use Rattle.std.proofs.Common.{◌≡◌}
use Rattle.std.specs.List.{flat_map}
use Rattle.mesh_tree.specs.Joined.{and_entries}
use Rattle.mesh_tree.proofs.joined.flat_and.Given as goal

abbrev pub invariant-loop-part : goal.invariant-loop-part
invariant-loop-part g l = l.entries ≡ flat_map and_entries l.yielded
