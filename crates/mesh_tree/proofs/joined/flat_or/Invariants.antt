use Rattle.std.proofs.Common.{◌≡◌}
use Rattle.std.specs.List.{flat_map}
use Rattle.mesh_tree.specs.Joined.{or_entries}
use Rattle.mesh_tree.proofs.joined.flat_or.Given as goal

abbrev pub invariant-loop-part : goal.invariant-loop-part
invariant-loop-part g l = l.entries ≡ flat_map or_entries l.yielded
