use Rattle.std.proofs.Common.{◌≡◌, drop, filter}
use Rattle.std.specs.Option.{option_copied}
use Rattle.mesh_policy.specs.Modes.{is_older, oldest}
use Rattle.mesh_select.specs.Least.{least_from}
use Rattle.mesh_select.specs.Modes.{has_width}
use Rattle.mesh_select.proofs.modes.oldest.Given as goal

abbrev pub invariant-loop-peer : goal.invariant-loop-peer
invariant-loop-peer l =
    least_from is_older (option_copied l.found) (filter (has_width l.width l.root) (drop l.peer-index l.peers))
    ≡ oldest (filter (has_width l.width l.root) l.peers)
