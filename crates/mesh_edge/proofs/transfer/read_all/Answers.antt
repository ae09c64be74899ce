-- What was read last is taken, though there is no memory to keep it.
use Rattle.std.proofs.KnownBytes.{Consumes-trans}
use Rattle.mesh_edge.proofs.transfer.read_all.Goals as goal

pub returns-in_default-extend_from_slice-clause-prefix :
    goal.returns-in_default-extend_from_slice-clause-prefix
returns-in_default-extend_from_slice-clause-prefix g c =
    (_, Consumes-trans _ _ _ _ _ c.loop-chunk.invariant.taken c.in-Ok.ensures.bytes.0)
