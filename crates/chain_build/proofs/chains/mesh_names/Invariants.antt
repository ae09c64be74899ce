-- The names so far are the first of those of the mesh.
use Rattle.std.proofs.Common.{◌≡◌, map, take}
use Rattle.chain_build.proofs.chains.mesh_names.Given as goal

abbrev pub invariant-loop-name : goal.invariant-loop-name
invariant-loop-name l = l.names ≡ map (λ n. n.now) (take l.name-index l.name-items)
