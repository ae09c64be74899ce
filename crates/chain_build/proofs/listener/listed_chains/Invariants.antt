-- The chains so far, with those of the ports left, are those of all listed ports.
use Rattle.std.proofs.Common.{◌≡◌, ◌++◌, Some, drop}
use Rattle.std.specs.List.{flat_map}
use Rattle.mesh_policy.specs.Workload.{mode_of, protocol_of}
use Rattle.chain_build.specs.Listener.{chains_at}
use Rattle.chain_build.proofs.listener.listed_chains.Given as goal

abbrev pub invariant-loop-port : goal.invariant-loop-port
invariant-loop-port l =
    l.chains ++ flat_map (λ port. chains_at l.workload (protocol_of l.workload port) (mode_of l.workload port) (Some port))
    (drop l.port-index l.port-items)
    ≡ flat_map (λ port. chains_at l.workload (protocol_of l.workload port) (mode_of l.workload port) (Some port)) l.port-items
