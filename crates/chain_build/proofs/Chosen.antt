-- Which chain of the built listener a connection goes to.
use Rattle.std.proofs.Common.{◌≡◌, ℕ, ◌<◌, AllPairs, Option, ◌∙◌, ap}
use Rattle.std.specs.List.{slice_get}
use Rattle.std.specs.Option.{option_and_then, option_map}
use Rattle.mesh_policy.specs.Workload.{Workload, mode_of, port_at, protocol_of}
use Rattle.mesh_policy.specs.declared.case.Case.{Case}
use Rattle.mesh_policy.specs.declared.service.Protocol.{Protocol}
use Rattle.envoy_types.specs.Chosen.{chosen}
use Rattle.envoy_types.specs.declared.chains.ChainBody.{ChainBody}
use Rattle.chain_build.specs.Chains.{cluster_of}
use Rattle.chain_build.specs.Filters.{body_on}
use Rattle.chain_build.specs.Listener.{built}
use Rattle.chain_build.proofs.Modes.{chain_for, left}
use Rattle.chain_build.proofs.Ports.{kept-port}
use Rattle.chain_build.proofs.Pruned.{first-left, for_names, for_transport}

-- the port, where it is listed
abbrev pub number_at : Workload → ℕ → Option ℕ
number_at workload p = option_map (λ port. port.number) (port_at workload p)

-- what its chains do
abbrev pub body_at : Workload → Protocol → Option ℕ → ChainBody
body_at workload protocol port = body_on protocol workload (cluster_of port)

-- that which the protocol and the mode of its port have for it
pub chosen-chain : (workload : Workload) (case : Case) → AllPairs (λ port later. port.number < later.number) workload.ports
    → option_and_then (slice_get (built workload).chains) (chosen (built workload) case)
    ≡ chain_for (number_at workload case.port) (body_at workload (protocol_of workload case.port) (number_at workload case.port))
    (protocol_of workload case.port) (mode_of workload case.port) case.tls
unfolding built
chosen-chain workload case rising =
    first-left (built workload) case
    ∙ ap (λ chains. slice_get (for_names case.tls (for_transport case.tls chains)) 0) (kept-port workload case.port rising)
    ∙ left (number_at workload case.port) (body_at workload (protocol_of workload case.port) (number_at workload case.port))
    (protocol_of workload case.port) (mode_of workload case.port) case.tls
