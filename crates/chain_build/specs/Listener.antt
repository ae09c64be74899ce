-- The inbound listener that enforces the policies of a workload (Istio, "Understanding Traffic Routing"; Envoy v3 API
-- reference, `config.listener.v3.Listener`).
use Rattle.std.specs.Prelude.{ℕ, List, ◌++◌, flat_map, codes, Option, Some, None}
use Rattle.mesh_policy.specs.Workload.{ListedPort, Workload}
use Rattle.mesh_policy.specs.declared.peer.Mode.{Mode}
use Rattle.mesh_policy.specs.declared.service.Protocol.{Protocol}
use Rattle.mesh_policy.specs.declared.service.Protocol.TheVariants.{Tcp}
use Rattle.envoy_types.specs.declared.chains.FilterChain.{FilterChain}
use Rattle.envoy_types.specs.declared.chains.Listener.{Listener}
use Rattle.chain_build.specs.Chains.{chains_on, cluster_of}
use Rattle.chain_build.specs.Filters.{body_on}

-- the chains of a port by what it speaks and its mode; `None` stands for the ports that are not listed
abbrev pub chains_at : Workload → Protocol → Mode → Option ℕ → List FilterChain
chains_at workload protocol mode port = chains_on protocol mode port (body_on protocol workload (cluster_of port))

-- those of a listed port
abbrev pub chains_of_port : Workload → ListedPort → List FilterChain
chains_of_port workload port = chains_at workload port.protocol port.mode (Some port.number)

-- those of the listed ports, ascending, and then those of all other ports, which speak TCP
unfoldable pub chains_of : Workload → List FilterChain
chains_of workload = flat_map (chains_of_port workload) workload.ports ++ chains_at workload Tcp workload.other_mode None

-- `virtualInbound` takes every inbound connection, at port 15006
unfoldable pub built : Workload → Listener
built workload = record {
  name = codes "virtualInbound";
  address = codes "0.0.0.0";
  port = 15006;
  chains = chains_of workload;
}
