-- The ports of a workload, of its Services one after another.
use Rattle.std.specs.Prelude.{ℕ, Bool, true, false, List, filter, filter_map, flat_map, map, Option}
use Rattle.std.specs.List.{list_any}
use Rattle.std.specs.Option.{option_copied}
use Rattle.std.specs.Str.{bytes_eq, str_to_ascii_lowercase}
use Rattle.mesh_policy.specs.Lists.{ascending}
use Rattle.mesh_policy.specs.Ports.{GivenPort, given_by, http_names, selects}
use Rattle.mesh_policy.specs.declared.peer.PeerAuthentication.{PeerAuthentication}
use Rattle.mesh_policy.specs.declared.pod.Pod.{Pod}
use Rattle.mesh_policy.specs.declared.service.Protocol.{Protocol}
use Rattle.mesh_policy.specs.declared.service.Protocol.TheVariants.{Http, Tcp}
use Rattle.mesh_policy.specs.declared.service.Service.{Service}
use denote.Ref.{Bor}

-- the ports that the Services which select the Pod stand for (Kubernetes API reference, Service: `selector`, `ports`)
abbrev pub given_by_all : Pod → List Service → List GivenPort
given_by_all pod services = flat_map (λ service. filter_map (given_by pod) service.ports) (filter (selects pod) services)

-- the protocol of that name carries HTTP, without regard to ASCII case (Istio, "Protocol Selection")
abbrev pub carries_http : List ℕ → Bool
carries_http name = list_any (bytes_eq (str_to_ascii_lowercase name)) http_names

-- the same protocol
abbrev pub speaks : Protocol → Protocol → Bool
speaks Http Http = true
speaks Http Tcp = false
speaks Tcp Http = false
speaks Tcp Tcp = true

-- the numbers of the ports that speak a protocol, each once, ascending
abbrev pub numbers_with : Protocol → List GivenPort → List ℕ
numbers_with protocol ports = ascending (map (λ entry. entry.number) (filter (λ entry. speaks protocol entry.protocol) ports))

-- the policy for the workload that is looked at, if there is one
abbrev pub copied : Option (Bor PeerAuthentication) → Option PeerAuthentication
copied = option_copied
