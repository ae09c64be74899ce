-- The ports of a workload and what they speak (Kubernetes API reference, Service: `selector` and `ports`; Istio,
-- "Protocol Selection").
use Rattle.std.specs.Prelude.{ℕ, ◌==◌, Bool, true, false, not, ◌&&◌, List, [], ◌∷◌, ◌++◌, length, map, filter, find, filter_map, flat_map, codes, Option, Some, None, if◌then◌else◌}
use Rattle.std.specs.List.{before_first, list_any}
use Rattle.std.specs.Option.{option_map}
use Rattle.std.specs.Str.{bytes_eq, str_to_ascii_lowercase}
use Rattle.mesh_text.specs.Bytes.{dash}
use Rattle.mesh_policy.specs.declared.bundle.Bundle.{Bundle}
use Rattle.mesh_policy.specs.declared.peer.PeerAuthentication.{PeerAuthentication}
use Rattle.mesh_policy.specs.declared.pod.Pod.{Pod}
use Rattle.mesh_policy.specs.declared.service.Protocol.{Protocol}
use Rattle.mesh_policy.specs.declared.service.Protocol.TheVariants.{Http, Tcp}
use Rattle.mesh_policy.specs.declared.service.Service.{Service}
use Rattle.mesh_policy.specs.declared.service.ServicePort.{ServicePort}
use Rattle.mesh_policy.specs.declared.service.Target.{Target}
use Rattle.mesh_policy.specs.declared.service.Target.TheVariants.{Same, Number, Named}
use Rattle.mesh_policy.specs.Applying.{has_labels}
use Rattle.mesh_policy.specs.Lists.{ascending}
use Rattle.mesh_policy.specs.Modes.{workload_policy}

-- a port of the workload and what a Service says that it speaks
pub record GivenPort : Type 0 where
  pub number : ℕ
  pub protocol : Protocol

-- a Service selects Pods of its namespace, and none where it asks for no label
abbrev pub selects : Pod → Service → Bool
selects pod service = bytes_eq service.namespace pod.namespace && not (length service.selector == 0) && has_labels pod service.selector

-- the number of the Pod's port behind a port of a Service, where there is one; of two container ports of one name the first
abbrev pub target_number : Pod → ℕ → Target → Option ℕ
target_number pod port Same = Some port
target_number pod port (Number number) = Some number
target_number pod port (Named name) = option_map (λ entry. entry.port) (find (λ entry. bytes_eq entry.name name) pod.ports)

-- the names of protocols that carry HTTP
abbrev pub http_names : List (List ℕ)
http_names = codes "http" ∷ codes "http2" ∷ codes "grpc" ∷ codes "grpc-web" ∷ []

-- Without regard to ASCII case. `tcp`, `tls`, `https`, `mongo`, `mysql` and `redis` are TCP, and so is every other name.
abbrev pub protocol_named : List ℕ → Protocol
protocol_named name = if list_any (bytes_eq (str_to_ascii_lowercase name)) http_names then Http else Tcp

-- what stands in a port's name before its first '-'
abbrev pub front_of : List ℕ → List ℕ
front_of name = before_first (λ c. c == dash) name

-- a written `appProtocol` decides, else the front of the port's name, and a port with neither is TCP
abbrev pub protocol_by : Option (List ℕ) → Option (List ℕ) → Protocol
protocol_by (Some app_protocol) name = protocol_named app_protocol
protocol_by None (Some name) = protocol_named (front_of name)
protocol_by None None = Tcp

-- what a port of a Service speaks
abbrev pub protocol_of : ServicePort → Protocol
protocol_of entry = protocol_by entry.app_protocol entry.name

-- the port of the Pod that a port of a Service stands for, with what it speaks
abbrev pub given_by : Pod → ServicePort → Option GivenPort
given_by pod entry = option_map
    (λ number. record { number = number; protocol = protocol_of entry }) (target_number pod entry.port entry.target)

-- the ports that Services give the Pod, each with what it speaks
unfoldable pub given : Bundle → Pod → List GivenPort
given bundle pod = flat_map (λ service. filter_map (given_by pod) service.ports) (filter (selects pod) bundle.services)

-- HTTP and not TCP
abbrev pub is_http : Protocol → Bool
is_http Http = true
is_http Tcp = false

-- the port is given as HTTP
abbrev pub gives_http : List GivenPort → ℕ → Bool
gives_http ports port = list_any (λ entry. (entry.number == port) && is_http entry.protocol) ports

-- the port is given as TCP
abbrev pub gives_tcp : List GivenPort → ℕ → Bool
gives_tcp ports port = list_any (λ entry. (entry.number == port) && not (is_http entry.protocol)) ports

-- the ports that a policy names
abbrev pub ports_of : Option PeerAuthentication → List ℕ
ports_of None = []
ports_of (Some policy) = map (λ entry. entry.port) policy.ports

-- The ports of the workload that have a say of their own, ascending: those that Services give, and those that the
-- policy for the workload names.
unfoldable pub listed : Bundle → Pod → List ℕ
listed bundle pod = ascending (map (λ entry. entry.number) (given bundle pod) ++ ports_of (workload_policy bundle pod))

-- HTTP where a Service says so
unfoldable pub protocol_at : Bundle → Pod → ℕ → Protocol
protocol_at bundle pod port = if gives_http (given bundle pod) port then Http else Tcp
