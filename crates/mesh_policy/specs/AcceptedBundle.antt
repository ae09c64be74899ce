-- Manifests that are accepted (Istio reference, PeerAuthentication, MeshConfig; Kubernetes API reference, Pod, Service).
use Rattle.std.specs.Prelude.{ℕ, ◌+◌, ◌≤◌, ◌==◌, Bool, true, All, IsTrue, List, length}
use Rattle.std.specs.Option.{ForSome}
use Rattle.std.specs.Str.{bytes_eq}
use Rattle.mesh_policy.specs.AcceptedLists.{AcceptedLabels, AcceptedList, EachOnce, same_names}
use Rattle.mesh_policy.specs.AcceptedRules.{AcceptedPolicy}
use Rattle.mesh_policy.specs.AcceptedTokens.{AcceptedRequest}
use Rattle.mesh_policy.specs.Values.{is_port}
use Rattle.mesh_policy.specs.declared.bundle.Bundle.{Bundle}
use Rattle.mesh_policy.specs.declared.bundle.MeshConfig.{MeshConfig}
use Rattle.mesh_policy.specs.declared.jwt.RequestAuthentication.{RequestAuthentication}
use Rattle.mesh_policy.specs.declared.peer.PeerAuthentication.{PeerAuthentication}
use Rattle.mesh_policy.specs.declared.peer.PortMode.{PortMode}
use Rattle.mesh_policy.specs.declared.pod.Pod.{Pod}
use Rattle.mesh_policy.specs.declared.policy.AuthorizationPolicy.{AuthorizationPolicy}
use Rattle.mesh_policy.specs.declared.provider.Provider.{Provider}
use Rattle.mesh_policy.specs.declared.service.Service.{Service}
use Rattle.mesh_policy.specs.declared.service.ServicePort.{ServicePort}
use Rattle.mesh_policy.specs.declared.service.Target.{Target}
use Rattle.mesh_policy.specs.declared.service.Target.TheVariants as target
use Rattle.mesh_text.specs.Dns.{is_label, is_subdomain}
use Rattle.mesh_text.specs.Time.{is_time}
use Rattle.mesh_text.specs.Token.{is_token}

-- ---- how ports take TLS

abbrev pub same_port : PortMode → PortMode → Bool
same_port a b = a.port == b.port

pub record AcceptedPeer (peer : PeerAuthentication) : Type 0 where
  pub name : IsTrue (is_subdomain peer.name)
  pub namespace : IsTrue (is_label peer.namespace)
  pub age : ForSome peer.age (λ time. IsTrue (is_time time))
  pub labels : AcceptedLabels peer.labels
  pub ports : All (λ entry. IsTrue (is_port entry.port)) peer.ports
  pub each_once : EachOnce same_port peer.ports

-- ---- workloads and their ports

pub record AcceptedPod (pod : Pod) : Type 0 where
  pub name : IsTrue (is_subdomain pod.name)
  pub namespace : IsTrue (is_label pod.namespace)
  pub labels : AcceptedLabels pod.labels
  -- those of at most 2,048 containers, each of which has at most 2,048
  pub few_ports : length pod.ports ≤ 4194304
  pub ports : All (λ entry. IsTrue (is_port entry.port)) pod.ports

-- the same port, one by its number, or one by any name
abbrev pub is_target : Target → Bool
is_target target.Same = true
is_target (target.Number n) = is_port n
is_target (target.Named name) = true

pub record AcceptedServicePort (entry : ServicePort) : Type 0 where
  pub port : IsTrue (is_port entry.port)
  pub target : IsTrue (is_target entry.target)

pub record AcceptedService (service : Service) : Type 0 where
  pub name : IsTrue (is_subdomain service.name)
  pub namespace : IsTrue (is_label service.namespace)
  pub selector : AcceptedLabels service.selector
  pub ports : AcceptedList AcceptedServicePort service.ports

-- ---- the mesh

pub record AcceptedProvider (provider : Provider) : Type 0 where
  pub name : IsTrue (is_token provider.name)
  pub service : IsTrue (is_subdomain provider.service)
  pub port : IsTrue (is_port provider.port)

abbrev pub same_provider : Provider → Provider → Bool
same_provider a b = bytes_eq a.name b.name

pub record AcceptedMesh (mesh : MeshConfig) : Type 0 where
  pub root : IsTrue (is_label mesh.root)
  pub providers : AcceptedList AcceptedProvider mesh.providers
  pub each_once : EachOnce same_provider mesh.providers

-- ---- all manifests

-- two items of a kind with one namespace and name
abbrev pub same_pod : Pod → Pod → Bool
same_pod a b = same_names a.namespace a.name b.namespace b.name

abbrev pub same_service : Service → Service → Bool
same_service a b = same_names a.namespace a.name b.namespace b.name

abbrev pub same_policy : AuthorizationPolicy → AuthorizationPolicy → Bool
same_policy a b = same_names a.namespace a.name b.namespace b.name

abbrev pub same_peer : PeerAuthentication → PeerAuthentication → Bool
same_peer a b = same_names a.namespace a.name b.namespace b.name

abbrev pub same_request : RequestAuthentication → RequestAuthentication → Bool
same_request a b = same_names a.namespace a.name b.namespace b.name

-- how many items a document of these manifests has
abbrev pub item_count : Bundle → ℕ
item_count bundle =
    length bundle.pods + length bundle.services + length bundle.authorization + length bundle.peers + length bundle.requests
    + bundle.mesh_items + bundle.others

-- the items of one kind, each accepted, and no two with one namespace and name
pub record AcceptedItems {A : Type 0} (Accepted : A → Type 0) (same : A → A → Bool) (items : List A) : Type 0 where
  pub each : All Accepted items
  pub each_once : EachOnce same items

pub record AcceptedBundle (bundle : Bundle) : Type 0 where
  pub pods : AcceptedItems AcceptedPod same_pod bundle.pods
  pub services : AcceptedItems AcceptedService same_service bundle.services
  pub authorization : AcceptedItems AcceptedPolicy same_policy bundle.authorization
  pub peers : AcceptedItems AcceptedPeer same_peer bundle.peers
  pub requests : AcceptedItems AcceptedRequest same_request bundle.requests
  pub mesh : AcceptedMesh bundle.mesh
  pub one_mesh : bundle.mesh_items ≤ 1
  pub few_items : item_count bundle ≤ 4096
