-- The bundle that items make (Kubernetes API reference; Istio reference).
use Rattle.std.specs.Prelude.{◌+◌, Bool, true, false, List, [], ◌∷◌, ◌++◌, Option, Some, None, filter, length}
use Rattle.std.specs.List.{filter_map}
use Rattle.mesh_policy.specs.declared.bundle.Bundle.{Bundle}
use Rattle.mesh_policy.specs.declared.bundle.MeshConfig.{MeshConfig}
use Rattle.mesh_policy.specs.declared.jwt.RequestAuthentication.{RequestAuthentication}
use Rattle.mesh_policy.specs.declared.names.TheConstants.{ROOT_NAMESPACE}
use Rattle.mesh_policy.specs.declared.peer.PeerAuthentication.{PeerAuthentication}
use Rattle.mesh_policy.specs.declared.pod.Pod.{Pod}
use Rattle.mesh_policy.specs.declared.policy.AuthorizationPolicy.{AuthorizationPolicy}
use Rattle.mesh_policy.specs.declared.service.Service.{Service}
use Rattle.manifest_json.specs.declared.items.Item.{Item}
use Rattle.manifest_json.specs.declared.items.Item.TheVariants as item

-- ---- the items of one kind

-- Pod
abbrev pub as_pod : Item → Option Pod
as_pod (item.Pod p) = Some p
as_pod _ = None

-- Service
abbrev pub as_service : Item → Option Service
as_service (item.Service s) = Some s
as_service _ = None

-- AuthorizationPolicy
abbrev pub as_authorization : Item → Option AuthorizationPolicy
as_authorization (item.Authorization p) = Some p
as_authorization _ = None

-- PeerAuthentication
abbrev pub as_peer : Item → Option PeerAuthentication
as_peer (item.Peer p) = Some p
as_peer _ = None

-- RequestAuthentication
abbrev pub as_request : Item → Option RequestAuthentication
as_request (item.Request r) = Some r
as_request _ = None

-- MeshConfig
abbrev pub as_mesh : Item → Option MeshConfig
as_mesh (item.Mesh m) = Some m
as_mesh _ = None

-- one that is passed over
abbrev pub is_other : Item → Bool
is_other item.Other = true
is_other _ = false

-- ---- the bundle

-- the last one, if there are any
abbrev pub last_mesh : MeshConfig → List MeshConfig → MeshConfig
last_mesh m [] = m
last_mesh m (n ∷ ns) = last_mesh n ns

-- the items behind those of a bundle, each kind in their order
abbrev pub bundle_with : Bundle → List Item → Bundle
bundle_with b items = record {
  pods = b.pods ++ filter_map as_pod items;
  services = b.services ++ filter_map as_service items;
  authorization = b.authorization ++ filter_map as_authorization items;
  peers = b.peers ++ filter_map as_peer items;
  requests = b.requests ++ filter_map as_request items;
  mesh = last_mesh b.mesh (filter_map as_mesh items);
  mesh_items = b.mesh_items + length (filter_map as_mesh items);
  others = b.others + length (filter is_other items);
}

-- the settings where none are written (Istio reference, Global Mesh Options)
abbrev pub default_mesh : MeshConfig
default_mesh = record { root = ROOT_NAMESPACE.now; providers = [] }

-- a document without items
abbrev pub no_items : Bundle
no_items = record {
  pods = [];
  services = [];
  authorization = [];
  peers = [];
  requests = [];
  mesh = default_mesh;
  mesh_items = 0;
  others = 0;
}

-- each kind in the order of the items, and the settings of the last MeshConfig
abbrev pub bundle_of : List Item → Bundle
bundle_of items = bundle_with no_items items
