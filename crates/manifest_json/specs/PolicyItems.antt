-- The items that are policies: the metadata of each kind, and then its `spec`.
use Rattle.serde_json.specs.Data.{Data}
use Rattle.mesh_doc.specs.Faults.{Check}
use Rattle.mesh_doc.specs.Fields.{or_empty_in, required_in}
use Rattle.mesh_policy.specs.declared.jwt.RequestAuthentication.{RequestAuthentication}
use Rattle.mesh_policy.specs.declared.peer.PeerAuthentication.{PeerAuthentication}
use Rattle.mesh_policy.specs.declared.policy.AuthorizationPolicy.{AuthorizationPolicy}
use Rattle.policy_json.specs.Authorization.{authorization_faults, authorization_in}
use Rattle.policy_json.specs.Peer.{peer_faults, peer_in}
use Rattle.policy_json.specs.Request.{request_faults, request_in}
use Rattle.manifest_json.specs.Metadata.{authorization_metadata_faults, item_with, names_in, peer_metadata_faults, peer_metadata_in, plain_metadata_faults}
use Rattle.manifest_json.specs.declared.items.TheConstants.{METADATA, SPEC}

-- ---- AuthorizationPolicy (Istio reference, "Authorization Policy")

unfoldable pub authorization_item_faults : Check
authorization_item_faults = item_with authorization_metadata_faults authorization_faults

unfoldable pub authorization_item_in : Data → AuthorizationPolicy
authorization_item_in d =
    let names = required_in METADATA.now names_in d in
    or_empty_in SPEC.now (authorization_in names.name names.namespace) d

-- ---- PeerAuthentication (Istio reference, PeerAuthentication)

unfoldable pub peer_item_faults : Check
peer_item_faults = item_with peer_metadata_faults peer_faults

unfoldable pub peer_item_in : Data → PeerAuthentication
peer_item_in d =
    let metadata = required_in METADATA.now peer_metadata_in d in
    or_empty_in SPEC.now (peer_in metadata.names.name metadata.names.namespace metadata.age) d

-- ---- RequestAuthentication (Istio reference, RequestAuthentication)

unfoldable pub request_item_faults : Check
request_item_faults = item_with plain_metadata_faults request_faults

unfoldable pub request_item_in : Data → RequestAuthentication
request_item_in d =
    let names = required_in METADATA.now names_in d in
    or_empty_in SPEC.now (request_in names.name names.namespace) d
