-- What an item is read as, by its `apiVersion` and `kind` (Kubernetes API reference; Istio reference).
use Rattle.std.specs.Prelude.{ℕ, Bool, ◌||◌, List, Option, Some, None, if◌then◌else◌}
use Rattle.std.specs.Str.{bytes_eq}
use Rattle.mesh_text.specs.Parts.{is_prefix}
use Rattle.manifest_json.specs.declared.key.Kind.{Kind}
use Rattle.manifest_json.specs.declared.key.Kind.TheVariants as kind
use Rattle.manifest_json.specs.declared.kind_table.TheConstants.{AUTHORIZATION_POLICY, CORE_V1, ISTIO_GROUP, ISTIO_V1, ISTIO_V1BETA1, MESH_CONFIG, PEER_AUTHENTICATION, POD, PROFILE_GROUP, PROFILE_V1, REQUEST_AUTHENTICATION, SERVICE}

-- Istio's security policies
abbrev pub policy_kind : List ℕ → Option Kind
policy_kind word =
    if bytes_eq word AUTHORIZATION_POLICY.now then Some kind.Authorization
    else if bytes_eq word PEER_AUTHENTICATION.now then Some kind.Peer
    else if bytes_eq word REQUEST_AUTHENTICATION.now then Some kind.Request
    else None

-- the core group of Kubernetes, of which most kinds are passed over
abbrev pub core_kind : List ℕ → Option Kind
core_kind word =
    if bytes_eq word POD.now then Some kind.Pod
    else if bytes_eq word SERVICE.now then Some kind.Service
    else Some kind.Other

-- the mesh configuration, as an item
abbrev pub profile_kind : List ℕ → Option Kind
profile_kind word = if bytes_eq word MESH_CONFIG.now then Some kind.Mesh else None

-- a policy has one kind in both versions
abbrev pub is_policy_version : List ℕ → Bool
is_policy_version version = bytes_eq version ISTIO_V1.now || bytes_eq version ISTIO_V1BETA1.now

-- of the two groups with policies and the mesh configuration every version is known
abbrev pub is_of_known_group : List ℕ → Bool
is_of_known_group version = is_prefix ISTIO_GROUP.now version || is_prefix PROFILE_GROUP.now version

-- an item of a known group is of a known kind; None where it is of none
unfoldable pub kind_of : List ℕ → List ℕ → Option Kind
kind_of version word =
    if is_policy_version version then policy_kind word
    else if bytes_eq version CORE_V1.now then core_kind word
    else if bytes_eq version PROFILE_V1.now then profile_kind word
    else if is_of_known_group version then None
    else Some kind.Other
