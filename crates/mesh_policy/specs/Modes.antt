-- The mode in which a port takes connections (Istio reference, "PeerAuthentication": the narrowest policy decides, and of
-- two of one width the oldest; "UNSET" leaves it to the wider one).
use Rattle.std.specs.Prelude.{ℕ, ◌==◌, Bool, not, ◌&&◌, List, [], ◌∷◌, length, filter, find, Option, Some, None, unwrap_or}
use Rattle.std.specs.Option.{option_and_then}
use Rattle.std.specs.Ordering.{is_lt, ordering_then}
use Rattle.std.specs.declared.cmp.Ordering.{Ordering}
use Rattle.std.specs.declared.cmp.Ordering.TheVariants.{Less, Equal, Greater}
use Rattle.std.specs.Str.{bytes_eq}
use Rattle.mesh_policy.specs.declared.bundle.Bundle.{Bundle}
use Rattle.mesh_policy.specs.declared.peer.Mode.{Mode}
use Rattle.mesh_policy.specs.declared.peer.Mode.TheVariants.{Permissive}
use Rattle.mesh_policy.specs.declared.peer.PeerAuthentication.{PeerAuthentication}
use Rattle.mesh_policy.specs.declared.pod.Pod.{Pod}
use Rattle.mesh_policy.specs.Applying.{peers_of}
use Rattle.mesh_policy.specs.Lists.{first_some, least, text_cmp}

-- times of one form and in UTC compare as their texts; one that isn't written is the newest
abbrev pub age_cmp : Option (List ℕ) → Option (List ℕ) → Ordering
age_cmp (Some a) (Some b) = text_cmp a b
age_cmp (Some a) None = Less
age_cmp None (Some b) = Greater
age_cmp None None = Equal

-- by age, then by namespace, then by name
abbrev pub is_older : PeerAuthentication → PeerAuthentication → Bool
is_older p q = is_lt (ordering_then (age_cmp p.age q.age) (ordering_then (text_cmp p.namespace q.namespace) (text_cmp p.name q.name)))

-- the oldest of some policies, and none of none
abbrev pub oldest : List PeerAuthentication → Option PeerAuthentication
oldest policies = least is_older policies

-- a selector that asks for no label is none
abbrev pub has_selector : PeerAuthentication → Bool
has_selector policy = not (length policy.labels == 0)

-- it stands in the root namespace
abbrev pub is_of_root : Bundle → PeerAuthentication → Bool
is_of_root bundle policy = bytes_eq policy.namespace bundle.mesh.root

-- One for workloads has a selector. One without speaks of the whole mesh where it stands in the root namespace, and of
-- its own namespace else.
abbrev pub workload_policy : Bundle → Pod → Option PeerAuthentication
workload_policy bundle pod = oldest (filter has_selector (peers_of bundle pod))

-- without a selector, outside the root namespace: so in that of the Pod
abbrev pub namespace_policy : Bundle → Pod → Option PeerAuthentication
namespace_policy bundle pod = oldest
    (filter (λ policy. not (has_selector policy) && not (is_of_root bundle policy)) (peers_of bundle pod))

-- without a selector, in the root namespace
abbrev pub mesh_policy : Bundle → Pod → Option PeerAuthentication
mesh_policy bundle pod = oldest
    (filter (λ policy. not (has_selector policy) && is_of_root bundle policy) (peers_of bundle pod))

-- the mode that a policy gives one port, and that of all others
abbrev pub port_mode : ℕ → PeerAuthentication → Option Mode
port_mode port policy = option_and_then (λ entry. entry.mode) (find (λ entry. entry.port == port) policy.ports)

-- the first that is set: that of the port, of the workload, of the namespace, of the mesh
abbrev pub mode_from : Option Mode → Bundle → Pod → Mode
mode_from of_port bundle pod =
    unwrap_or (first_some (of_port
    ∷ option_and_then (λ policy. policy.mode) (workload_policy bundle pod)
    ∷ option_and_then (λ policy. policy.mode) (namespace_policy bundle pod)
    ∷ option_and_then (λ policy. policy.mode) (mesh_policy bundle pod) ∷ [])) Permissive

-- the mode of a port of a Pod
unfoldable pub mode_at : Bundle → Pod → ℕ → Mode
mode_at bundle pod port = mode_from (option_and_then (port_mode port) (workload_policy bundle pod)) bundle pod

-- of a port that no policy for the workload names
unfoldable pub other_mode : Bundle → Pod → Mode
other_mode bundle pod = mode_from None bundle pod
