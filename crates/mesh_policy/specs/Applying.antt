-- Which policies apply to a Pod, and in which order (Istio reference, "Authorization Policy", "PeerAuthentication" and
-- "RequestAuthentication": namespace and selector; MeshConfig: `rootNamespace`).
use Rattle.std.specs.Prelude.{ℕ, Bool, ◌&&◌, ◌||◌, List, codes, filter}
use Rattle.std.specs.List.{list_all, list_any}
use Rattle.std.specs.Ordering.{is_lt, ordering_then}
use Rattle.std.specs.Str.{bytes_eq}
use Rattle.mesh_policy.specs.declared.bundle.Bundle.{Bundle}
use Rattle.mesh_policy.specs.declared.jwt.RequestAuthentication.{RequestAuthentication}
use Rattle.mesh_policy.specs.declared.peer.PeerAuthentication.{PeerAuthentication}
use Rattle.mesh_policy.specs.declared.pod.Label.{Label}
use Rattle.mesh_policy.specs.declared.pod.Pod.{Pod}
use Rattle.mesh_policy.specs.declared.policy.AuthorizationPolicy.{AuthorizationPolicy}
use Rattle.mesh_policy.specs.Lists.{in_order, text_cmp}

-- the namespace whose policies apply to the Pods of all namespaces, where a MeshConfig names none
abbrev pub root_namespace : List ℕ
root_namespace = codes "istio-system"

-- the same key with the same value
abbrev pub is_same_label : Label → Label → Bool
is_same_label a b = bytes_eq a.key b.key && bytes_eq a.value b.value

-- Each label that is asked for is one of the Pod (Kubernetes, "Labels and Selectors"): also where none is asked for.
abbrev pub has_labels : Pod → List Label → Bool
has_labels pod labels = list_all (λ wanted. list_any (is_same_label wanted) pod.labels) labels

-- a policy of this namespace and with these labels: it stands in the Pod's namespace or in the root namespace
abbrev pub applies : List ℕ → Pod → List ℕ → List Label → Bool
applies root pod namespace labels = (bytes_eq namespace pod.namespace || bytes_eq namespace root) && has_labels pod labels

-- by namespace, then by name, in byte order
abbrev pub comes_before : List ℕ × List ℕ → List ℕ × List ℕ → Bool
comes_before a b = is_lt (ordering_then (text_cmp a.0 b.0) (text_cmp a.1 b.1))

-- the AuthorizationPolicies that apply to a Pod, in order
abbrev pub authorization_of : Bundle → Pod → List AuthorizationPolicy
authorization_of bundle pod = in_order (λ p q. comes_before (p.namespace, p.name) (q.namespace, q.name))
    (filter (λ p. applies bundle.mesh.root pod p.namespace p.labels) bundle.authorization)

-- the PeerAuthentications that apply, in order
abbrev pub peers_of : Bundle → Pod → List PeerAuthentication
peers_of bundle pod = in_order (λ p q. comes_before (p.namespace, p.name) (q.namespace, q.name))
    (filter (λ p. applies bundle.mesh.root pod p.namespace p.labels) bundle.peers)

-- the RequestAuthentications that apply, in order
abbrev pub requests_of : Bundle → Pod → List RequestAuthentication
requests_of bundle pod = in_order (λ p q. comes_before (p.namespace, p.name) (q.namespace, q.name))
    (filter (λ p. applies bundle.mesh.root pod p.namespace p.labels) bundle.requests)
