-- Items that join a bundle one by one make the bundle of them all.
use Rattle.std.proofs.Common.{◌≡◌, ℕ, ◌+◌, Bool, true, false, cond, List, [], ◌∷◌, ◌++◌, Option, Some, None, length, filter, filter_map, refl, ap, ap₂, append_assoc, append-nil, add-zero, arith}
use Rattle.std.specs.List.{cons_option}
use Rattle.mesh_policy.specs.declared.bundle.Bundle.{Bundle}
use Rattle.mesh_policy.specs.declared.bundle.MeshConfig.{MeshConfig}
use Rattle.mesh_policy.specs.declared.jwt.RequestAuthentication.{RequestAuthentication}
use Rattle.mesh_policy.specs.declared.peer.PeerAuthentication.{PeerAuthentication}
use Rattle.mesh_policy.specs.declared.pod.Pod.{Pod}
use Rattle.mesh_policy.specs.declared.policy.AuthorizationPolicy.{AuthorizationPolicy}
use Rattle.mesh_policy.specs.declared.service.Service.{Service}
use Rattle.manifest_json.specs.Gather.{as_authorization, as_mesh, as_peer, as_pod, as_request, as_service, bundle_with, is_other, last_mesh}
use Rattle.manifest_json.specs.declared.items.Item.{Item}

-- ---- one field

joins : {A : Type 0} (xs : List A) (o : Option A) (ys : List A) → (xs ++ cons_option o []) ++ ys ≡ xs ++ cons_option o ys
joins xs None ys = ap (λ zs. zs ++ ys) (append-nil xs)
joins xs (Some y) ys = append_assoc xs (y ∷ []) ys

last_joins : (m : MeshConfig) (o : Option MeshConfig) (ms : List MeshConfig)
    → last_mesh (last_mesh m (cons_option o [])) ms ≡ last_mesh m (cons_option o ms)
last_joins m None ms = refl
last_joins m (Some n) ms = refl

counts : {A : Type 0} (n : ℕ) (o : Option A) (ys : List A)
    → n + length (cons_option o []) + length ys ≡ n + length (cons_option o ys)
counts n None ys = omega arith
counts n (Some y) ys = omega arith

counts_passed : {A : Type 0} (n : ℕ) (b : Bool) (x : A) (ys : List A)
    → n + length (cond b (x ∷ []) []) + length ys ≡ n + length (cond b (x ∷ ys) ys)
counts_passed n false x ys = omega arith
counts_passed n true x ys = omega arith

-- ---- the whole

abbrev Resources : Type 0
Resources = (List Pod × List Service) × (List AuthorizationPolicy × List PeerAuthentication)

abbrev Others : Type 0
Others = (List RequestAuthentication × MeshConfig) × (ℕ × ℕ)

abbrev made : Resources → Others → Bundle
made r o = record {
  pods = r.0.0;
  services = r.0.1;
  authorization = r.1.0;
  peers = r.1.1;
  requests = o.0.0;
  mesh = o.0.1;
  mesh_items = o.1.0;
  others = o.1.1;
}

paired : {A B : Type 0} {a c : A} {b d : B} → a ≡ c → b ≡ d → ◌≡◌ {A = A × B} (a, b) (c, d)
paired {A} {B} p q = ap₂ (λ (x : A) (y : B). (x, y)) p q

pub one_by_one : (b : Bundle) (x : Item) (xs : List Item) → bundle_with (bundle_with b (x ∷ [])) xs ≡ bundle_with b (x ∷ xs)
one_by_one b x xs = ap₂ made
    (paired
    (paired (joins b.pods (as_pod x) (filter_map as_pod xs)) (joins b.services (as_service x) (filter_map as_service xs)))
    (paired
    (joins b.authorization (as_authorization x) (filter_map as_authorization xs))
    (joins b.peers (as_peer x) (filter_map as_peer xs))))
    (paired
    (paired (joins b.requests (as_request x) (filter_map as_request xs)) (last_joins b.mesh (as_mesh x) (filter_map as_mesh xs)))
    (paired (counts b.mesh_items (as_mesh x) (filter_map as_mesh xs)) (counts_passed b.others (is_other x) x (filter is_other xs))))

pub and_nothing : (b : Bundle) → bundle_with b [] ≡ b
and_nothing b = ap₂ made
    (paired
    (paired (append-nil b.pods) (append-nil b.services))
    (paired (append-nil b.authorization) (append-nil b.peers)))
    (paired
    (paired (append-nil b.requests) refl)
    (paired (add-zero b.mesh_items) (add-zero b.others)))
