use Rattle.std.proofs.Common.{ℕ, ◌++◌, List, Option, filter, flat_map, map, ◌∙◌, ap, ap₂}
use Rattle.mesh_policy.specs.Applying.{applies, comes_before}
use Rattle.mesh_policy.specs.Lists.{ascending, in_order}
use Rattle.mesh_policy.specs.Ports.{GivenPort, ports_of}
use Rattle.mesh_policy.specs.declared.jwt.RequestAuthentication.{RequestAuthentication}
use Rattle.mesh_policy.specs.declared.peer.PeerAuthentication.{PeerAuthentication}
use Rattle.mesh_policy.specs.declared.pod.Label.{Label}
use Rattle.mesh_policy.specs.declared.pod.Pod.{Pod}
use Rattle.mesh_policy.specs.declared.policy.AuthorizationPolicy.{AuthorizationPolicy}
use Rattle.mesh_policy.specs.declared.service.Protocol.TheVariants.{Http}
use Rattle.mesh_select.specs.Modes.{Levels, levels_of}
use Rattle.mesh_select.specs.Ports.{given_by_all, numbers_with}
use Rattle.mesh_select.proofs.selection.Selection.of.Goals as goal

-- those of a list that apply, in order
abbrev in_force : {A : Type 0} → (A → List ℕ × List ℕ) → (A → List Label) → List ℕ → Pod → List A → List A
in_force pair labels root pod xs =
    in_order (λ p q. comes_before (pair p) (pair q)) (filter (λ p. applies root pod (pair p).0 (labels p)) xs)

abbrev peers_in : List ℕ → Pod → List PeerAuthentication → List PeerAuthentication
peers_in = in_force (λ p. (p.namespace, p.name)) (λ p. p.labels)

abbrev policies_in : List ℕ → Pod → List AuthorizationPolicy → List AuthorizationPolicy
policies_in = in_force (λ p. (p.namespace, p.name)) (λ p. p.labels)

abbrev requests_in : List ℕ → Pod → List RequestAuthentication → List RequestAuthentication
requests_in = in_force (λ p. (p.namespace, p.name)) (λ p. p.labels)

pub invariant_of-result : goal.invariant_of-result
invariant_of-result c =
    let pod = c.in_ok-pod.pod in
    let root = c.as_str-root.ensures in
    let given = c.in_ok-given.ensures ∙ ap (given_by_all pod) c.deref.ensures in
    let peers = c.in_ok-peers.ensures ∙ ap₂ (λ (r : List ℕ) (ps : List PeerAuthentication). peers_in r pod ps) root c.as_slice.ensures in
    let levels = c.of-levels.ensures ∙ ap₂ levels_of root (c.deref-3.ensures.value ∙ peers) in
    let requests =
    c.in_ok-requests.ensures ∙ ap₂ (λ (r : List ℕ) (ps : List RequestAuthentication). requests_in r pod ps) root c.as_slice-3.ensures in
    record {
      given = given;
      http = c.in_ok-http.ensures ∙ ap (numbers_with Http) (c.deref-2.ensures.value ∙ given);
      levels = levels;
      listed =
          c.in_ok-listed.ensures.ports
          ∙ ap₂ (λ (gs : List GivenPort) (w : Option PeerAuthentication). ascending (map (λ entry. entry.number) gs ++ ports_of w))
          (c.deref-4.ensures.value ∙ given) (c.workload.ensures ∙ ap (λ (l : Levels). l.workload) levels);
      few_listed = c.in_ok-listed.ensures.bound;
      policies =
          c.in_ok-policies.ensures
          ∙ ap₂ (λ (r : List ℕ) (ps : List AuthorizationPolicy). policies_in r pod ps) root c.as_slice-2.ensures;
      rules =
          c.in_ok-rules.ensures
          ∙ ap (flat_map (λ (request : RequestAuthentication). request.rules)) (c.deref-5.ensures.value ∙ requests);
    }
