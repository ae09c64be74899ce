-- A workload of such manifests is one that a listener is built for.
use Rattle.std.proofs.Common.{◌≡◌, Bool, true, false, not, List, [], ◌∷◌, Option, None, filter, flat_map}
use Rattle.std.proofs.Common.{Result, Ok, Err, refl, sym, ap, ◌∙◌}
use Rattle.std.proofs.lemmas.List.Sums.{AllPass-from_list_all}
use Rattle.std.specs.List.{list_all}
use Rattle.std.specs.Result.{IfOk}
use Rattle.serde_json.specs.Data.{Data}
use Rattle.mesh_text.specs.declared.memory.Memory.{Memory}
use Rattle.mesh_doc.specs.Places.{Steps}
use Rattle.manifest_json.specs.Document.{bundle_in}
use Rattle.mesh_policy.proofs.Listed.{list_all-filter, list_all-in_order, list_all-weaker, left_of, right_of}
use Rattle.mesh_policy.specs.Applying.{applies, authorization_of, comes_before}
use Rattle.mesh_policy.specs.Lists.{in_order}
use Rattle.mesh_policy.specs.Workload.{is_action, jwt_rules_of, policies_of, workload_of}
use Rattle.mesh_policy.specs.declared.bundle.Bundle.{Bundle}
use Rattle.mesh_policy.specs.declared.jwt.RequestAuthentication.{RequestAuthentication}
use Rattle.mesh_policy.specs.declared.pod.Pod.{Pod}
use Rattle.mesh_policy.specs.declared.policy.Action.{Action}
use Rattle.mesh_policy.specs.declared.policy.Action.TheVariants.{Allow, Deny, Audit, Custom}
use Rattle.mesh_policy.specs.declared.policy.AuthorizationPolicy.{AuthorizationPolicy}
use Rattle.mesh_policy.specs.declared.service.Protocol.TheVariants.{Http}
use Rattle.authz_gen.specs.Policies.{AreToldOn}
use Rattle.chain_build.specs.Buildable.{IsBuildable}
use Rattle.kept_back.specs.Manifests.{not_yet}
use Rattle.kept_back.proofs.Asked.{asks_no_token, asks_nobody, is_told}
use Rattle.kept_back.proofs.Taken.{IsTaken, taken}

-- ---- policies

applying : (bundle : Bundle) (pod : Pod) → list_all is_told bundle.authorization ≡ true
    → list_all is_told (authorization_of bundle pod) ≡ true
applying bundle pod h =
    let here = λ (p : AuthorizationPolicy). applies bundle.mesh.root pod p.namespace p.labels in
    list_all-in_order (λ p q. comes_before (p.namespace, p.name) (q.namespace, q.name)) is_told (filter here bundle.authorization)
    ∙ list_all-filter is_told here bundle.authorization h

not_custom : (b : Bool) → not b ≡ true → b ≡ false
not_custom true h = cc
not_custom false h = refl

none_custom : (policies : List AuthorizationPolicy) → list_all is_told policies ≡ true
    → filter (λ policy. is_action Custom policy.action) policies ≡ []
none_custom [] h = refl
none_custom (p ∷ ps) h =
    rw (not_custom (is_action Custom p.action) (left_of _ _ (left_of _ _ h))) (none_custom ps (right_of _ _ h))

told : (action : Action) (bundle : Bundle) (pod : Pod) → list_all is_told (authorization_of bundle pod) ≡ true
    → AreToldOn Http (policies_of action bundle pod)
told action bundle pod h =
    let of_action = λ (p : AuthorizationPolicy). is_action action p.action in
    AllPass-from_list_all asks_no_token (policies_of action bundle pod)
    (list_all-weaker is_told asks_no_token (λ p k. right_of (asks_nobody p) _ k) (policies_of action bundle pod)
    (list_all-filter is_told of_action (authorization_of bundle pod) h))

-- ---- tokens

no_rules : (bundle : Bundle) (pod : Pod) → bundle.requests ≡ [] → jwt_rules_of bundle pod ≡ []
no_rules bundle pod h =
    ap (λ (requests : List RequestAuthentication). flat_map (λ policy. policy.rules)
    (in_order (λ p q. comes_before (p.namespace, p.name) (q.namespace, q.name))
    (filter (λ p. applies bundle.mesh.root pod p.namespace p.labels) requests))) h

-- ---- the workload

pub buildable : (bundle : Bundle) (pod : Pod) → IsTaken bundle → IsBuildable (workload_of bundle pod)
unfolding workload_of
buildable bundle pod t =
    let policies = applying bundle pod t.policies in
    record {
      custom = none_custom (authorization_of bundle pod) policies;
      jwt_rules = no_rules bundle pod t.requests;
      audit = told Audit bundle pod policies;
      deny = told Deny bundle pod policies;
      allow = told Allow bundle pod policies;
    }

-- what is answered for a document
pub answered : (r : Result (Option Steps) Memory) (d : Data) → IfOk r (λ place. place ≡ not_yet d)
    → IfOk r (λ place. place ≡ None → (pod : Pod) → IsBuildable (workload_of (bundle_in d) pod))
answered (Ok place) d is = λ none pod. buildable (bundle_in d) pod (taken d (sym is ∙ none))
answered (Err e) d is = tt
