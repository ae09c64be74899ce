-- Manifests of which nothing is kept back: their AuthorizationPolicies are told, and there is no RequestAuthentication.
use Rattle.std.proofs.Common.{◌≡◌, Bool, true, false, cond, List, [], ◌∷◌, Option, Some, None, filter_map, option_map, All, refl}
use Rattle.std.proofs.lemmas.List.Elements.{All-cons, All-head, All-nil, All-tail}
use Rattle.std.proofs.lemmas.List.Sums.{list_all-from_AllPass}
use Rattle.std.specs.List.{cons_option, list_all}
use Rattle.serde_json.specs.Data.{Data}
use Rattle.mesh_doc.proofs.NoFault.{Ensures, listed}
use Rattle.mesh_doc.specs.Faults.{first}
use Rattle.mesh_doc.specs.Lists as lists
use Rattle.mesh_doc.specs.Lists.{listed_in}
use Rattle.mesh_doc.specs.Places.{Steps}
use Rattle.mesh_doc.specs.declared.fault.Fault.{Fault}
use Rattle.manifest_json.specs.Document.{bundle_in, is_list, items_in}
use Rattle.manifest_json.specs.Gather.{as_authorization, as_request}
use Rattle.manifest_json.specs.Items.{item_in, kind_in, kind_value, known_value}
use Rattle.manifest_json.specs.declared.items.Item.{Item}
use Rattle.manifest_json.specs.declared.items.Item.TheVariants as item
use Rattle.manifest_json.specs.declared.key.Kind.{Kind}
use Rattle.manifest_json.specs.declared.key.Kind.TheVariants as kind
use Rattle.mesh_policy.specs.declared.bundle.Bundle.{Bundle}
use Rattle.mesh_policy.specs.declared.jwt.RequestAuthentication.{RequestAuthentication}
use Rattle.mesh_policy.specs.declared.policy.AuthorizationPolicy.{AuthorizationPolicy}
use Rattle.kept_back.specs.Items.{item_kept, kind_kept}
use Rattle.kept_back.specs.Manifests.{document_kept, not_yet}
use Rattle.kept_back.specs.declared.manifests.TheConstants.{ITEMS}
use Rattle.kept_back.proofs.Asked.{is_told, policy}

-- ---- items

TakenItem : Item → Type 0
TakenItem (item.Pod p) = Unit {0}
TakenItem (item.Service s) = Unit {0}
TakenItem (item.Authorization p) = is_told p ≡ true
TakenItem (item.Peer p) = Unit {0}
TakenItem (item.Request r) = true ≡ false
TakenItem (item.Mesh m) = Unit {0}
TakenItem item.Other = Unit {0}

of_kind : (k : Option Kind) (d : Data) (at : Steps) → first (kind_kept k d at) ≡ None → TakenItem (known_value k d)
unfolding TakenItem kind_value
of_kind None d at h = tt
of_kind (Some kind.Pod) d at h = tt
of_kind (Some kind.Service) d at h = tt
of_kind (Some kind.Authorization) d at h = policy.holds d at h
of_kind (Some kind.Peer) d at h = tt
of_kind (Some kind.Request) d at h = cc
of_kind (Some kind.Mesh) d at h = tt
of_kind (Some kind.Other) d at h = tt

taken_item : Ensures item_kept item_in TakenItem
unfolding item_kept item_in
taken_item = record { holds = λ d at h. of_kind (kind_in d) d at h }

-- ---- the document

of_items : (is_list : Bool) (d : Data) (at : Steps)
    → first (cond is_list (lists.listed ITEMS.now 4096 item_kept d at) (item_kept d at)) ≡ None
    → All TakenItem (cond is_list (listed_in ITEMS.now item_in d) (item_in d ∷ []))
of_items true d at h = ((listed ITEMS.now 4096 taken_item).holds d at h).each
of_items false d at h = All-cons TakenItem (item_in d) [] (taken_item.holds d at h) (All-nil TakenItem)

taken_items : (d : Data) → first (document_kept d []) ≡ None → All TakenItem (items_in d)
unfolding document_kept items_in
taken_items d h = of_items (is_list d) d [] h

-- ---- the bundle

-- No policy asks for an authorizer or for a token, and nothing says which tokens are valid.
pub record IsTaken (bundle : Bundle) : Type 0 where
  pub policies : list_all is_told bundle.authorization ≡ true
  pub requests : bundle.requests ≡ []

next_policy : (x : Item) (rest : List AuthorizationPolicy) → TakenItem x → All (λ p. is_told p ≡ true) rest
    → All (λ p. is_told p ≡ true) (cons_option (as_authorization x) rest)
unfolding TakenItem
next_policy (item.Pod p) rest t h = h
next_policy (item.Service s) rest t h = h
next_policy (item.Authorization p) rest t h = All-cons (λ p. is_told p ≡ true) p rest t h
next_policy (item.Peer p) rest t h = h
next_policy (item.Request r) rest t h = h
next_policy (item.Mesh m) rest t h = h
next_policy item.Other rest t h = h

policies_of : (items : List Item) → All TakenItem items → All (λ p. is_told p ≡ true) (filter_map as_authorization items)
policies_of [] h = All-nil (λ p. is_told p ≡ true)
policies_of (x ∷ xs) h = next_policy x _ (All-head TakenItem x xs h) (policies_of xs (All-tail TakenItem x xs h))

next_request : (x : Item) (rest : List RequestAuthentication) → TakenItem x → rest ≡ [] → cons_option (as_request x) rest ≡ []
unfolding TakenItem
next_request (item.Pod p) rest t h = h
next_request (item.Service s) rest t h = h
next_request (item.Authorization p) rest t h = h
next_request (item.Peer p) rest t h = h
next_request (item.Request r) rest t h = cc
next_request (item.Mesh m) rest t h = h
next_request item.Other rest t h = h

requests_of : (items : List Item) → All TakenItem items → filter_map as_request items ≡ []
requests_of [] h = refl
requests_of (x ∷ xs) h = next_request x _ (All-head TakenItem x xs h) (requests_of xs (All-tail TakenItem x xs h))

no_place : (o : Option Fault) → option_map (λ fault. fault.place) o ≡ None → o ≡ None
no_place None h = refl
no_place (Some fault) h = cc

pub taken : (d : Data) → not_yet d ≡ None → IsTaken (bundle_in d)
unfolding not_yet bundle_in
taken d h =
    let items = taken_items d (no_place _ h) in
    record {
      policies = list_all-from_AllPass is_told _ (policies_of (items_in d) items);
      requests = requests_of (items_in d) items;
    }
