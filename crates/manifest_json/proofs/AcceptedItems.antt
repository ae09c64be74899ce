-- Items without fault are accepted, and so is the bundle of items of which no two are alike.
use Rattle.std.proofs.Common.{◌≡◌, ℕ, ◌≤◌, ◌&&◌, Bool, true, false, cond, List, [], ◌∷◌, Option, Some, None, length, filter_map, get_or, All, IsTrue, ap₂, ◌∙◌, arith, lit<}
use Rattle.std.proofs.lemmas.Bool.{not-true}
use Rattle.std.proofs.lemmas.List.Elements.{All-cons, All-head, All-nil, All-tail}
use Rattle.std.specs.List.{AllPairs}
use Rattle.serde_json.specs.Data.{Data}
use Rattle.mesh_doc.specs.Faults.{Check, first, none}
use Rattle.mesh_doc.specs.Fields.{field_in, found_faults, optional, or_empty_in, required_in}
use Rattle.mesh_doc.specs.Lists.{found_list, list_in, listed_in}
use Rattle.mesh_doc.specs.Places.{Steps, at_key}
use Rattle.mesh_policy.specs.AcceptedBundle.{AcceptedBundle, AcceptedMesh, AcceptedPeer, AcceptedPod, AcceptedService, item_count}
use Rattle.mesh_policy.specs.AcceptedLists.{same_names}
use Rattle.mesh_policy.specs.AcceptedRules.{AcceptedPolicy}
use Rattle.mesh_policy.specs.AcceptedTokens.{AcceptedRequest}
use Rattle.mesh_policy.specs.declared.bundle.MeshConfig.{MeshConfig}
use Rattle.mesh_policy.specs.declared.jwt.RequestAuthentication.{RequestAuthentication}
use Rattle.mesh_policy.specs.declared.peer.PeerAuthentication.{PeerAuthentication}
use Rattle.mesh_policy.specs.declared.pod.Pod.{Pod}
use Rattle.mesh_policy.specs.declared.policy.AuthorizationPolicy.{AuthorizationPolicy}
use Rattle.mesh_policy.specs.declared.service.Service.{Service}
use Rattle.manifest_json.proofs.AcceptedForms.{authorization_metadata_ensures, default_mesh_accepted, mesh_item_ensures, peer_metadata_ensures, plain_metadata_ensures, pod_ensures, service_ensures}
use Rattle.manifest_json.proofs.Fresh.{Pairs, Remembers, Seen, all_selected, bytes_eq_comm, list_pairs, pairs_selected, seen_last, seen_still}
use Rattle.mesh_doc.proofs.NoFault as no_fault
use Rattle.mesh_doc.proofs.NoFault.{Ensures, IsListOf, any_object, earlier, later, passed}
use Rattle.policy_json.proofs.AcceptedSpecs.{peer_ensures, policy_ensures, request_ensures}
use Rattle.manifest_json.specs.Document.{bundle_faults, bundle_in, is_list, items_faults, items_in}
use Rattle.manifest_json.specs.Gather.{as_authorization, as_mesh, as_peer, as_pod, as_request, as_service, bundle_of, default_mesh, last_mesh}
use Rattle.manifest_json.specs.Items.{after_item, is_new, item_faults, item_in, key_of, kind_faults, kind_in, kind_value, known_faults, known_value, next_faults, seen_with}
use Rattle.manifest_json.specs.Key.{same_key}
use Rattle.manifest_json.specs.Metadata.{item_with}
use Rattle.manifest_json.specs.PolicyItems.{authorization_item_faults, authorization_item_in, peer_item_faults, peer_item_in, request_item_faults, request_item_in}
use Rattle.manifest_json.specs.declared.document.TheConstants.{ITEMS}
use Rattle.manifest_json.specs.declared.items.Item.{Item}
use Rattle.manifest_json.specs.declared.items.Item.TheVariants as item
use Rattle.manifest_json.specs.declared.items.TheConstants.{METADATA, SPEC}
use Rattle.manifest_json.specs.declared.key.ItemKey.{ItemKey}
use Rattle.manifest_json.specs.declared.key.Kind.{Kind}
use Rattle.manifest_json.specs.declared.key.Kind.TheVariants as kind

-- ---- policies

-- metadata, and a `spec` that is accepted behind them
item_ensures_by : {A B : Type 0} {metadata spec : Check} {named : Data → A} {P : A → Type 0} {value : A → Data → B} {Q : B → Type 0}
    → Ensures metadata named P → ((a : A) → P a → Ensures spec (value a) Q)
    → Ensures (item_with metadata spec) (λ d. or_empty_in SPEC.now (value (required_in METADATA.now named d)) d) Q
item_ensures_by m s = any_object (record {
  holds = λ d at h.
      let named = (no_fault.required METADATA.now m).holds d at (earlier _ _ h) in
      (no_fault.or_empty SPEC.now (s _ named)).holds d at (later _ _ h);
})

authorization_item_ensures : Ensures authorization_item_faults authorization_item_in AcceptedPolicy
unfolding authorization_item_faults authorization_item_in
authorization_item_ensures = item_ensures_by authorization_metadata_ensures (λ names h.
    policy_ensures names.name names.namespace h.name h.namespace)

peer_item_ensures : Ensures peer_item_faults peer_item_in AcceptedPeer
unfolding peer_item_faults peer_item_in
peer_item_ensures = item_ensures_by peer_metadata_ensures (λ metadata h.
    peer_ensures metadata.names.name metadata.names.namespace metadata.age h.names.name h.names.namespace h.age)

request_item_ensures : Ensures request_item_faults request_item_in AcceptedRequest
unfolding request_item_faults request_item_in
request_item_ensures = item_ensures_by plain_metadata_ensures (λ names h.
    request_ensures names.name names.namespace h.name h.namespace)

-- ---- one item

AcceptedItem : Item → Type 0
AcceptedItem (item.Pod p) = AcceptedPod p
AcceptedItem (item.Service s) = AcceptedService s
AcceptedItem (item.Authorization p) = AcceptedPolicy p
AcceptedItem (item.Peer p) = AcceptedPeer p
AcceptedItem (item.Request r) = AcceptedRequest r
AcceptedItem (item.Mesh m) = AcceptedMesh m
AcceptedItem item.Other = Unit {0}

kind_holds : (k : Kind) (d : Data) (at : Steps) → first (kind_faults k d at) ≡ None → AcceptedItem (kind_value k d)
unfolding kind_faults kind_value AcceptedItem
kind_holds kind.Pod d at h = pod_ensures.holds d at h
kind_holds kind.Service d at h = service_ensures.holds d at h
kind_holds kind.Authorization d at h = authorization_item_ensures.holds d at h
kind_holds kind.Peer d at h = peer_item_ensures.holds d at h
kind_holds kind.Request d at h = request_item_ensures.holds d at h
kind_holds kind.Mesh d at h = mesh_item_ensures.holds d at h
kind_holds kind.Other d at h = tt

known_holds : (o : Option Kind) (d : Data) (at : Steps) → first (known_faults o d at) ≡ None → AcceptedItem (known_value o d)
known_holds None d at h = cc
known_holds (Some k) d at h = kind_holds k d at h

item_ensures : Ensures item_faults item_in AcceptedItem
unfolding item_faults item_in
item_ensures = record { holds = λ d at h. known_holds (kind_in d) d at (later _ _ h) }

next_ensures : (seen : List ItemKey) → Ensures (next_faults seen) item_in AcceptedItem
unfolding next_faults
next_ensures seen = record { holds = λ d at h. item_ensures.holds d at (earlier _ _ h) }

-- ---- items behind others

KnowsKey : List ItemKey → Option ItemKey → Type 0
KnowsKey seen None = Unit {0}
KnowsKey seen (Some key) = Seen same_key seen key

-- the later item has another key
DiffersLater : Option ItemKey → Option ItemKey → Type 0
DiffersLater None next = Unit {0}
DiffersLater (Some key) None = Unit {0}
DiffersLater (Some key) (Some next) = same_key next key ≡ false

differs_from_new : (seen : List ItemKey) (key new : Option ItemKey) → IsTrue (is_new seen new) → KnowsKey seen key
    → DiffersLater key new
unfolding KnowsKey DiffersLater
differs_from_new seen None new h known = tt
differs_from_new seen (Some key) None h known = tt
differs_from_new seen (Some key) (Some new) h known = known new (not-true _ h)

knows_last : (seen : List ItemKey) (key : Option ItemKey) → KnowsKey (seen_with seen key) key
unfolding KnowsKey
knows_last seen None = tt
knows_last seen (Some key) = seen_last same_key seen key

knows_still : (seen : List ItemKey) (key more : Option ItemKey) → KnowsKey seen key → KnowsKey (seen_with seen more) key
unfolding KnowsKey
knows_still seen key None known = known
knows_still seen None (Some more) known = tt
knows_still seen (Some key) (Some more) known = seen_still same_key seen key more known

abbrev Apart : Item → Item → Type 0
Apart x y = DiffersLater (key_of x) (key_of y)

items_remembered : Remembers next_faults item_in after_item Apart (λ seen x. KnowsKey seen (key_of x))
unfolding next_faults after_item
items_remembered = record {
  apart = λ seen d at h x known. differs_from_new seen (key_of x) (key_of (item_in d)) (passed _ _ at (later _ _ h)) known;
  added = λ seen d. knows_last seen (key_of (item_in d));
  kept = λ seen d x known. knows_still seen (key_of x) (key_of (item_in d)) known;
}

-- ---- the bundle of accepted items

record AcceptedAll (items : List Item) : Type 0 where
  each : All AcceptedItem items
  apart : Pairs Apart items
  few : length items ≤ 4096

-- an item that is selected as of a kind is of that kind
is_pod : (x : Item) (p : Pod) → as_pod x ≡ Some p → x ≡ item.Pod p
is_pod x p h = grind (arith, h)

is_service : (x : Item) (p : Service) → as_service x ≡ Some p → x ≡ item.Service p
is_service x p h = grind (arith, h)

is_authorization : (x : Item) (p : AuthorizationPolicy) → as_authorization x ≡ Some p → x ≡ item.Authorization p
is_authorization x p h = grind (arith, h)

is_peer : (x : Item) (p : PeerAuthentication) → as_peer x ≡ Some p → x ≡ item.Peer p
is_peer x p h = grind (arith, h)

is_request : (x : Item) (p : RequestAuthentication) → as_request x ≡ Some p → x ≡ item.Request p
is_request x p h = grind (arith, h)

is_mesh : (x : Item) (p : MeshConfig) → as_mesh x ≡ Some p → x ≡ item.Mesh p
is_mesh x p h = grind (arith, h)

-- names that differ from those behind them, where they are compared the other way round
named_once : {A : Type 0} (namespace name : A → List ℕ) (xs : List A)
    → AllPairs (λ a b. same_names (namespace b) (name b) (namespace a) (name a) ≡ false) xs
    → AllPairs (λ a b. same_names (namespace a) (name a) (namespace b) (name b) ≡ false) xs
named_once namespace name xs h i j d before within =
    let a = get_or xs i d in
    let b = get_or xs j d in
    ap₂ (λ (x y : Bool). x && y) (bytes_eq_comm (namespace a) (namespace b)) (bytes_eq_comm (name a) (name b)) ∙ h i j d before within

-- a second MeshConfig is always like the first
one_at_most : (ms : List MeshConfig) → AllPairs (λ a b. Apart (item.Mesh a) (item.Mesh b)) ms → length ms ≤ 1
unfolding key_of DiffersLater
one_at_most [] h = omega arith
one_at_most (m ∷ []) h = omega arith
one_at_most (m ∷ n ∷ ms) h = absurd (let alike : true ≡ false = h 0 1 m (lit< tt) (omega arith) in cc)

last_accepted : (m : MeshConfig) (ms : List MeshConfig) → AcceptedMesh m → All AcceptedMesh ms → AcceptedMesh (last_mesh m ms)
last_accepted m [] p h = p
last_accepted m (n ∷ ns) p h = last_accepted n ns (All-head AcceptedMesh n ns h) (All-tail AcceptedMesh n ns h)

-- each item is counted once
counted : (items : List Item) → item_count (bundle_of items) ≡ length items
counted [] = omega arith
counted (item.Pod q ∷ xs) = omega (arith, counted xs)
counted (item.Service q ∷ xs) = omega (arith, counted xs)
counted (item.Authorization q ∷ xs) = omega (arith, counted xs)
counted (item.Peer q ∷ xs) = omega (arith, counted xs)
counted (item.Request q ∷ xs) = omega (arith, counted xs)
counted (item.Mesh q ∷ xs) = omega (arith, counted xs)
counted (item.Other ∷ xs) = omega (arith, counted xs)

bundle_accepted : (items : List Item) → AcceptedAll items → AcceptedBundle (bundle_of items)
unfolding key_of DiffersLater AcceptedItem
bundle_accepted items h = record {
  pods = record {
    each = all_selected as_pod item.Pod is_pod AcceptedItem items h.each;
    each_once = named_once (λ (x : Pod). x.namespace) (λ (x : Pod). x.name) (filter_map as_pod items)
        (pairs_selected as_pod item.Pod is_pod Apart items h.apart);
  };
  services = record {
    each = all_selected as_service item.Service is_service AcceptedItem items h.each;
    each_once = named_once (λ (x : Service). x.namespace) (λ (x : Service). x.name) (filter_map as_service items)
        (pairs_selected as_service item.Service is_service Apart items h.apart);
  };
  authorization = record {
    each = all_selected as_authorization item.Authorization is_authorization AcceptedItem items h.each;
    each_once = named_once
        (λ (x : AuthorizationPolicy). x.namespace) (λ (x : AuthorizationPolicy). x.name) (filter_map as_authorization items)
        (pairs_selected as_authorization item.Authorization is_authorization Apart items h.apart);
  };
  peers = record {
    each = all_selected as_peer item.Peer is_peer AcceptedItem items h.each;
    each_once = named_once (λ (x : PeerAuthentication). x.namespace) (λ (x : PeerAuthentication). x.name) (filter_map as_peer items)
        (pairs_selected as_peer item.Peer is_peer Apart items h.apart);
  };
  requests = record {
    each = all_selected as_request item.Request is_request AcceptedItem items h.each;
    each_once = named_once
        (λ (x : RequestAuthentication). x.namespace) (λ (x : RequestAuthentication). x.name) (filter_map as_request items)
        (pairs_selected as_request item.Request is_request Apart items h.apart);
  };
  mesh = last_accepted default_mesh (filter_map as_mesh items) default_mesh_accepted
      (all_selected as_mesh item.Mesh is_mesh AcceptedItem items h.each);
  one_mesh =
      let few : length (filter_map as_mesh items) ≤ 1 =
      one_at_most (filter_map as_mesh items) (pairs_selected as_mesh item.Mesh is_mesh Apart items h.apart) in
      omega arith;
  few_items = rw (counted items) h.few;
}

-- ---- the document

none_accepted : AcceptedAll []
none_accepted = record { each = All-nil AcceptedItem; apart = tt; few = omega arith }

alone_accepted : (x : Item) → AcceptedItem x → AcceptedAll (x ∷ [])
alone_accepted x p = record {
  each = All-cons AcceptedItem x [] p (All-nil AcceptedItem);
  apart = (All-nil (Apart x), tt);
  few = omega arith;
}

list_ensures : Ensures items_faults (list_in item_in) AcceptedAll
unfolding items_faults
list_ensures = record {
  holds = λ d at h.
      let entries = (no_fault.list_in_turn after_item next_ensures 4096 []).holds d at (later _ _ h) in
      record {
        each = entries.each;
        apart = (list_pairs items_remembered 4096 []).holds d at (later _ _ h);
        few = entries.few;
      };
}

-- a List without items has none
found_holds : (o : Option Data) (at : Steps) → first (found_faults none items_faults o at) ≡ None
    → AcceptedAll (found_list item_in o)
found_holds None at h = none_accepted
found_holds (Some d) at h = list_ensures.holds d at h

listed_ensures : Ensures (optional ITEMS.now items_faults) (listed_in ITEMS.now item_in) AcceptedAll
unfolding optional listed_in
listed_ensures = record { holds = λ d at h. found_holds (field_in ITEMS.now d) (at_key ITEMS.now at) h }

items_hold : (b : Bool) (d : Data) (at : Steps)
    → first (cond b (optional ITEMS.now items_faults d at) (item_faults d at)) ≡ None
    → AcceptedAll (cond b (listed_in ITEMS.now item_in d) (item_in d ∷ []))
items_hold true d at h = listed_ensures.holds d at h
items_hold false d at h = alone_accepted (item_in d) (item_ensures.holds d at h)

-- what is read without fault is accepted
pub bundle_ensures : Ensures bundle_faults bundle_in AcceptedBundle
unfolding bundle_faults bundle_in items_in
bundle_ensures = record { holds = λ d at h. bundle_accepted _ (items_hold (is_list d) d at (later _ _ h)) }
