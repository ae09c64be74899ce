-- Each listed port of an accepted Pod is a port from 1 to 65,535.
use Rattle.std.proofs.Common.{◌≡◌, ℕ, ◌++◌, Bool, true, false, cond, All, IsTrue, List, [], ◌∷◌, filter, find, map, Option, Some, None}
use Rattle.std.proofs.Common.{refl, subst}
use Rattle.std.proofs.lemmas.List.Elements.{All-append, All-cons, All-filter, All-head, All-map, All-nil, All-tail, All-weaker}
use Rattle.std.proofs.lemmas.Map.Views.{All-insert_key}
use Rattle.std.specs.BTreeSet.{insert_key}
use Rattle.std.specs.List.{cons_option, filter_map, fold}
use Rattle.std.specs.Option.{option_map}
use Rattle.std.specs.Ordering.{nat_cmp}
use Rattle.std.specs.Str.{bytes_eq}
use Rattle.mesh_policy.specs.AcceptedBundle.{AcceptedBundle, AcceptedPeer, AcceptedPod, AcceptedService, AcceptedServicePort, is_target}
use Rattle.mesh_policy.specs.Applying.{peers_of}
use Rattle.mesh_policy.specs.Lists.{least}
use Rattle.mesh_policy.specs.Modes.{has_selector, is_older, workload_policy}
use Rattle.mesh_policy.specs.Ports.{GivenPort, given, given_by, listed, ports_of, protocol_of, selects, target_number}
use Rattle.mesh_policy.specs.Values.{is_port}
use Rattle.mesh_policy.specs.declared.bundle.Bundle.{Bundle}
use Rattle.mesh_policy.specs.declared.peer.PeerAuthentication.{PeerAuthentication}
use Rattle.mesh_policy.specs.declared.pod.NamedPort.{NamedPort}
use Rattle.mesh_policy.specs.declared.pod.Pod.{Pod}
use Rattle.mesh_policy.specs.declared.service.ServicePort.{ServicePort}
use Rattle.mesh_policy.specs.declared.service.Target.{Target}
use Rattle.mesh_policy.specs.declared.service.Target.TheVariants as target
use Rattle.mesh_select.proofs.Bounds.{all-flat, all-in_order}

abbrev pub IsPort : ℕ → Type 0
IsPort n = IsTrue (is_port n)

-- ---- words on lists

pub found-accepted : {A : Type 0} (P : A → Type 0) (test : A → Bool) (xs : List A) → All P xs → (x : A) → find test xs ≡ Some x → P x
found-accepted P test [] h x e = cc
found-accepted {A} P test (y ∷ ys) h x e = at (test y) (found-accepted P test ys (All-tail P y ys h) x) e where
  at : (b : Bool) → (find test ys ≡ Some x → P x) → cond b (Some y) (find test ys) ≡ Some x → P x
  at true later e = let same : y ≡ x = cc in subst P same (All-head P y ys h)
  at false later e = later e

fold-in : {A : Type 0} (P : A → Type 0) (before : A → A → Bool) (x : A) (xs : List A) → P x → All P xs
    → P (fold (λ a b. cond (before b a) b a) x xs)
fold-in P before x [] hx h = hx
fold-in P before x (y ∷ ys) hx h = fold-in P before _ ys (at (before y x)) (All-tail P y ys h) where
  at : (b : Bool) → P (cond b y x)
  at true = All-head P y ys h
  at false = hx

least-in : {A : Type 0} (P : A → Type 0) (before : A → A → Bool) (xs : List A) → All P xs → (x : A) → least before xs ≡ Some x → P x
least-in P before [] h x e = cc
least-in P before (y ∷ ys) h x e =
    let same : fold (λ a b. cond (before b a) b a) y ys ≡ x = cc in
    subst P same (fold-in P before y ys (All-head P y ys h) (All-tail P y ys h))

inserted-in : (P : ℕ → Type 0) (numbers ns : List ℕ) → All P ns → All P numbers → All P (fold (insert_key nat_cmp) ns numbers)
inserted-in P [] ns h k = h
inserted-in P (n ∷ numbers) ns h k =
    inserted-in P numbers (insert_key nat_cmp ns n) (All-insert_key nat_cmp n P ns h (All-head P n numbers k)) (All-tail P n numbers k)

-- ---- the ports of Services

module _ (pod : Pod) (accepted : AcceptedPod pod) where
  named-port : (found : Option NamedPort) → ((entry : NamedPort) → found ≡ Some entry → IsPort entry.port)
      → (n : ℕ) → option_map (λ (entry : NamedPort). entry.port) found ≡ Some n → IsPort n
  named-port None h n e = cc
  named-port (Some entry) h n e = let same : entry.port ≡ n = cc in subst IsPort same (h entry refl)

  target-port : (port : ℕ) → IsPort port → (t : Target) → IsTrue (is_target t) → (n : ℕ) → target_number pod port t ≡ Some n → IsPort n
  target-port port h target.Same k n e = let same : port ≡ n = cc in subst IsPort same h
  target-port port h (target.Number m) k n e = let same : m ≡ n = cc in subst IsPort same k
  target-port port h (target.Named name) k n e =
      named-port (find (λ entry. bytes_eq entry.name name) pod.ports)
      (found-accepted (λ (entry : NamedPort). IsPort entry.port) (λ entry. bytes_eq entry.name name) pod.ports accepted.ports) n e

  abbrev IsGiven : GivenPort → Type 0
  IsGiven port = IsPort port.number

  given-in : (entries : List ServicePort) → All AcceptedServicePort entries → All IsGiven (filter_map (given_by pod) entries)
  given-in [] h = All-nil IsGiven
  given-in (entry ∷ entries) h =
      let own = All-head AcceptedServicePort entry entries h in
      at (target_number pod entry.port entry.target) (target-port entry.port own.port entry.target own.target)
      (given-in entries (All-tail AcceptedServicePort entry entries h)) where
        at : (o : Option ℕ) → ((n : ℕ) → o ≡ Some n → IsPort n) → All IsGiven (filter_map (given_by pod) entries)
            → All IsGiven (cons_option (option_map (λ number. record { number = number; protocol = protocol_of entry }) o)
            (filter_map (given_by pod) entries))
        at None each rest = rest
        at (Some n) each rest = All-cons IsGiven (record { number = n; protocol = protocol_of entry }) _ (each n refl) rest

  module _ (bundle : Bundle) (h : AcceptedBundle bundle) where
    given-ports : All IsGiven (given bundle pod)
    unfolding given
    given-ports =
        all-flat (λ service. filter_map (given_by pod) service.ports) IsGiven (filter (selects pod) bundle.services)
        (All-weaker AcceptedService (λ service. All IsGiven (filter_map (given_by pod) service.ports))
        (λ service own. given-in service.ports own.ports.each) (filter (selects pod) bundle.services)
        (All-filter (selects pod) AcceptedService bundle.services h.services.each))

    peers-accepted : All AcceptedPeer (peers_of bundle pod)
    peers-accepted = all-in_order _ AcceptedPeer _ (All-filter _ AcceptedPeer bundle.peers h.peers.each)

    policy-ports : (policy : Option PeerAuthentication) → ((p : PeerAuthentication) → policy ≡ Some p → AcceptedPeer p)
        → All IsPort (ports_of policy)
    policy-ports None each = All-nil IsPort
    policy-ports (Some policy) each = All-map IsPort (λ entry. entry.port) policy.ports (each policy refl).ports

    pub listed-ports : All IsPort (listed bundle pod)
    unfolding listed
    listed-ports =
        inserted-in IsPort (map (λ entry. entry.number) (given bundle pod) ++ ports_of (workload_policy bundle pod)) [] (All-nil IsPort)
        (All-append IsPort (map (λ entry. entry.number) (given bundle pod)) (ports_of (workload_policy bundle pod))
        (All-map IsPort (λ entry. entry.number) (given bundle pod) given-ports)
        (policy-ports (workload_policy bundle pod)
        (least-in AcceptedPeer is_older (filter has_selector (peers_of bundle pod))
        (All-filter has_selector AcceptedPeer (peers_of bundle pod) peers-accepted))))
