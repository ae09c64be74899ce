-- A workload says of each port what the manifests do.
use Rattle.std.proofs.Common.{◌≡◌, ℕ, ◌==◌, Bool, true, false, cond, ◌&&◌, ◌||◌, List, [], ◌∷◌, ◌++◌, map, find, Option}
use Rattle.std.proofs.Common.{Some, None, unwrap_or, if◌then◌else◌, refl, sym, ◌∙◌, ap}
use Rattle.std.proofs.Math.Bool.{or-false}
use Rattle.std.proofs.lemmas.Bool.{or_parts}
use Rattle.std.proofs.lemmas.Bool.Decides.{Decides-eqb}
use Rattle.std.proofs.lemmas.List.Folds.{list_any-append}
use Rattle.std.proofs.lemmas.Map.Lookups.{exact_unsigned}
use Rattle.std.specs.BTreeSet.{insert_key}
use Rattle.std.specs.List.{fold, list_any}
use Rattle.std.specs.Option.{option_and_then, option_map}
use Rattle.std.specs.Ordering.{match_ordering, nat_cmp}
use Rattle.std.specs.declared.cmp.Ordering.{Ordering}
use Rattle.std.specs.declared.cmp.Ordering.TheVariants.{Less, Equal, Greater}
use lib.Dec.{eqb}
use Rattle.mesh_policy.specs.declared.bundle.Bundle.{Bundle}
use Rattle.mesh_policy.specs.declared.peer.Mode.{Mode}
use Rattle.mesh_policy.specs.declared.peer.PeerAuthentication.{PeerAuthentication}
use Rattle.mesh_policy.specs.declared.peer.PortMode.{PortMode}
use Rattle.mesh_policy.specs.declared.pod.Pod.{Pod}
use Rattle.mesh_policy.specs.declared.service.Protocol.{Protocol}
use Rattle.mesh_policy.specs.declared.service.Protocol.TheVariants.{Http, Tcp}
use Rattle.mesh_policy.specs.Lists.{ascending}
use Rattle.mesh_policy.specs.Modes.{mode_at, mode_from, other_mode, port_mode, workload_policy}
use Rattle.mesh_policy.specs.Ports.{GivenPort, given, gives_http, is_http, listed, ports_of, protocol_at}
use Rattle.mesh_policy.specs.Workload.{ListedPort, WorkloadTellsPorts, listed_of, mode_of, port_of, protocol_of, workload_of}
use Rattle.mesh_policy.proofs.Listed.{or-swap}

-- ---- a number among some, each of them once

or-twice : (a b : Bool) → (a || b) ≡ (a || (a || b))
or-twice true b = refl
or-twice false b = refl

or-shift : (a b c : Bool) → ((a || b) || c) ≡ (b || (a || c))
or-shift true true c = refl
or-shift true false c = refl
or-shift false true c = refl
or-shift false false c = refl

any-insert_key : (p k : ℕ) (ns : List ℕ)
    → list_any (λ n. n == p) (insert_key nat_cmp ns k) ≡ ((k == p) || list_any (λ n. n == p) ns)
any-insert_key p k [] = refl
any-insert_key p k (n ∷ ns) = at (nat_cmp k n) refl (any-insert_key p k ns) where
  at : (r : Ordering) → nat_cmp k n ≡ r
      → list_any (λ m. m == p) (insert_key nat_cmp ns k) ≡ ((k == p) || list_any (λ m. m == p) ns)
      → list_any (λ m. m == p) (match_ordering r (k ∷ n ∷ ns) (n ∷ ns) (n ∷ insert_key nat_cmp ns k))
      ≡ ((k == p) || ((n == p) || list_any (λ m. m == p) ns))
  at Less e more = refl
  at Equal e more =
      or-twice (n == p) (list_any (λ m. m == p) ns)
      ∙ ap (λ (m : ℕ). (m == p) || ((n == p) || list_any (λ m. m == p) ns)) (sym (exact_unsigned k n e))
  at Greater e more =
      ap (λ (b : Bool). (n == p) || b) more ∙ or-swap (n == p) (k == p) (list_any (λ m. m == p) ns)

any-fold : (p : ℕ) (ns seen : List ℕ)
    → list_any (λ n. n == p) (fold (insert_key nat_cmp) seen ns) ≡ (list_any (λ n. n == p) seen || list_any (λ n. n == p) ns)
any-fold p [] seen = sym (or-false (list_any (λ n. n == p) seen))
any-fold p (n ∷ ns) seen =
    any-fold p ns (insert_key nat_cmp seen n)
    ∙ ap (λ (b : Bool). b || list_any (λ m. m == p) ns) (any-insert_key p n seen)
    ∙ or-shift (n == p) (list_any (λ m. m == p) seen) (list_any (λ m. m == p) ns)

any-ascending : (p : ℕ) (ns : List ℕ) → list_any (λ n. n == p) (ascending ns) ≡ list_any (λ n. n == p) ns
any-ascending p ns = any-fold p ns []

-- ---- the listed port of a number

find-port : (b : Bundle) (pod : Pod) (p : ℕ) (ns : List ℕ)
    → find (λ (port : ListedPort). port.number == p) (map (port_of b pod) ns)
    ≡ (if list_any (λ n. n == p) ns then Some (port_of b pod p) else None)
find-port b pod p [] = refl
find-port b pod p (n ∷ ns) = at (eqb n p) refl (find-port b pod p ns) where
  at : (test : Bool) → eqb n p ≡ test
      → find (λ (port : ListedPort). port.number == p) (map (port_of b pod) ns)
      ≡ (if list_any (λ n. n == p) ns then Some (port_of b pod p) else None)
      → cond test (Some (port_of b pod n)) (find (λ (port : ListedPort). port.number == p) (map (port_of b pod) ns))
      ≡ (if test || list_any (λ n. n == p) ns then Some (port_of b pod p) else None)
  at true e inner = ap (λ (m : ℕ). Some (port_of b pod m)) ((Decides-eqb n p).0 e)
  at false e inner = inner

-- ---- a port that isn't listed

no-entry : (p : ℕ) (entries : List PortMode) → list_any (λ n. n == p) (map (λ (entry : PortMode). entry.port) entries) ≡ false
    → find (λ (entry : PortMode). entry.port == p) entries ≡ None
no-entry p [] h = refl
no-entry p (entry ∷ entries) h =
    let parts : ((entry.port == p) ≡ false) × (list_any (λ n. n == p) (map (λ (entry : PortMode). entry.port) entries)
    ≡ false) = or_parts _ _ h in
    ap (λ (test : Bool). cond test (Some entry) (find (λ (entry : PortMode). entry.port == p) entries)) parts.0 ∙ no-entry p entries parts.1

no-mode : (p : ℕ) (policy : Option PeerAuthentication) → list_any (λ n. n == p) (ports_of policy) ≡ false
    → option_and_then (port_mode p) policy ≡ None
no-mode p None h = refl
no-mode p (Some policy) h = ap (option_and_then (λ (entry : PortMode). entry.mode)) (no-entry p policy.ports h)

no-http : (p : ℕ) (ports : List GivenPort) → list_any (λ n. n == p) (map (λ (entry : GivenPort). entry.number) ports) ≡ false
    → gives_http ports p ≡ false
no-http p [] h = refl
no-http p (entry ∷ ports) h =
    let parts : ((entry.number == p) ≡ false) × (list_any (λ n. n == p) (map (λ (entry : GivenPort). entry.number) ports)
    ≡ false) = or_parts _ _ h in
    ap (λ (test : Bool). (test && is_http entry.protocol) || gives_http ports p) parts.0 ∙ no-http p ports parts.1

abbrev NotGiven : Bundle → Pod → ℕ → Type 0
NotGiven b pod p =
    (list_any (λ n. n == p) (map (λ (entry : GivenPort). entry.number) (given b pod))
    ≡ false) × (list_any (λ n. n == p) (ports_of (workload_policy b pod)) ≡ false)

not-given : (b : Bundle) (pod : Pod) (p : ℕ) → list_any (λ n. n == p) (listed b pod) ≡ false → NotGiven b pod p
unfolding listed
not-given b pod p h = or_parts _ _
    (sym (list_any-append (λ n. n == p) (map (λ (entry : GivenPort). entry.number) (given b pod)) (ports_of (workload_policy b pod)))
    ∙ sym (any-ascending p (map (λ (entry : GivenPort). entry.number) (given b pod) ++ ports_of (workload_policy b pod))) ∙ h)

-- ---- what the workload says

mode-told : (b : Bundle) (pod : Pod) (p : ℕ) → mode_of (workload_of b pod) p ≡ mode_at b pod p
unfolding workload_of mode_at other_mode
mode-told b pod p =
    ap (λ (port : Option ListedPort). unwrap_or (option_map
    (λ (port : ListedPort). port.mode) port) (other_mode b pod)) (find-port b pod p (listed b pod))
    ∙ at (list_any (λ n. n == p) (listed b pod)) refl where
      at : (test : Bool) → list_any (λ n. n == p) (listed b pod) ≡ test
          → unwrap_or (option_map (λ (port : ListedPort). port.mode) (if test then Some (port_of b pod p) else None)) (other_mode b pod)
          ≡ mode_at b pod p
      at true e = refl
      at false e = ap (λ (own : Option Mode). mode_from own b pod) (sym (no-mode p (workload_policy b pod) (not-given b pod p e).1))

protocol-told : (b : Bundle) (pod : Pod) (p : ℕ) → protocol_of (workload_of b pod) p ≡ protocol_at b pod p
unfolding workload_of protocol_at
protocol-told b pod p =
    ap (λ (port : Option ListedPort). unwrap_or (option_map
    (λ (port : ListedPort). port.protocol) port) Tcp) (find-port b pod p (listed b pod))
    ∙ at (list_any (λ n. n == p) (listed b pod)) refl where
      at : (test : Bool) → list_any (λ n. n == p) (listed b pod) ≡ test
          → unwrap_or (option_map (λ (port : ListedPort). port.protocol) (if test then Some (port_of b pod p) else None)) Tcp
          ≡ protocol_at b pod p
      at true e = refl
      at false e = ap (λ (http : Bool). let o : Protocol = if http then Http else Tcp in o)
          (sym (no-http p (given b pod) (not-given b pod p e).0))

numbers-told : (b : Bundle) (pod : Pod) (ns : List ℕ) → map (λ (port : ListedPort). port.number) (map (port_of b pod) ns) ≡ ns
numbers-told b pod [] = refl
numbers-told b pod (n ∷ ns) = ap (λ (r : List ℕ). n ∷ r) (numbers-told b pod ns)

listed-told : (b : Bundle) (pod : Pod) → listed_of (workload_of b pod) ≡ listed b pod
unfolding workload_of
listed-told b pod = numbers-told b pod (listed b pod)

pub tells-ports : WorkloadTellsPorts
tells-ports b pod = record { modes = mode-told b pod; protocols = protocol-told b pod; numbers = listed-told b pod }
