-- The chain that is chosen is the first that is left by what the chains left have in common.
use Rattle.std.proofs.Common.{◌≡◌, ℕ, ◌+◌, Bool, true, false, ◌&&◌, ◌||◌, List, [], ◌∷◌, filter, find, Option, Some, None, cond, ap, sym}
use Rattle.std.proofs.Common.{refl, ◌∙◌}
use Rattle.std.specs.List.{list_any, position_from, slice_get}
use Rattle.std.specs.Option.{option_map}
use Rattle.mesh_policy.specs.declared.case.Case.{Case}
use Rattle.envoy_types.specs.Chosen as meaning
use Rattle.envoy_types.specs.Chosen.{Placed, chosen, placed_from}
use Rattle.envoy_types.specs.declared.chains.ChainMatch.{ChainMatch}
use Rattle.envoy_types.specs.declared.chains.FilterChain.{FilterChain}
use Rattle.envoy_types.specs.declared.chains.Listener.{Listener}
use Rattle.envoy_types.specs.declared.chains.Transport.{Transport}
use Rattle.envoy_eval.specs.Chains.{first_left, has_name, has_port, is_open, name_left, port_left, transport_left}

-- the placed chains that pass a test
abbrev kept : (ChainMatch → Bool) → ℕ → List FilterChain → List Placed
kept test k chains = filter (λ c. test c.chain.matching) (placed_from k chains)

abbrev placed : ℕ → FilterChain → Placed
placed k chain = record { position = k; chain = chain }

any-kept : (test names : ChainMatch → Bool) (k : ℕ) (chains : List FilterChain)
    → list_any (λ c. names c.chain.matching) (kept test k chains) ≡ list_any (λ c. test c.matching && names c.matching) chains
any-kept test names k [] = refl
any-kept test names k (c ∷ chains) = at (test c.matching) (any-kept test names (k + 1) chains) where
  at : (b : Bool)
      → list_any (λ c. names c.chain.matching) (kept test (k + 1) chains) ≡ list_any (λ c. test c.matching && names c.matching) chains
      → list_any (λ c. names c.chain.matching) (cond b (placed k c ∷ kept test (k + 1) chains) (kept test (k + 1) chains))
      ≡ ((b && names c.matching) || list_any (λ c. test c.matching && names c.matching) chains)
  at true h = ap (λ b. names c.matching || b) h
  at false h = h

kept-kept : (test next : ChainMatch → Bool) (k : ℕ) (chains : List FilterChain)
    → filter (λ c. next c.chain.matching) (kept test k chains) ≡ kept (λ m. test m && next m) k chains
kept-kept test next k [] = refl
kept-kept test next k (c ∷ chains) = at (test c.matching) (next c.matching) refl (kept-kept test next (k + 1) chains) where
  at : (b n : Bool) → next c.matching ≡ n
      → filter (λ c. next c.chain.matching) (kept test (k + 1) chains) ≡ kept (λ m. test m && next m) (k + 1) chains
      → filter (λ c. next c.chain.matching) (cond b (placed k c ∷ kept test (k + 1) chains) (kept test (k + 1) chains))
      ≡ cond (b && next c.matching) (placed k c ∷ kept (λ m. test m && next m) (k + 1) chains)
      (kept (λ m. test m && next m) (k + 1) chains)
  at true true e h = rw (e, h) refl
  at true false e h = rw (e, h) refl
  at false n e h = h

-- the selection, by whether a chain that is left names the value
narrowed-kept : (names is_open test : ChainMatch → Bool) (k : ℕ) (chains : List FilterChain) (found : Bool)
    → list_any (λ c. test c.matching && names c.matching) chains ≡ found
    → meaning.narrowed names is_open (kept test k chains) ≡ kept (λ m. test m && cond found (names m) (is_open m)) k chains
narrowed-kept names is_open test k chains true e = rw (any-kept test names k chains, e) (kept-kept test names k chains)
narrowed-kept names is_open test k chains false e = rw (any-kept test names k chains, e) (kept-kept test is_open k chains)

-- the first that is left, by its place
first-kept : (test : ChainMatch → Bool) (k : ℕ) (chains : List FilterChain)
    → option_map (λ c. c.position) (slice_get (kept test k chains) 0) ≡ position_from (λ c. test c.matching) k chains
first-kept test k [] = refl
first-kept test k (c ∷ chains) = at (test c.matching) (first-kept test (k + 1) chains) where
  at : (b : Bool)
      → option_map (λ c. c.position) (slice_get (kept test (k + 1) chains) 0) ≡ position_from (λ c. test c.matching) (k + 1) chains
      → option_map (λ c. c.position) (slice_get (cond b (placed k c ∷ kept test (k + 1) chains) (kept test (k + 1) chains)) 0)
      ≡ cond b (Some k) (position_from (λ c. test c.matching) (k + 1) chains)
  at true h = refl
  at false h = h

-- ---- the port

any-placed : (names : ChainMatch → Bool) (k : ℕ) (chains : List FilterChain)
    → list_any (λ c. names c.chain.matching) (placed_from k chains) ≡ list_any (λ c. names c.matching) chains
any-placed names k [] = refl
any-placed names k (c ∷ chains) = ap (λ b. names c.matching || b) (any-placed names (k + 1) chains)

port-kept : (port : ℕ) (chains : List FilterChain) (found : Bool) → list_any (λ c. meaning.names_port port c.matching) chains ≡ found
    → meaning.for_port port (placed_from 0 chains) ≡ kept (has_port (cond found (Some port) None)) 0 chains
port-kept port chains true e = rw (any-placed (meaning.names_port port) 0 chains, e) refl
port-kept port chains false e = rw (any-placed (meaning.names_port port) 0 chains, e) refl

-- ---- the transport protocol

transport-kept : (transport : Transport) (port : Option ℕ) (chains : List FilterChain) (found : Bool)
    → list_any (λ c. has_port port c.matching && meaning.names_transport transport c.matching) chains ≡ found
    → meaning.narrowed (meaning.names_transport transport) meaning.is_any_transport (kept (has_port port) 0 chains)
    ≡ kept (is_open port (cond found (Some transport) None)) 0 chains
transport-kept transport port chains true e =
    narrowed-kept (meaning.names_transport transport) meaning.is_any_transport (has_port port) 0 chains true e
transport-kept transport port chains false e =
    narrowed-kept (meaning.names_transport transport) meaning.is_any_transport (has_port port) 0 chains false e

-- ---- the application protocols

find-same : {A : Type 0} (p q : A → Bool) → ((x : A) → p x ≡ q x) → (xs : List A) → find p xs ≡ find q xs
find-same p q same xs = ap (λ test. find test xs) (λ i x. same x i)

found-passes : {A : Type 0} (p : A → Bool) (xs : List A) (y : A) → find p xs ≡ Some y → p y ≡ true
found-passes p [] y h = cc
found-passes p (x ∷ xs) y h = at (p x) refl h (found-passes p xs y) where
  at : (b : Bool) → p x ≡ b → cond b (Some x) (find p xs) ≡ Some y → (find p xs ≡ Some y → p y ≡ true) → p y ≡ true
  at true e h more = cc
  at false e h more = more h

none-passes : {A : Type 0} (xs : List A) → list_any (λ x. false) xs ≡ false
none-passes [] = refl
none-passes (x ∷ xs) = none-passes xs

name-kept : (test : ChainMatch → Bool) (names : List (List ℕ)) (chains : List FilterChain) (name : Option (List ℕ))
    → find (λ name. list_any (λ c. test c.matching && meaning.lists_name name c.matching) chains) names ≡ name
    → meaning.narrowed (meaning.names_agreed name) meaning.is_any_name (kept test 0 chains) ≡ kept (λ m. test m && has_name name m) 0 chains
name-kept test names chains None e =
    rw (none-passes (kept test 0 chains)) (kept-kept test meaning.is_any_name 0 chains)
name-kept test names chains (Some name) e =
    narrowed-kept (meaning.lists_name name) meaning.is_any_name test 0 chains true
    (found-passes (λ n. list_any (λ c. test c.matching && meaning.lists_name n c.matching) chains) names name e)

names-kept : (test : ChainMatch → Bool) (names : List (List ℕ)) (chains : List FilterChain)
    → meaning.agreed_name names (kept test 0 chains)
    ≡ find (λ name. list_any (λ c. test c.matching && meaning.lists_name name c.matching) chains) names
names-kept test names chains = find-same _ _ (λ name. any-kept test (meaning.lists_name name) 0 chains) names

-- ---- all three

module _ (listener : Listener) (case : Case) where
  abbrev chains : List FilterChain
  chains = listener.chains

  abbrev port : Option ℕ
  port = port_left chains case.port

  abbrev transport : Option Transport
  transport = transport_left chains port (meaning.transport_of case.tls)

  abbrev name : Option (List ℕ)
  name = name_left chains port transport (meaning.offered case.tls)

  by_port : meaning.for_port case.port (placed_from 0 chains) ≡ kept (has_port port) 0 chains
  by_port = port-kept case.port chains _ refl

  by_transport : meaning.for_transport case.tls (kept (has_port port) 0 chains) ≡ kept (is_open port transport) 0 chains
  by_transport = transport-kept (meaning.transport_of case.tls) port chains _ refl

  by_name : meaning.for_names case.tls (kept (is_open port transport) 0 chains)
      ≡ kept (λ m. is_open port transport m && has_name name m) 0 chains
  by_name =
      ap (λ n. meaning.narrowed (meaning.names_agreed n) meaning.is_any_name (kept (is_open port transport) 0 chains))
      (names-kept (is_open port transport) (meaning.offered case.tls) chains)
      ∙ name-kept (is_open port transport) (meaning.offered case.tls) chains name refl

  pub chosen-left : chosen listener case ≡ first_left chains port transport name
  unfolding chosen
  chosen-left =
      ap (λ cs. option_map (λ c. c.position) (slice_get (meaning.for_names case.tls (meaning.for_transport case.tls cs)) 0)) by_port
      ∙ ap (λ cs. option_map (λ c. c.position) (slice_get (meaning.for_names case.tls cs) 0)) by_transport
      ∙ ap (λ cs. option_map (λ c. c.position) (slice_get cs 0)) by_name
      ∙ first-kept (λ m. is_open port transport m && has_name name m) 0 chains

-- what the steps of the choice answer
pub chosen-by : (listener : Listener) (case : Case) (chains : List FilterChain) (port : Option ℕ) (protocol : Transport)
    (transport : Option Transport) (names : List (List ℕ)) (name : Option (List ℕ)) (position : Option ℕ)
    → chains ≡ listener.chains → port ≡ port_left chains case.port → protocol ≡ meaning.transport_of case.tls
    → transport ≡ transport_left chains port protocol → names ≡ meaning.offered case.tls → name ≡ name_left chains port transport names
    → position ≡ first_left chains port transport name → position ≡ chosen listener case
chosen-by listener case chains port protocol transport names name position e1 e2 e3 e4 e5 e6 e7 =
    rw (e7, e6, e5, e4, e3, e2, e1) (sym (chosen-left listener case))
