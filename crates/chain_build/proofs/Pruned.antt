-- Pruning keeps chains in their places: the chain that is chosen is the first that is left of the chains alone.
use Rattle.std.proofs.Common.{◌≡◌, ℕ, ◌+◌, Bool, true, false, ◌||◌, List, [], ◌∷◌, ◌++◌, length, map, filter, find, Option, Some, cond}
use Rattle.std.proofs.Common.{if◌then◌else◌, refl, subst, ◌∙◌, ap, append_assoc, arith, length-append}
use Rattle.std.specs.List.{list_any, slice_get}
use Rattle.std.specs.Option.{option_and_then, option_map}
use Rattle.mesh_policy.specs.declared.case.Case.{Case}
use Rattle.mesh_policy.specs.declared.case.Tls.{Tls}
use Rattle.envoy_types.specs.Chosen as envoy
use Rattle.envoy_types.specs.Chosen.{Placed, chosen, placed_from, prune}
use Rattle.envoy_types.specs.declared.chains.ChainMatch.{ChainMatch}
use Rattle.envoy_types.specs.declared.chains.FilterChain.{FilterChain}
use Rattle.envoy_types.specs.declared.chains.Listener.{Listener}

-- ---- the three selections of chains alone

-- the chains that name the value, or, where none does, those that name none
abbrev pub narrowed : (names is_open : ChainMatch → Bool) → List FilterChain → List FilterChain
narrowed names is_open chains =
    if list_any (λ c. names c.matching) chains then filter (λ c. names c.matching) chains else filter (λ c. is_open c.matching) chains

abbrev pub for_port : ℕ → List FilterChain → List FilterChain
for_port port chains = narrowed (envoy.names_port port) envoy.is_any_port chains

abbrev pub for_transport : Option Tls → List FilterChain → List FilterChain
for_transport tls chains = narrowed (envoy.names_transport (envoy.transport_of tls)) envoy.is_any_transport chains

-- the first offered name that one of the chains lists
abbrev pub agreed_name : List (List ℕ) → List FilterChain → Option (List ℕ)
agreed_name names chains = find (λ name. list_any (λ c. envoy.lists_name name c.matching) chains) names

abbrev pub for_names : Option Tls → List FilterChain → List FilterChain
for_names tls chains = narrowed (envoy.names_agreed (agreed_name (envoy.offered tls) chains)) envoy.is_any_name chains

-- ---- they are those of the placed chains

abbrev chains_in : List Placed → List FilterChain
chains_in placed = map (λ c. c.chain) placed

any-in : (test : ChainMatch → Bool) (placed : List Placed)
    → list_any (λ c. test c.chain.matching) placed ≡ list_any (λ c. test c.matching) (chains_in placed)
any-in test [] = refl
any-in test (c ∷ placed) = ap (λ b. test c.chain.matching || b) (any-in test placed)

filter-in : (test : ChainMatch → Bool) (placed : List Placed)
    → chains_in (filter (λ c. test c.chain.matching) placed) ≡ filter (λ c. test c.matching) (chains_in placed)
filter-in test [] = refl
filter-in test (c ∷ placed) = at (test c.chain.matching) (filter-in test placed) where
  at : (b : Bool) → chains_in (filter (λ c. test c.chain.matching) placed) ≡ filter (λ c. test c.matching) (chains_in placed)
      → chains_in (cond b (c ∷ filter (λ c. test c.chain.matching) placed) (filter (λ c. test c.chain.matching) placed))
      ≡ cond b (c.chain ∷ filter (λ c. test c.matching) (chains_in placed)) (filter (λ c. test c.matching) (chains_in placed))
  at true h = ap (λ cs. c.chain ∷ cs) h
  at false h = h

narrowed-in : (names is_open : ChainMatch → Bool) (placed : List Placed)
    → chains_in (envoy.narrowed names is_open placed) ≡ narrowed names is_open (chains_in placed)
narrowed-in names is_open placed =
    at (list_any (λ c. names c.chain.matching) placed) (list_any (λ c. names c.matching) (chains_in placed)) (any-in names placed) where
      at : (b c : Bool) → b ≡ c
          → chains_in (cond b (filter (λ c. names c.chain.matching) placed) (filter (λ c. is_open c.chain.matching) placed))
          ≡ cond c (filter (λ c. names c.matching) (chains_in placed)) (filter (λ c. is_open c.matching) (chains_in placed))
      at true true e = filter-in names placed
      at true false e = cc
      at false true e = cc
      at false false e = filter-in is_open placed

find-same : {A : Type 0} (p q : A → Bool) → ((x : A) → p x ≡ q x) → (xs : List A) → find p xs ≡ find q xs
find-same p q same xs = ap (λ test. find test xs) (λ i x. same x i)

agreed-in : (names : List (List ℕ)) (placed : List Placed) → envoy.agreed_name names placed ≡ agreed_name names (chains_in placed)
agreed-in names placed = find-same _ _ (λ name. any-in (envoy.lists_name name) placed) names

names-in : (tls : Option Tls) (placed : List Placed) → chains_in (envoy.for_names tls placed) ≡ for_names tls (chains_in placed)
names-in tls placed =
    narrowed-in (envoy.names_agreed (envoy.agreed_name (envoy.offered tls) placed)) envoy.is_any_name placed
    ∙ ap (λ name. narrowed (envoy.names_agreed name) envoy.is_any_name (chains_in placed)) (agreed-in (envoy.offered tls) placed)

placed-in : (k : ℕ) (chains : List FilterChain) → chains_in (placed_from k chains) ≡ chains
placed-in k [] = refl
placed-in k (c ∷ chains) = ap (λ cs. c ∷ cs) (placed-in (k + 1) chains)

pruned-in : (chains : List FilterChain) (case : Case)
    → chains_in (prune (placed_from 0 chains) case) ≡ for_names case.tls (for_transport case.tls (for_port case.port chains))
pruned-in chains case =
    names-in case.tls (envoy.for_transport case.tls (envoy.for_port case.port (placed_from 0 chains)))
    ∙ ap (for_names case.tls)
    (narrowed-in (envoy.names_transport (envoy.transport_of case.tls)) envoy.is_any_transport
    (envoy.for_port case.port (placed_from 0 chains))
    ∙ ap (for_transport case.tls)
    (narrowed-in (envoy.names_port case.port) envoy.is_any_port (placed_from 0 chains) ∙ ap (for_port case.port) (placed-in 0 chains)))

-- ---- and each stands where its position says

abbrev Stand : List FilterChain → List Placed → Type 0
Stand chains [] = Unit {0}
Stand chains (c ∷ placed) = (slice_get chains c.position ≡ Some c.chain) × Stand chains placed

stand-filter : (chains : List FilterChain) (test : Placed → Bool) (placed : List Placed) → Stand chains placed → Stand chains
    (filter test placed)
stand-filter chains test [] h = h
stand-filter chains test (c ∷ placed) h = at (test c) (stand-filter chains test placed h.1) where
  at : (b : Bool) → Stand chains (filter test placed) → Stand chains (cond b (c ∷ filter test placed) (filter test placed))
  at true inner = (h.0, inner)
  at false inner = inner

stand-narrowed : (chains : List FilterChain) (names is_open : ChainMatch → Bool) (placed : List Placed) → Stand chains placed
    → Stand chains (envoy.narrowed names is_open placed)
stand-narrowed chains names is_open placed h = at (list_any (λ c. names c.chain.matching) placed) where
  at : (b : Bool) → Stand chains (cond b (filter (λ c. names c.chain.matching) placed) (filter (λ c. is_open c.chain.matching) placed))
  at true = stand-filter chains (λ c. names c.chain.matching) placed h
  at false = stand-filter chains (λ c. is_open c.chain.matching) placed h

behind-front : (front : List FilterChain) (c : FilterChain) (rest : List FilterChain) → slice_get (front ++ c ∷ rest) (length front)
    ≡ Some c
behind-front [] c rest = refl
behind-front (d ∷ front) c rest = behind-front front c rest

stand-placed : (front rest : List FilterChain) (k : ℕ) → k ≡ length front → Stand (front ++ rest) (placed_from k rest)
stand-placed front [] k e = tt
stand-placed front (c ∷ rest) k e =
    let next : k + 1 ≡ length (front ++ c ∷ []) = omega (arith, e, length-append front (c ∷ [])) in (
      ap (slice_get (front ++ c ∷ rest)) e ∙ behind-front front c rest,
      subst (λ chains. Stand chains (placed_from (k + 1) rest)) (append_assoc front (c ∷ []) rest)
          (stand-placed (front ++ c ∷ []) rest (k + 1) next),
    )

first-stands : (chains : List FilterChain) (placed : List Placed) → Stand chains placed
    → option_and_then (slice_get chains) (option_map (λ c. c.position) (slice_get placed 0)) ≡ slice_get (chains_in placed) 0
first-stands chains [] h = refl
first-stands chains (c ∷ placed) h = h.0

-- the chain that is chosen is the first that is left
pub first-left : (listener : Listener) (case : Case)
    → option_and_then (slice_get listener.chains) (chosen listener case)
    ≡ slice_get (for_names case.tls (for_transport case.tls (for_port case.port listener.chains))) 0
unfolding chosen
first-left listener case =
    first-stands listener.chains (prune (placed_from 0 listener.chains) case)
    (stand-narrowed listener.chains _ envoy.is_any_name _
    (stand-narrowed listener.chains _ envoy.is_any_transport _
    (stand-narrowed listener.chains _ envoy.is_any_port _ (stand-placed [] listener.chains 0 refl))))
    ∙ ap (λ chains. slice_get chains 0) (pruned-in listener.chains case)
