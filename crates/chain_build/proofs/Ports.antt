-- Of the chains of a workload those of the connection's port are left.
use Rattle.std.proofs.Common.{◌≡◌, ℕ, ◌<◌, ◌==◌, Bool, true, false, ◌||◌, All, AllPairs, List, [], ◌∷◌, ◌++◌, filter, find, flat_map}
use Rattle.std.proofs.Common.{Option, Some, None, is_some, unwrap_or, cond, suc, refl, ◌∙◌, ap, arith}
use Rattle.std.proofs.Math.Bool.{or-false}
use Rattle.std.proofs.lemmas.Bool.{eqb-true}
use Rattle.std.proofs.lemmas.List.{append-nil}
use Rattle.std.proofs.lemmas.List.Elements.{All-head, All-tail, filter-append}
use Rattle.std.proofs.lemmas.List.Folds.{list_any-append}
use Rattle.std.specs.List.{list_any}
use Rattle.std.specs.Option.{option_map}
use Rattle.mesh_policy.specs.Workload.{ListedPort, Workload, mode_of, port_at, protocol_of}
use Rattle.mesh_policy.specs.declared.peer.Mode.{Mode}
use Rattle.mesh_policy.specs.declared.peer.Mode.TheVariants.{Disable, Permissive, Strict}
use Rattle.mesh_policy.specs.declared.service.Protocol.{Protocol}
use Rattle.mesh_policy.specs.declared.service.Protocol.TheVariants.{Http, Tcp}
use Rattle.envoy_types.specs.Chosen.{is_any_port, names_port}
use Rattle.envoy_types.specs.declared.chains.ChainBody.{ChainBody}
use Rattle.envoy_types.specs.declared.chains.FilterChain.{FilterChain}
use Rattle.chain_build.specs.Chains.{chain_for_port, chains_on, cluster_of}
use Rattle.chain_build.specs.Filters.{body_on}
use Rattle.chain_build.specs.Listener.{chains_at, chains_of, chains_of_port}
use Rattle.chain_build.proofs.Pruned.{for_port}

module _ (p : ℕ) (workload : Workload) where
  abbrev names : FilterChain → Bool
  names c = names_port p c.matching

  abbrev is_open : FilterChain → Bool
  is_open c = is_any_port c.matching

  -- ---- the chains of one port

  module _ (protocol : Protocol) (mode : Mode) (n : ℕ) (body : ChainBody) where
    named-here : filter names (chains_on protocol mode (Some n) body) ≡ cond (n == p) (chains_on protocol mode (Some n) body) []
    unfolding chains_on chain_for_port
    named-here = at protocol mode (n == p) refl where
      at : (s : Protocol) (m : Mode) (b : Bool) → (n == p) ≡ b
          → filter names (chains_on s m (Some n) body) ≡ cond b (chains_on s m (Some n) body) []
      at s Strict true e = rw e refl
      at s Strict false e = rw e refl
      at Tcp Permissive true e = rw e refl
      at Tcp Permissive false e = rw e refl
      at Http Permissive true e = rw e refl
      at Http Permissive false e = rw e refl
      at s Disable true e = rw e refl
      at s Disable false e = rw e refl

    any-here : list_any names (chains_on protocol mode (Some n) body) ≡ (n == p)
    unfolding chains_on chain_for_port
    any-here = at protocol mode (n == p) refl where
      at : (s : Protocol) (m : Mode) (b : Bool) → (n == p) ≡ b → list_any names (chains_on s m (Some n) body) ≡ b
      at s Strict true e = rw e refl
      at s Strict false e = rw e refl
      at Tcp Permissive true e = rw e refl
      at Tcp Permissive false e = rw e refl
      at Http Permissive true e = rw e refl
      at Http Permissive false e = rw e refl
      at s Disable true e = rw e refl
      at s Disable false e = rw e refl

  open-here : (protocol : Protocol) (mode : Mode) (n : ℕ) (body : ChainBody) → filter is_open (chains_on protocol mode (Some n) body) ≡ []
  unfolding chains_on chain_for_port
  open-here protocol Strict n body = refl
  open-here Tcp Permissive n body = refl
  open-here Http Permissive n body = refl
  open-here protocol Disable n body = refl

  -- ---- the chains of the ports that are not listed

  named-others : (mode : Mode) (body : ChainBody) → filter names (chains_on Tcp mode None body) ≡ []
  unfolding chains_on chain_for_port
  named-others Strict body = refl
  named-others Permissive body = refl
  named-others Disable body = refl

  any-others : (mode : Mode) (body : ChainBody) → list_any names (chains_on Tcp mode None body) ≡ false
  unfolding chains_on chain_for_port
  any-others Strict body = refl
  any-others Permissive body = refl
  any-others Disable body = refl

  open-others : (mode : Mode) (body : ChainBody) → filter is_open (chains_on Tcp mode None body) ≡ chains_on Tcp mode None body
  unfolding chains_on chain_for_port
  open-others Strict body = refl
  open-others Permissive body = refl
  open-others Disable body = refl

  -- ---- the chains of all listed ports

  abbrev Below : ListedPort → ListedPort → Type 0
  Below port later = port.number < later.number

  abbrev is_it : ListedPort → Bool
  is_it port = port.number == p

  abbrev listed : List ListedPort → List FilterChain
  listed ports = flat_map (chains_of_port workload) ports

  -- what its chains do
  abbrev body_of : ListedPort → ChainBody
  body_of q = body_on q.protocol workload (cluster_of (Some q.number))

  any-listed : (ports : List ListedPort) → list_any names (listed ports) ≡ is_some (find is_it ports)
  any-listed [] = refl
  any-listed (q ∷ ports) =
      list_any-append names (chains_of_port workload q) (listed ports)
      ∙ ap (λ b. b || list_any names (listed ports)) (any-here q.protocol q.mode q.number (body_of q))
      ∙ at (q.number == p) (any-listed ports) where
        at : (b : Bool) → list_any names (listed ports) ≡ is_some (find is_it ports)
            → (b || list_any names (listed ports)) ≡ is_some (cond b (Some q) (find is_it ports))
        at true h = refl
        at false h = h

  open-listed : (ports : List ListedPort) → filter is_open (listed ports) ≡ []
  open-listed [] = refl
  open-listed (q ∷ ports) =
      filter-append is_open (chains_of_port workload q) (listed ports)
      ∙ ap (λ cs. cs ++ filter is_open (listed ports)) (open-here q.protocol q.mode q.number (body_of q)) ∙ open-listed ports

  other-number : (q : ListedPort) → p < q.number → (q.number == p) ≡ false
  other-number q below = at (q.number == p) refl where
    at : (b : Bool) → (q.number == p) ≡ b → b ≡ false
    at true e = let same : q.number ≡ p = eqb-true q.number p e in absurd (omega (arith, same))
    at false e = refl

  none-later : (ports : List ListedPort) → All (λ later. p < later.number) ports → filter names (listed ports) ≡ []
  none-later [] h = refl
  none-later (q ∷ ports) h =
      filter-append names (chains_of_port workload q) (listed ports)
      ∙ ap (λ cs. cs ++ filter names (listed ports)) (named-here q.protocol q.mode q.number (body_of q))
      ∙ ap (λ b. cond b (chains_of_port workload q) [] ++ filter names (listed ports))
      (other-number q (All-head (λ (later : ListedPort). p < later.number) q ports h))
      ∙ none-later ports (All-tail (λ (later : ListedPort). p < later.number) q ports h)

  -- the chains of the port that is found
  abbrev chains_found : Option ListedPort → List FilterChain
  chains_found None = []
  chains_found (Some q) = chains_of_port workload q

  named-listed : (ports : List ListedPort) → AllPairs Below ports → filter names (listed ports) ≡ chains_found (find is_it ports)
  named-listed [] h = refl
  named-listed (q ∷ ports) h =
      let first : All (Below q) ports = λ k d within. h 0 (suc k) d (omega arith) (omega arith) in
      let later : AllPairs Below ports = λ i j d before within. h (suc i) (suc j) d (omega arith) (omega arith) in
      filter-append names (chains_of_port workload q) (listed ports)
      ∙ ap (λ cs. cs ++ filter names (listed ports)) (named-here q.protocol q.mode q.number (body_of q))
      ∙ at (q.number == p) refl first (named-listed ports later) where
        at : (b : Bool) → (q.number == p) ≡ b → All (Below q) ports → filter names (listed ports) ≡ chains_found (find is_it ports)
            → cond b (chains_of_port workload q) [] ++ filter names (listed ports) ≡ chains_found (cond b (Some q) (find is_it ports))
        at true e first h =
            let same : q.number ≡ p = eqb-true q.number p e in
            ap (λ cs. chains_of_port workload q ++ cs) (none-later ports (λ k d within. omega (arith, same, first k d within)))
            ∙ append-nil (chains_of_port workload q)
        at false e first h = h

  -- ---- all chains

  -- what the chains of the ports that are not listed do
  abbrev others_body : ChainBody
  others_body = body_on Tcp workload (cluster_of None)

  abbrev left_for : Mode → Option ListedPort → List FilterChain
  left_for other None = chains_at workload Tcp other None
  left_for other (Some q) = chains_of_port workload q

  left-at : (other : Mode) (ports : List ListedPort) → AllPairs Below ports
      → for_port p (listed ports ++ chains_at workload Tcp other None) ≡ left_for other (find is_it ports)
  left-at other ports h =
      ap (λ b. cond b (filter names whole) (filter is_open whole))
      (list_any-append names (listed ports) others
      ∙ ap (λ b. list_any names (listed ports) || b) (any-others other others_body)
      ∙ or-false (list_any names (listed ports))
      ∙ any-listed ports)
      ∙ at (find is_it ports) (named-listed ports h) where
        others : List FilterChain
        others = chains_at workload Tcp other None

        whole : List FilterChain
        whole = listed ports ++ others

        at : (found : Option ListedPort) → filter names (listed ports) ≡ chains_found found
            → cond (is_some found) (filter names (listed ports ++ chains_at workload Tcp other None))
            (filter is_open (listed ports ++ chains_at workload Tcp other None))
            ≡ left_for other found
        at None e =
            filter-append is_open (listed ports) (chains_at workload Tcp other None)
            ∙ ap (λ cs. cs ++ filter is_open (chains_at workload Tcp other None)) (open-listed ports)
            ∙ open-others other others_body
        at (Some q) e =
            filter-append names (listed ports) (chains_at workload Tcp other None)
            ∙ ap (λ cs. filter names (listed ports) ++ cs) (named-others other others_body)
            ∙ append-nil (filter names (listed ports)) ∙ e

-- those that the port's protocol and mode give, and those of the ports that are not listed where it is none
pub kept-port : (workload : Workload) (p : ℕ) → AllPairs (λ port later. port.number < later.number) workload.ports
    → for_port p (chains_of workload) ≡ chains_at workload (protocol_of workload p) (mode_of workload p)
    (option_map (λ port. port.number) (port_at workload p))
unfolding chains_of
kept-port workload p rising = left-at p workload workload.other_mode workload.ports rising ∙ at (port_at workload p) where
  at : (found : Option ListedPort)
      → left_for p workload workload.other_mode found
      ≡ chains_at workload (unwrap_or (option_map (λ (port : ListedPort). port.protocol) found) Tcp)
      (unwrap_or (option_map (λ (port : ListedPort). port.mode) found) workload.other_mode)
      (option_map (λ (port : ListedPort). port.number) found)
  at None = refl
  at (Some q) = refl
