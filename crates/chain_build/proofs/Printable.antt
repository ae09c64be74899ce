-- The built listener can be written: its filters, ports and lists keep their limits, and no two chains clash.
use Rattle.std.proofs.Common.{◌≡◌, ℕ, ◌*◌, ◌<◌, ◌≤◌, ◌==◌, Bool, true, false, not, ◌&&◌, All, AllPairs, IsTrue, List, [], ◌∷◌, ◌++◌}
use Rattle.std.proofs.Common.{length, flat_map, Option, Some, None, suc, refl, ◌∙◌, ap, ap₂, append_assoc, arith, length-append}
use Rattle.std.proofs.lemmas.Bool.{and_from, and_parts, eqb-true}
use Rattle.std.proofs.lemmas.List.Elements.{All-head, All-tail}
use Rattle.std.proofs.lemmas.List.Folds.{list_all-append}
use Rattle.std.specs.List.{list_all}
use Rattle.mesh_policy.specs.Values.{is_port}
use Rattle.mesh_policy.specs.Workload.{ListedPort, Workload}
use Rattle.mesh_policy.specs.declared.peer.Mode.{Mode}
use Rattle.mesh_policy.specs.declared.peer.Mode.TheVariants.{Disable, Permissive, Strict}
use Rattle.mesh_policy.specs.declared.service.Protocol.{Protocol}
use Rattle.mesh_policy.specs.declared.service.Protocol.TheVariants.{Http, Tcp}
use Rattle.envoy_types.specs.ChainForms.{are_distinct, chain_is_printable, clashes, match_is_printable, port_is_printable, same_port}
use Rattle.envoy_types.specs.ChainForms.{names_meet, same_protocol}
use Rattle.envoy_types.specs.FilterForms.{body_is_printable}
use Rattle.envoy_types.specs.declared.chains.ChainBody.{ChainBody}
use Rattle.envoy_types.specs.declared.chains.FilterChain.{FilterChain}
use Rattle.chain_build.specs.Chains.{chain_for_port, chains_on, cluster_of}
use Rattle.chain_build.specs.Filters.{body_on}
use Rattle.chain_build.specs.Listener.{chains_at, chains_of_port}

-- ---- chains apart from each other

abbrev apart : FilterChain → FilterChain → Bool
apart chain later = not (clashes chain.matching later.matching)

abbrev all_apart : List FilterChain → List FilterChain → Bool
all_apart chains others = list_all (λ c. list_all (apart c) others) chains

distinct-append : (xs ys : List FilterChain) → are_distinct xs ≡ true → are_distinct ys ≡ true → all_apart xs ys ≡ true
    → are_distinct (xs ++ ys) ≡ true
distinct-append [] ys hx hy h = hy
distinct-append (c ∷ xs) ys hx hy h =
    let own = and_parts (list_all (apart c) xs) (are_distinct xs) hx in
    let cross = and_parts (list_all (apart c) ys) (all_apart xs ys) h in
    and_from _ _ (list_all-append (apart c) xs ys ∙ and_from _ _ own.0 cross.0) (distinct-append xs ys own.1 hy cross.1)

apart-append : (xs ys zs : List FilterChain) → all_apart xs ys ≡ true → all_apart xs zs ≡ true → all_apart xs (ys ++ zs) ≡ true
apart-append [] ys zs h k = refl
apart-append (c ∷ xs) ys zs h k =
    let first = and_parts (list_all (apart c) ys) (all_apart xs ys) h in
    let second = and_parts (list_all (apart c) zs) (all_apart xs zs) k in
    and_from _ _ (list_all-append (apart c) ys zs ∙ and_from _ _ first.0 second.0) (apart-append xs ys zs first.1 second.1)

-- chains for connections to that port
abbrev AreFor : Option ℕ → List FilterChain → Type 0
AreFor port [] = Unit {0}
AreFor port (c ∷ chains) = (c.matching.port ≡ port) × AreFor port chains

module _ (port another : Option ℕ) (different : same_port port another ≡ false) where
  one-apart : (c d : FilterChain) → c.matching.port ≡ port → d.matching.port ≡ another → apart c d ≡ true
  unfolding clashes
  one-apart c d h k =
      ap (λ same. not (same && same_protocol c.matching.transport d.matching.transport && names_meet c.matching.alpn d.matching.alpn))
      (ap₂ same_port h k ∙ different)

  others-apart : (c : FilterChain) (others : List FilterChain) → c.matching.port ≡ port → AreFor another others
      → list_all (apart c) others ≡ true
  others-apart c [] h k = refl
  others-apart c (d ∷ others) h k = and_from _ _ (one-apart c d h k.0) (others-apart c others h k.1)

  ports-apart : (chains others : List FilterChain) → AreFor port chains → AreFor another others → all_apart chains others ≡ true
  ports-apart [] others h k = refl
  ports-apart (c ∷ chains) others h k = and_from _ _ (others-apart c others h.0 k) (ports-apart chains others h.1 k)

-- ---- the chains of one port

module _ (port : Option ℕ) (body : ChainBody) where
  -- by transport protocol and by names, whatever the port
  three : (same : Bool)
      → ((not ((same && false) && false) && (not ((same && true) && false) && true)) &&
      ((not ((same && false) && true) && true) && true)) ≡ true
  three true = refl
  three false = refl

  two : (same : Bool) → ((not ((same && false) && false) && true) && true) ≡ true
  two true = refl
  two false = refl

  own-distinct : (protocol : Protocol) (mode : Mode) → are_distinct (chains_on protocol mode port body) ≡ true
  unfolding chains_on chain_for_port clashes
  own-distinct protocol Strict = refl
  own-distinct Tcp Permissive = three (same_port port port)
  own-distinct Http Permissive = two (same_port port port)
  own-distinct protocol Disable = refl

  own-port : (protocol : Protocol) (mode : Mode) → AreFor port (chains_on protocol mode port body)
  unfolding chains_on chain_for_port
  own-port protocol Strict = (refl, tt)
  own-port Tcp Permissive = (refl, (refl, (refl, tt)))
  own-port Http Permissive = (refl, (refl, tt))
  own-port protocol Disable = (refl, tt)

  own-count : (protocol : Protocol) (mode : Mode)
      → (1 ≤ length (chains_on protocol mode port body)) × (length (chains_on protocol mode port body) ≤ 3)
  unfolding chains_on
  own-count protocol Strict = (omega arith, omega arith)
  own-count Tcp Permissive = (omega arith, omega arith)
  own-count Http Permissive = (omega arith, omega arith)
  own-count protocol Disable = (omega arith, omega arith)

  own-fit : (protocol : Protocol) (mode : Mode) → port_is_printable port ≡ true → body_is_printable body ≡ true
      → list_all chain_is_printable (chains_on protocol mode port body) ≡ true
  unfolding chains_on chain_for_port chain_is_printable match_is_printable
  own-fit protocol Strict e fit = rw (e, fit) refl
  own-fit Tcp Permissive e fit = rw (e, fit) refl
  own-fit Http Permissive e fit = rw (e, fit) refl
  own-fit protocol Disable e fit = rw (e, fit) refl

-- ---- those of all ports

lower : (m n : ℕ) → m < n → (m == n) ≡ false
lower m n below = at (m == n) refl where
  at : (b : Bool) → (m == n) ≡ b → b ≡ false
  at true e = let same : m ≡ n = eqb-true m n e in absurd (omega (arith, same))
  at false e = refl

abbrev Below : ListedPort → ListedPort → Type 0
Below port later = port.number < later.number

module _ (w : Workload) where
  -- those of a port, or of the ports that are not listed
  here-distinct : (protocol : Protocol) (mode : Mode) (port : Option ℕ) → are_distinct (chains_at w protocol mode port) ≡ true
  here-distinct protocol mode port = own-distinct port (body_on protocol w (cluster_of port)) protocol mode

  here-apart : (protocol other : Protocol) (mode another : Mode) (port later : Option ℕ) → same_port port later ≡ false
      → all_apart (chains_at w protocol mode port) (chains_at w other another later) ≡ true
  here-apart protocol other mode another port later e =
      ports-apart port later e (chains_at w protocol mode port) (chains_at w other another later)
      (own-port port (body_on protocol w (cluster_of port)) protocol mode)
      (own-port later (body_on other w (cluster_of later)) other another)

  abbrev listed : List ListedPort → List FilterChain
  listed ports = flat_map (chains_of_port w) ports

  later-apart : (q : ListedPort) (ports : List ListedPort) → All (Below q) ports → all_apart (chains_of_port w q) (listed ports) ≡ true
  later-apart q [] h = none (chains_of_port w q) where
    none : (chains : List FilterChain) → all_apart chains [] ≡ true
    none [] = refl
    none (c ∷ chains) = none chains
  later-apart q (r ∷ ports) h =
      apart-append (chains_of_port w q) (chains_of_port w r) (listed ports)
      (here-apart q.protocol r.protocol q.mode r.mode (Some q.number) (Some r.number)
      (lower q.number r.number (All-head (Below q) r ports h)))
      (later-apart q ports (All-tail (Below q) r ports h))

  -- and behind them those of all other ports
  abbrev all : Mode → List ListedPort → List FilterChain
  all other ports = listed ports ++ chains_at w Tcp other None

  pub all-distinct : (other : Mode) (ports : List ListedPort) → AllPairs Below ports → are_distinct (all other ports) ≡ true
  all-distinct other [] h = here-distinct Tcp other None
  all-distinct other (q ∷ ports) h =
      let first : All (Below q) ports = λ k d within. h 0 (suc k) d (omega arith) (omega arith) in
      let later : AllPairs Below ports = λ i j d before within. h (suc i) (suc j) d (omega arith) (omega arith) in
      let here = chains_of_port w q in
      let others = chains_at w Tcp other None in
      ap are_distinct (append_assoc here (listed ports) others)
      ∙ distinct-append here (all other ports) (here-distinct q.protocol q.mode (Some q.number)) (all-distinct other ports later)
      (apart-append here (listed ports) others (later-apart q ports first)
      (here-apart q.protocol Tcp q.mode other (Some q.number) None refl))

  -- ---- how many there are

  here-count : (protocol : Protocol) (mode : Mode) (port : Option ℕ)
      → (1 ≤ length (chains_at w protocol mode port)) × (length (chains_at w protocol mode port) ≤ 3)
  here-count protocol mode port = own-count port (body_on protocol w (cluster_of port)) protocol mode

  listed-count : (ports : List ListedPort) → length (listed ports) ≤ 3 * length ports
  listed-count [] = omega arith
  listed-count (q ∷ ports) =
      let first : length (chains_of_port w q) ≤ 3 = (here-count q.protocol q.mode (Some q.number)).1 in
      let rest : length (listed ports) ≤ 3 * length ports = listed-count ports in
      omega (arith, first, rest, length-append (chains_of_port w q) (listed ports))

  pub all-count : (other : Mode) (ports : List ListedPort) → length ports ≤ 16
      → (1 ≤ length (all other ports)) × (length (all other ports) ≤ 51)
  all-count other ports few =
      let count = here-count Tcp other None in
      let least : 1 ≤ length (chains_at w Tcp other None) = count.0 in
      let most : length (chains_at w Tcp other None) ≤ 3 = count.1 in
      let sum = length-append (listed ports) (chains_at w Tcp other None) in
      (omega (arith, least, sum), omega (arith, most, listed-count ports, few, sum))

  -- ---- each can be written

  module _ (fit : (protocol : Protocol) (cluster : List ℕ) → body_is_printable (body_on protocol w cluster) ≡ true) where
    here-fit : (protocol : Protocol) (mode : Mode) (port : Option ℕ) → port_is_printable port ≡ true
        → list_all chain_is_printable (chains_at w protocol mode port) ≡ true
    here-fit protocol mode port e =
        own-fit port (body_on protocol w (cluster_of port)) protocol mode e (fit protocol (cluster_of port))

    abbrev IsPort : ListedPort → Type 0
    IsPort port = IsTrue (is_port port.number)

    pub all-fit : (other : Mode) (ports : List ListedPort) → All IsPort ports → list_all chain_is_printable (all other ports) ≡ true
    all-fit other [] h = here-fit Tcp other None refl
    all-fit other (q ∷ ports) h =
        let here = chains_of_port w q in
        ap (list_all chain_is_printable) (append_assoc here (listed ports) (chains_at w Tcp other None))
        ∙ list_all-append chain_is_printable here (all other ports)
        ∙ and_from _ _ (here-fit q.protocol q.mode (Some q.number) (All-head IsPort q ports h))
        (all-fit other ports (All-tail IsPort q ports h))
