-- The chains of the listed ports by their numbers alone.
use Rattle.std.proofs.Common.{◌≡◌, ℕ, ◌<◌, ◌==◌, Bool, true, false, All, AllPairs, List, [], ◌∷◌, ◌++◌, find, flat_map, get_or, map}
use Rattle.std.proofs.Common.{Some, unwrap_or, cond, suc, refl, ◌∙◌, ap, arith}
use Rattle.std.proofs.lemmas.Bool.{eqb-true}
use Rattle.std.proofs.lemmas.Bool.Decides.{Decides-eqb}
use Rattle.std.proofs.lemmas.List.Elements.{All-cons, All-head, All-nil, All-tail}
use Rattle.std.specs.Option.{option_map}
use Rattle.mesh_policy.specs.Workload.{ListedPort, Workload, listed_of, mode_of, protocol_of}
use Rattle.mesh_policy.specs.declared.service.Protocol.TheVariants.{Tcp}
use Rattle.envoy_types.specs.declared.chains.FilterChain.{FilterChain}
use Rattle.chain_build.specs.Listener.{chains_at, chains_of_port}

abbrev Below : ListedPort → ListedPort → Type 0
Below port later = port.number < later.number

-- a listed port is found by its number
abbrev IsFound : List ListedPort → ListedPort → Type 0
IsFound ports q = find (λ port. port.number == q.number) ports ≡ Some q

same-number : (n : ℕ) → (n == n) ≡ true
same-number n = (Decides-eqb n n).1 refl

lower : (m n : ℕ) → m < n → (m == n) ≡ false
lower m n below = at (m == n) refl where
  at : (b : Bool) → (m == n) ≡ b → b ≡ false
  at true e = let same : m ≡ n = eqb-true m n e in absurd (omega (arith, same))
  at false e = refl

found-own : (ports : List ListedPort) → AllPairs Below ports → All (IsFound ports) ports
found-own [] h = All-nil (IsFound [])
found-own (x ∷ ports) h =
    let first : All (Below x) ports = λ k d within. h 0 (suc k) d (omega arith) (omega arith) in
    let later : AllPairs Below ports = λ i j d before within. h (suc i) (suc j) d (omega arith) (omega arith) in
    let inner : All (IsFound ports) ports = found-own ports later in
    All-cons (IsFound (x ∷ ports)) x ports (ap (λ b. cond b (Some x) (find (λ port. port.number == x.number) ports)) (same-number x.number))
    (λ k d within. passed (get_or ports k d) (first k d within) ∙ inner k d within) where
      passed : (q : ListedPort) → x.number < q.number
          → find (λ port. port.number == q.number) (x ∷ ports) ≡ find (λ port. port.number == q.number) ports
      passed q below = ap (λ b. cond b (Some x) (find (λ port. port.number == q.number) ports)) (lower x.number q.number below)

module _ (workload : Workload) where
  abbrev chains_of_number : ℕ → List FilterChain
  chains_of_number port = chains_at workload (protocol_of workload port) (mode_of workload port) (Some port)

  by-number-at : (ports : List ListedPort) → All (IsFound workload.ports) ports
      → flat_map chains_of_number (map (λ port. port.number) ports) ≡ flat_map (chains_of_port workload) ports
  by-number-at [] h = refl
  by-number-at (q ∷ ports) h =
      ap (λ found. chains_at workload (unwrap_or (option_map (λ (port : ListedPort). port.protocol) found) Tcp)
      (unwrap_or (option_map (λ (port : ListedPort). port.mode) found) workload.other_mode) (Some q.number)
      ++ flat_map chains_of_number (map (λ (port : ListedPort). port.number) ports)) (All-head (IsFound workload.ports) q ports h)
      ∙ ap (λ cs. chains_of_port workload q ++ cs) (by-number-at ports (All-tail (IsFound workload.ports) q ports h))

  pub by-number : AllPairs (λ port later. port.number < later.number) workload.ports
      → flat_map chains_of_number (listed_of workload) ≡ flat_map (chains_of_port workload) workload.ports
  by-number rising = by-number-at workload.ports (found-own workload.ports rising)
