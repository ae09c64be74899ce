-- A peer whose name is seen has a well-formed one.
use Rattle.std.proofs.Common.{◌≡◌, ℕ, Bool, true, false, List, Option, Some, None, if◌then◌else◌, is_some, refl}
use Rattle.std.specs.Option.{option_and_then}
use Rattle.mesh_policy.specs.Attributes.{Seen, seen_peer}
use Rattle.mesh_policy.specs.PeerNames.{IsNameOf, PeerName, peer_of}
use Rattle.mesh_policy.specs.WellFormedCase.{has_peer_name, if_there}
use Rattle.mesh_policy.specs.declared.case.Case.{Case}
use Rattle.mesh_policy.specs.declared.case.Tls.{Tls}
use Rattle.mesh_policy.proofs.PeerNameLemmas.{names-are-read}
use Rattle.peer_name.specs.Holds.{HasNamedPeer}

-- the name, if there is one, spells a peer
abbrev pub IsNamed : Option (List ℕ) → Type 0
IsNamed None = Unit {0}
IsNamed (Some name) = (peer : PeerName) × IsNameOf peer name

spells : (name : List ℕ) → is_some (peer_of name) ≡ true → IsNamed (Some name)
spells name h = at (peer_of name) refl h where
  at : (found : Option PeerName) → peer_of name ≡ found → is_some found ≡ true → IsNamed (Some name)
  at None e k = absurd cc
  at (Some peer) e k = (peer, (names-are-read name peer).0 e)

of-name : (name : Option (List ℕ)) → if_there (λ n. is_some (peer_of n)) name ≡ true → IsNamed name
of-name None h = tt
of-name (Some name) h = spells name h

of-tls : (tls : Option Tls) → if_there has_peer_name tls ≡ true → IsNamed (option_and_then (λ t. t.peer) tls)
of-tls None h = tt
of-tls (Some tls) h = of-name tls.peer h

where-seen : (seen : Bool) (name : Option (List ℕ)) → IsNamed name → IsNamed (if seen then name else None)
where-seen true name h = h
where-seen false name h = tt

pub seen-is-named : (case : Case) (seen : Seen) → HasNamedPeer case → IsNamed (seen_peer case seen)
seen-is-named case seen h = where-seen seen.peer (option_and_then (λ t. t.peer) case.tls) (of-tls case.tls h)
