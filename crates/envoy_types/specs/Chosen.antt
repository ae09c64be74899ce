-- Which chain a connection goes to (Envoy v3 API reference, `config.listener.v3.FilterChainMatch`).
use Rattle.std.specs.Prelude.{ℕ, ◌+◌, ◌==◌, Bool, true, false, List, [], ◌∷◌, length, Option, Some, None, filter, find, is_none}
use Rattle.std.specs.Prelude.{if◌then◌else◌}
use Rattle.std.specs.List.{list_any, slice_get}
use Rattle.std.specs.Option.{option_map}
use Rattle.std.specs.Str.{bytes_eq}
use Rattle.mesh_policy.specs.declared.case.Case.{Case}
use Rattle.mesh_policy.specs.declared.case.Tls.{Tls}
use Rattle.envoy_types.specs.State.{holds_of}
use Rattle.envoy_types.specs.declared.chains.ChainMatch.{ChainMatch}
use Rattle.envoy_types.specs.declared.chains.FilterChain.{FilterChain}
use Rattle.envoy_types.specs.declared.chains.Listener.{Listener}
use Rattle.envoy_types.specs.declared.chains.Transport.{Transport}
use Rattle.envoy_types.specs.declared.chains.Transport.TheVariants.{RawBuffer, Tls as Encrypted}

-- a chain and where it stands in its listener
pub record Placed : Type 0 where
  -- counted from 0
  pub position : ℕ
  pub chain : FilterChain

-- the chains with their positions, which are counted from a number
abbrev pub placed_from : ℕ → List FilterChain → List Placed
placed_from position [] = []
placed_from position (chain ∷ chains) = record { position = position; chain = chain } ∷ placed_from (position + 1) chains

-- the chains that name the value, or, where none does, those that name none
abbrev pub narrowed : (names is_open : ChainMatch → Bool) → List Placed → List Placed
narrowed names is_open chains =
    if list_any (λ c. names c.chain.matching) chains then filter (λ c. names c.chain.matching) chains
    else filter (λ c. is_open c.chain.matching) chains

-- `destination_port` is this port
abbrev pub names_port : ℕ → ChainMatch → Bool
names_port port matching = holds_of (λ named. named == port) matching.port

-- `destination_port` is not written
abbrev pub is_any_port : ChainMatch → Bool
is_any_port matching = is_none matching.port

-- what the TLS inspector tells of the connection
abbrev pub transport_of : Option Tls → Transport
transport_of None = RawBuffer
transport_of (Some tls) = Encrypted

-- `==` on transports
abbrev pub same_transport : Transport → Transport → Bool
same_transport RawBuffer RawBuffer = true
same_transport RawBuffer Encrypted = false
same_transport Encrypted RawBuffer = false
same_transport Encrypted Encrypted = true

-- `transport_protocol` is this one
abbrev pub names_transport : Transport → ChainMatch → Bool
names_transport transport matching = holds_of (λ named. same_transport named transport) matching.transport

-- `transport_protocol` is not written
abbrev pub is_any_transport : ChainMatch → Bool
is_any_transport matching = is_none matching.transport

-- the application protocols that the client offers
abbrev pub offered : Option Tls → List (List ℕ)
offered None = []
offered (Some tls) = tls.alpn

-- `application_protocols` has this name
abbrev pub lists_name : List ℕ → ChainMatch → Bool
lists_name name matching = list_any (bytes_eq name) matching.alpn

-- `application_protocols` is not written
abbrev pub is_any_name : ChainMatch → Bool
is_any_name matching = length matching.alpn == 0

-- the first offered name that one of the chains lists
abbrev pub agreed_name : List (List ℕ) → List Placed → Option (List ℕ)
agreed_name names chains = find (λ name. list_any (λ c. lists_name name c.chain.matching) chains) names

-- the chain lists the name that is agreed
abbrev pub names_agreed : Option (List ℕ) → ChainMatch → Bool
names_agreed name matching = holds_of (λ n. lists_name n matching) name

-- the three selections: by the destination port
abbrev pub for_port : ℕ → List Placed → List Placed
for_port port chains = narrowed (names_port port) is_any_port chains

-- by the transport protocol
abbrev pub for_transport : Option Tls → List Placed → List Placed
for_transport tls chains = narrowed (names_transport (transport_of tls)) is_any_transport chains

-- by the first name that the client offers and a chain lists
abbrev pub for_names : Option Tls → List Placed → List Placed
for_names tls chains = narrowed (names_agreed (agreed_name (offered tls) chains)) is_any_name chains

-- The chains are pruned by port, then by transport protocol, then by application protocols, and nothing goes back.
abbrev pub prune : List Placed → Case → List Placed
prune chains case = for_names case.tls (for_transport case.tls (for_port case.port chains))

-- the position of the first chain that is left
unfoldable pub chosen : Listener → Case → Option ℕ
chosen listener case = option_map (λ c. c.position) (slice_get (prune (placed_from 0 listener.chains) case) 0)
