-- What the filter chains that are left have in common, after each pruning (Envoy v3 API reference,
-- `config.listener.v3.FilterChainMatch`).
use Rattle.std.specs.Prelude.{ℕ, Bool, ◌&&◌, List, find, Option, Some, None, if◌then◌else◌}
use Rattle.std.specs.List.{list_any, position_from, position_or_len}
use Rattle.envoy_types.specs.Chosen.{is_any_name, is_any_port, is_any_transport, lists_name, names_port, names_transport}
use Rattle.envoy_types.specs.declared.chains.ChainMatch.{ChainMatch}
use Rattle.envoy_types.specs.declared.chains.FilterChain.{FilterChain}
use Rattle.envoy_types.specs.declared.chains.Transport.{Transport}

-- the chain names this port, or, for none, no port
abbrev pub has_port : Option ℕ → ChainMatch → Bool
has_port None matching = is_any_port matching
has_port (Some port) matching = names_port port matching

-- the same of the transport protocol
abbrev pub has_transport : Option Transport → ChainMatch → Bool
has_transport None matching = is_any_transport matching
has_transport (Some transport) matching = names_transport transport matching

-- and of application protocols, of which it may list several
abbrev pub has_name : Option (List ℕ) → ChainMatch → Bool
has_name None matching = is_any_name matching
has_name (Some name) matching = lists_name name matching

-- the chain is left by the first two
abbrev pub is_open : Option ℕ → Option Transport → ChainMatch → Bool
is_open port transport matching = has_port port matching && has_transport transport matching

-- the connection's port, where a chain names it
abbrev pub port_left : List FilterChain → ℕ → Option ℕ
port_left chains port = if list_any (λ c. names_port port c.matching) chains then Some port else None

-- its transport protocol, where a chain that is left names it
abbrev pub transport_left : List FilterChain → Option ℕ → Transport → Option Transport
transport_left chains port transport =
    if list_any (λ c. has_port port c.matching && names_transport transport c.matching) chains then Some transport else None

-- where the first offered name stands that a chain which is left lists
abbrev pub first_agreed : List FilterChain → Option ℕ → Option Transport → List (List ℕ) → ℕ
first_agreed chains port transport names =
    position_or_len (λ name. list_any (λ c. is_open port transport c.matching && lists_name name c.matching) chains) names

-- that name
abbrev pub name_left : List FilterChain → Option ℕ → Option Transport → List (List ℕ) → Option (List ℕ)
name_left chains port transport names =
    find (λ name. list_any (λ c. is_open port transport c.matching && lists_name name c.matching) chains) names

-- where the first chain stands that is left by all three
abbrev pub first_left : List FilterChain → Option ℕ → Option Transport → Option (List ℕ) → Option ℕ
first_left chains port transport name = position_from (λ c. is_open port transport c.matching && has_name name c.matching) 0 chains
