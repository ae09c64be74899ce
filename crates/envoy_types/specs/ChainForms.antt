-- The JSON of filter chains (Envoy v3 API reference, `config.listener.v3.FilterChain` and `FilterChainMatch`), and which
-- chains clash.
use Rattle.std.specs.Prelude.{ℕ, ◌==◌, Bool, true, false, not, ◌&&◌, List, [], ◌∷◌, ◌++◌, Option, Some, None, is_some, unwrap_or}
use Rattle.std.specs.Prelude.{◌+◌, if◌then◌else◌}
use Rattle.std.specs.List.{list_all, list_any}
use Rattle.std.specs.Str.{bytes_eq}
use Rattle.serde_json.specs.Data.{Data, string}
use Rattle.mesh_doc.specs.Faults.{Check, Faults, none, joined, ◌⨾◌, unless}
use Rattle.mesh_doc.specs.Fields.{strict, optional_written, optional_written_in, required_written, required_written_in}
use Rattle.mesh_doc.specs.Kinds.{number_in, text_faults, text_in}
use Rattle.mesh_doc.specs.Lists.{listed_written, listed_written_in}
use Rattle.mesh_doc.specs.Places.{Steps, at_index}
use Rattle.mesh_doc.specs.Tested.{tested}
use Rattle.mesh_doc.specs.declared.reason.Reason.TheVariants as reason
use Rattle.envoy_types.specs.Chosen.{same_transport}
use Rattle.envoy_types.specs.FilterForms.{body_faults, body_in, body_is_printable, body_written}
use Rattle.envoy_types.specs.SmallForms.{is_short_list, is_within, is_written, most_entries, port_faults}
use Rattle.envoy_types.specs.SocketForms.{socket_faults, socket_written}
use Rattle.envoy_types.specs.WrittenFields.{Field, field, list_field, number_written, object_of, optional_field}
use Rattle.envoy_types.specs.declared.chains.ChainMatch.{ChainMatch}
use Rattle.envoy_types.specs.declared.chains.FilterChain.{FilterChain}
use Rattle.envoy_types.specs.declared.chains.Transport.{Transport}
use Rattle.envoy_types.specs.declared.chains.Transport.TheVariants as transport
use Rattle.envoy_types.specs.declared.fixed.TheConstants.{RAW_BUFFER, TLS}
use Rattle.envoy_types.specs.declared.keys.TheConstants.{APPLICATION_PROTOCOLS, DESTINATION_PORT, FILTERS, FILTER_CHAIN_MATCH, NAME}
use Rattle.envoy_types.specs.declared.keys.TheConstants.{TRANSPORT_PROTOCOL, TRANSPORT_SOCKET}

-- ---- the connections that a chain is for

-- `transport_protocol`, by its words
abbrev pub transport_named : List ℕ → Option Transport
transport_named word =
    if bytes_eq word TLS.now then Some transport.Tls
    else if bytes_eq word RAW_BUFFER.now then Some transport.RawBuffer
    else None

-- one of the two words
abbrev pub transport_faults : Check
transport_faults = tested (λ word. is_some (transport_named word)) reason.BadForm

-- the protocol of the word
unfoldable pub transport_in : Data → Transport
transport_in d = unwrap_or (transport_named (text_in d)) transport.Tls

-- the word of a protocol
abbrev pub transport_word : Transport → List ℕ
transport_word transport.RawBuffer = RAW_BUFFER.now
transport_word transport.Tls = TLS.now

-- `FilterChainMatch`
unfoldable pub match_faults : Check
match_faults =
    strict (APPLICATION_PROTOCOLS.now ∷ DESTINATION_PORT.now ∷ TRANSPORT_PROTOCOL.now ∷ [])
    (listed_written APPLICATION_PROTOCOLS.now most_entries text_faults
    ⨾ optional_written DESTINATION_PORT.now port_faults
    ⨾ optional_written TRANSPORT_PROTOCOL.now transport_faults)

-- the three fields; a list that is not there is empty
unfoldable pub match_in : Data → ChainMatch
match_in d = record {
  port = optional_written_in DESTINATION_PORT.now number_in d;
  transport = optional_written_in TRANSPORT_PROTOCOL.now transport_in d;
  alpn = listed_written_in APPLICATION_PROTOCOLS.now text_in d;
}

-- a protocol as the text of its word
abbrev pub transport_written : Transport → Data
transport_written protocol = string (transport_word protocol)

-- the names of ALPN unless there are none, and port and protocol where they are asked for
unfoldable pub match_written : ChainMatch → Data
match_written matching = object_of
    (list_field APPLICATION_PROTOCOLS.now string matching.alpn
    ∷ optional_field DESTINATION_PORT.now number_written matching.port
    ∷ optional_field TRANSPORT_PROTOCOL.now transport_written matching.transport
    ∷ [])

-- no port is asked for, or one from 1 to 65,535
abbrev pub port_is_printable : Option ℕ → Bool
port_is_printable None = true
port_is_printable (Some port) = is_within 1 65535 port

-- the port in its range, and the names of ALPN within the limit of lists
unfoldable pub match_is_printable : ChainMatch → Bool
match_is_printable matching = port_is_printable matching.port && is_short_list matching.alpn

-- ---- chains

-- `FilterChain`
unfoldable pub chain_faults : Check
chain_faults =
    strict (FILTER_CHAIN_MATCH.now ∷ FILTERS.now ∷ NAME.now ∷ TRANSPORT_SOCKET.now ∷ [])
    (required_written FILTER_CHAIN_MATCH.now match_faults
    ⨾ required_written FILTERS.now body_faults
    ⨾ required_written NAME.now text_faults
    ⨾ optional_written TRANSPORT_SOCKET.now socket_faults)

-- a chain with a socket takes mutual TLS
unfoldable pub chain_in : Data → FilterChain
chain_in d = record {
  name = required_written_in NAME.now text_in d;
  matching = required_written_in FILTER_CHAIN_MATCH.now match_in d;
  mutual_tls = is_written TRANSPORT_SOCKET.now d;
  body = required_written_in FILTERS.now body_in d;
}

-- the socket, where the chain takes mutual TLS
abbrev pub socket_field : Bool → Field
socket_field mutual_tls = (TRANSPORT_SOCKET.now, if mutual_tls then Some socket_written else None)

-- all its fields, the socket only with mutual TLS
unfoldable pub chain_written : FilterChain → Data
chain_written chain = object_of
    (field FILTER_CHAIN_MATCH.now (match_written chain.matching)
    ∷ field FILTERS.now (body_written chain.body)
    ∷ field NAME.now (string chain.name)
    ∷ socket_field chain.mutual_tls
    ∷ [])

-- its match and its filters can be written; every name goes
unfoldable pub chain_is_printable : FilterChain → Bool
chain_is_printable chain = match_is_printable chain.matching && body_is_printable chain.body

-- ---- chains that clash

-- the same port, or none in both
abbrev pub same_port : Option ℕ → Option ℕ → Bool
same_port None None = true
same_port None (Some port) = false
same_port (Some port) None = false
same_port (Some port) (Some other) = port == other

-- the same transport protocol, or none in both
abbrev pub same_protocol : Option Transport → Option Transport → Bool
same_protocol None None = true
same_protocol None (Some protocol) = false
same_protocol (Some protocol) None = false
same_protocol (Some protocol) (Some other) = same_transport protocol other

-- both lists are empty, or one name stands in both
abbrev pub names_meet : List (List ℕ) → List (List ℕ) → Bool
names_meet [] [] = true
names_meet [] (name ∷ names) = false
names_meet (name ∷ names) others = list_any (λ n. list_any (bytes_eq n) others) (name ∷ names)

-- one connection could go to both alike
unfoldable pub clashes : ChainMatch → ChainMatch → Bool
clashes first second =
    same_port first.port second.port && same_protocol first.transport second.transport && names_meet first.alpn second.alpn

-- a chain clashes with one of these
abbrev pub clashes_with_one : List FilterChain → FilterChain → Bool
clashes_with_one earlier chain = list_any (λ other. clashes other.matching chain.matching) earlier

-- DuplicateMatch at each chain, from an index on, that clashes with an earlier one
abbrev pub duplicates : List FilterChain → ℕ → List FilterChain → Steps → Faults
duplicates earlier index [] at = none
duplicates earlier index (chain ∷ chains) at = joined
    (unless (not (clashes_with_one earlier chain)) reason.DuplicateMatch (at_index index at))
    (duplicates (earlier ++ chain ∷ []) (index + 1) chains at)

-- no chain clashes with a later one
abbrev pub are_distinct : List FilterChain → Bool
are_distinct [] = true
are_distinct (chain ∷ chains) = list_all (λ later. not (clashes chain.matching later.matching)) chains && are_distinct chains
