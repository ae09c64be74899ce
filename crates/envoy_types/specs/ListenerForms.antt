-- The JSON of listeners (Envoy v3 API reference, `config.listener.v3.Listener`): what can be wrong with a value, which
-- listener it spells, how one is written, and which can be.
use Rattle.std.specs.Prelude.{◌≡◌, ℕ, Bool, true, ◌&&◌, List, [], ◌∷◌, length, None}
use Rattle.std.specs.List.{list_all}
use Rattle.serde_json.specs.Data.{Data, string, depth}
use Rattle.mesh_doc.specs.Faults.{Check, ◌⨾◌, first}
use Rattle.mesh_doc.specs.Fields.{strict, required_written, required_written_in}
use Rattle.mesh_doc.specs.Kinds.{number_in, text_faults, text_in}
use Rattle.mesh_doc.specs.Lists.{list_in}
use Rattle.mesh_doc.specs.Places.{Steps, at_key}
use Rattle.envoy_types.specs.ChainForms.{are_distinct, chain_faults, chain_in, chain_is_printable, chain_written, duplicates}
use Rattle.envoy_types.specs.SmallForms.{any_port_faults, fixed_faults, is_within, list_that, most_chains}
use Rattle.envoy_types.specs.SocketForms.{listener_filters_faults, listener_filters_written}
use Rattle.envoy_types.specs.WrittenFields.{field, list_written, number_written, object_of, sole_field}
use Rattle.envoy_types.specs.declared.chains.FilterChain.{FilterChain}
use Rattle.envoy_types.specs.declared.chains.Listener.{Listener}
use Rattle.envoy_types.specs.declared.fixed.TheConstants.{INBOUND_DIRECTION}
use Rattle.envoy_types.specs.declared.keys.TheConstants.{ADDRESS, FILTER_CHAINS, LISTENER_FILTERS, NAME, PORT_VALUE, SOCKET_ADDRESS}
use Rattle.envoy_types.specs.declared.keys.TheConstants.{TRAFFIC_DIRECTION}

-- ---- where connections are taken

-- `config.core.v3.SocketAddress`; the text of the address is not looked at
unfoldable pub socket_address_faults : Check
socket_address_faults =
    strict (ADDRESS.now ∷ PORT_VALUE.now ∷ [])
    (required_written ADDRESS.now text_faults
    ⨾ required_written PORT_VALUE.now any_port_faults)

-- `config.core.v3.Address`
unfoldable pub address_faults : Check
address_faults = strict (SOCKET_ADDRESS.now ∷ []) (required_written SOCKET_ADDRESS.now socket_address_faults)

-- the address
unfoldable pub address_in : Data → List ℕ
address_in d = required_written_in SOCKET_ADDRESS.now (required_written_in ADDRESS.now text_in) d

-- the port
unfoldable pub port_in : Data → ℕ
port_in d = required_written_in SOCKET_ADDRESS.now (required_written_in PORT_VALUE.now number_in) d

-- an address and a port as an object
unfoldable pub address_written : List ℕ → ℕ → Data
address_written address port = sole_field SOCKET_ADDRESS.now (object_of
    (field ADDRESS.now (string address)
    ∷ field PORT_VALUE.now (number_written port)
    ∷ []))

-- ---- the chains

-- one at least
unfoldable pub chains_faults : Check
chains_faults = list_that (is_within 1 most_chains) most_chains chain_faults

-- what the chains mean, in their order
unfoldable pub chains_in : Data → List FilterChain
chains_in d = required_written_in FILTER_CHAINS.now (list_in chain_in) d

-- The chains that clash with an earlier one. Of a chain whose match has a fault any match is taken: that fault comes before.
unfoldable pub duplicate_faults : Check
duplicate_faults d at = duplicates [] 0 (chains_in d) (at_key FILTER_CHAINS.now at)

-- ---- the listener

-- clashes of chains are told last of all
unfoldable pub listener_faults : Check
listener_faults =
    strict (ADDRESS.now ∷ FILTER_CHAINS.now ∷ LISTENER_FILTERS.now ∷ NAME.now ∷ TRAFFIC_DIRECTION.now ∷ [])
    (required_written ADDRESS.now address_faults
    ⨾ required_written FILTER_CHAINS.now chains_faults
    ⨾ required_written LISTENER_FILTERS.now listener_filters_faults
    ⨾ required_written NAME.now text_faults
    ⨾ required_written TRAFFIC_DIRECTION.now (fixed_faults INBOUND_DIRECTION.now)
    ⨾ duplicate_faults)

-- the fields that may differ; a listener has no others
unfoldable pub listener_in : Data → Listener
listener_in d = record {
  name = required_written_in NAME.now text_in d;
  address = required_written_in ADDRESS.now address_in d;
  port = required_written_in ADDRESS.now port_in d;
  chains = chains_in d;
}

-- The value spells the listener: it has no fault, wherever it stands, and this is what it means. So a value spells at most one.
abbrev pub Spells : Data → Listener → Type 0
Spells d listener = ((at : Steps) → first (listener_faults d at) ≡ None) × (listener_in d ≡ listener)

-- The value in which a listener is written: no field has its default, but the action of rules and the places of tokens, which
-- are always told, and addresses stand in their one text.
unfoldable pub listener_written : Listener → Data
listener_written listener = object_of
    (field ADDRESS.now (address_written listener.address listener.port)
    ∷ field FILTER_CHAINS.now (list_written chain_written listener.chains)
    ∷ field LISTENER_FILTERS.now listener_filters_written
    ∷ field NAME.now (string listener.name)
    ∷ field TRAFFIC_DIRECTION.now (string INBOUND_DIRECTION.now)
    ∷ [])

-- A listener that has such a value: each number is in its range, each list in its limits, trees are full, names of policies
-- and providers rise, each text is one that its field takes, and no two chains clash.
unfoldable pub is_printable : Listener → Bool
is_printable listener =
    is_within 0 65535 listener.port && is_within 1 most_chains (length listener.chains)
    && list_all chain_is_printable listener.chains && are_distinct listener.chains

-- how deep the arrays and objects of a listener's JSON nest, and of a chain's
abbrev pub listener_depth : Listener → ℕ
listener_depth listener = depth (listener_written listener)

-- of a chain alone
abbrev pub chain_depth : FilterChain → ℕ
chain_depth chain = depth (chain_written chain)

-- ---- laws

-- what is written of a printable listener spells it
abbrev pub WrittenSpells : Type 0
WrittenSpells = (listener : Listener) → is_printable listener ≡ true → Spells (listener_written listener) listener

-- a value spells one listener at most
abbrev pub SpellsOne : Type 0
SpellsOne = (d : Data) (one other : Listener) → Spells d one → Spells d other → one ≡ other
