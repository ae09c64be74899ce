-- What is written of a printable listener spells it, and a value spells one listener at most.
use Rattle.std.proofs.Common.{◌≡◌, ℕ, true, nat_le, List, [], ◌∷◌, length, refl, sym, ◌∙◌}
use Rattle.std.proofs.lemmas.Bool.{and_parts}
use Rattle.std.specs.List.{list_all}
use Rattle.serde_json.specs.Data.{string}
use Rattle.mesh_doc.specs.Faults.{first}
use Rattle.mesh_doc.specs.Fields.{required_written, required_written_in}
use Rattle.mesh_doc.specs.Kinds.{number_in, text_faults, text_in}
use Rattle.mesh_doc.specs.Known.{is_known}
use Rattle.mesh_doc.specs.Lists.{list_in}
use Rattle.mesh_doc.specs.Places.{at_key}
use Rattle.envoy_types.proofs.ChainsBack.{chain-back, distinct-pass}
use Rattle.envoy_types.proofs.FieldsBack.{Passes, both, strict-object}
use Rattle.envoy_types.proofs.ObjectsBack.{required-at, required-field, required-means}
use Rattle.envoy_types.proofs.PartsBack.{Back, fixed-passes, list-that-back, number-within-back, text-back}
use Rattle.envoy_types.proofs.SocketsBack.{listener-filters-pass}
use Rattle.envoy_types.specs.ChainForms.{are_distinct, chain_faults, chain_in, chain_is_printable, chain_written}
use Rattle.envoy_types.specs.ListenerForms.{SpellsOne, Spells, address_faults, address_in, address_written, chains_faults}
use Rattle.envoy_types.specs.ListenerForms.{chains_in, duplicate_faults, is_printable, listener_faults, listener_in, listener_written}
use Rattle.envoy_types.specs.ListenerForms.{port_in, socket_address_faults}
use Rattle.envoy_types.specs.SmallForms.{any_port_faults, is_within, most_chains}
use Rattle.envoy_types.specs.SocketForms.{listener_filters_written}
use Rattle.envoy_types.specs.WrittenFields.{Field, field, list_written, number_written, object_of}
use Rattle.envoy_types.specs.declared.chains.FilterChain.{FilterChain}
use Rattle.envoy_types.specs.declared.chains.Listener.{Listener}
use Rattle.envoy_types.specs.declared.fixed.TheConstants.{INBOUND_DIRECTION}
use Rattle.envoy_types.specs.declared.keys.TheConstants.{ADDRESS, FILTER_CHAINS, LISTENER_FILTERS, NAME, PORT_VALUE, SOCKET_ADDRESS}
use Rattle.envoy_types.specs.declared.keys.TheConstants.{TRAFFIC_DIRECTION}

-- ---- where connections are taken

module _ (address : List ℕ) (port : ℕ) (h : is_within 0 65535 port ≡ true) where
  abbrev inner : List Field
  inner = field ADDRESS.now (string address) ∷ field PORT_VALUE.now (number_written port) ∷ []

  abbrev outer : List Field
  outer = field SOCKET_ADDRESS.now (object_of inner) ∷ []

  text-field-back : Back (required_written ADDRESS.now text_faults) (required_written_in ADDRESS.now text_in) (object_of inner) address
  text-field-back = required-field inner refl ADDRESS.now text_faults text_in _ _ refl (text-back address)

  port-field-back : Back (required_written PORT_VALUE.now any_port_faults) (required_written_in PORT_VALUE.now number_in)
      (object_of inner) port
  port-field-back = required-field inner refl PORT_VALUE.now _ number_in _ _ refl (number-within-back 0 65535 port h)

  address-passes : Passes address_faults (address_written address port)
  unfolding address_faults address_written socket_address_faults is_known
  address-passes =
      strict-object (SOCKET_ADDRESS.now ∷ []) _ outer refl
      (required-at outer refl SOCKET_ADDRESS.now _ _ refl
      (strict-object (ADDRESS.now ∷ PORT_VALUE.now ∷ []) _ inner refl (both text-field-back.passes port-field-back.passes)))

  address-back : address_in (address_written address port) ≡ address
  unfolding address_in address_written
  address-back =
      required-means outer refl SOCKET_ADDRESS.now (required_written_in ADDRESS.now text_in) _ _ refl text-field-back.back

  port-back : port_in (address_written address port) ≡ port
  unfolding port_in address_written
  port-back =
      required-means outer refl SOCKET_ADDRESS.now (required_written_in PORT_VALUE.now number_in) _ _ refl port-field-back.back

-- ---- the chains

within-most : (least most n : ℕ) → is_within least most n ≡ true → nat_le n most ≡ true
within-most least most n h = (and_parts (nat_le least n) (nat_le n most) h).1

chains-back : (chains : List FilterChain) → is_within 1 most_chains (length chains) ≡ true → list_all chain_is_printable chains ≡ true
    → Back chains_faults (list_in chain_in) (list_written chain_written chains) chains
unfolding chains_faults
chains-back chains few h =
    list-that-back chain_faults chain_in chain_written chain_is_printable chain-back (is_within 1 most_chains) most_chains chains
    (within-most 1 most_chains (length chains) few) few h

-- ---- the listener

listener-path : {one other : Listener} → one.name ≡ other.name → one.address ≡ other.address → one.port ≡ other.port
    → one.chains ≡ other.chains → one ≡ other
listener-path e f g h = λ i. record { name = e i; address = f i; port = g i; chains = h i }

-- the parts of what is asked of a listener
pub record IsPrintable (listener : Listener) : Type 0 where
  pub port : is_within 0 65535 listener.port ≡ true
  pub few : is_within 1 most_chains (length listener.chains) ≡ true
  pub chains : list_all chain_is_printable listener.chains ≡ true
  pub distinct : are_distinct listener.chains ≡ true

printable-parts : (listener : Listener) → is_printable listener ≡ true → IsPrintable listener
unfolding is_printable
printable-parts listener h =
    let three = and_parts _ (are_distinct listener.chains) h in
    let two = and_parts _ (list_all chain_is_printable listener.chains) three.0 in
    let one = and_parts (is_within 0 65535 listener.port) (is_within 1 most_chains (length listener.chains)) two.0 in
    record { port = one.0; few = one.1; chains = two.1; distinct = three.1 }

listener-back : (listener : Listener) → IsPrintable listener → Back listener_faults listener_in (listener_written listener) listener
unfolding listener_faults listener_in listener_written chains_in duplicate_faults is_known
listener-back listener can =
    let fs : List Field =
    field ADDRESS.now (address_written listener.address listener.port)
    ∷ field FILTER_CHAINS.now (list_written chain_written listener.chains)
    ∷ field LISTENER_FILTERS.now listener_filters_written
    ∷ field NAME.now (string listener.name)
    ∷ field TRAFFIC_DIRECTION.now (string INBOUND_DIRECTION.now)
    ∷ [] in
    let name = required-field fs refl NAME.now _ text_in _ _ refl (text-back listener.name) in
    let chains = required-field fs refl FILTER_CHAINS.now _ (list_in chain_in) _ _ refl (chains-back listener.chains can.few can.chains) in
    let all : chains_in (object_of fs) ≡ listener.chains = chains.back in
    record {
      passes = strict-object (ADDRESS.now ∷ FILTER_CHAINS.now ∷ LISTENER_FILTERS.now ∷ NAME.now ∷ TRAFFIC_DIRECTION.now ∷ []) _ fs refl
          (both (required-at fs refl ADDRESS.now _ _ refl (address-passes listener.address listener.port can.port))
          (both chains.passes
          (both (required-at fs refl LISTENER_FILTERS.now _ _ refl listener-filters-pass)
          (both name.passes
          (both (required-at fs refl TRAFFIC_DIRECTION.now _ _ refl (fixed-passes INBOUND_DIRECTION.now))
          (record { clean = λ at. rw all (distinct-pass listener.chains can.distinct (at_key FILTER_CHAINS.now at)) }))))));
      back = listener-path name.back
          (required-means fs refl ADDRESS.now address_in _ _ refl (address-back listener.address listener.port can.port))
          (required-means fs refl ADDRESS.now port_in _ _ refl (port-back listener.address listener.port can.port))
          all;
    }

-- what is written of a printable listener spells it
pub written-spells : (listener : Listener) → is_printable listener ≡ true → Spells (listener_written listener) listener
written-spells listener h =
    let known = listener-back listener (printable-parts listener h) in
    (known.passes.clean, known.back)

-- a value spells one listener at most
pub spells-one : SpellsOne
spells-one d one other first second = sym first.1 ∙ second.1
