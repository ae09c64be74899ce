-- A value without fault is that of a listener that can be written, if the names in its chains rise.
use Rattle.std.proofs.Common.{◌≡◌, true, [], None, sym, subst, ap, ◌∙◌}
use Rattle.std.proofs.lemmas.Bool.{and_from}
use Rattle.serde_json.specs.Data.{Data}
use Rattle.mesh_doc.proofs.NoFault as no_fault
use Rattle.mesh_doc.proofs.NoFault.{Ensures, ◌⨾⨾◌, anything, strict_object}
use Rattle.mesh_doc.specs.Faults.{first}
use Rattle.mesh_doc.specs.Lists.{list_in}
use Rattle.mesh_doc.specs.Places.{Steps}
use Rattle.envoy_types.specs.ChainForms.{are_distinct, chain_in, chain_is_printable}
use Rattle.envoy_types.specs.ListenerForms.{address_faults, chains_faults, chains_in, duplicate_faults, is_printable, listener_faults}
use Rattle.envoy_types.specs.ListenerForms.{listener_in, port_in, socket_address_faults}
use Rattle.envoy_types.specs.SmallForms.{is_within, most_chains}
use Rattle.envoy_types.specs.SocketForms.{listener_filters_faults}
use Rattle.envoy_types.specs.declared.chains.FilterChain.{FilterChain}
use Rattle.envoy_types.specs.declared.chains.Listener.{Listener}
use Rattle.envoy_types.specs.declared.fixed.TheConstants.{INBOUND_DIRECTION}
use Rattle.envoy_types.specs.declared.keys.TheConstants.{ADDRESS, FILTER_CHAINS, LISTENER_FILTERS, NAME, PORT_VALUE, SOCKET_ADDRESS}
use Rattle.envoy_types.specs.declared.keys.TheConstants.{TRAFFIC_DIRECTION}
use Rattle.listener_reader.proofs.ChainsPrintable.{IsChain, chain-printable, distinct}
use Rattle.listener_reader.proofs.PartsPrintable.{Listed, all-pass, any-text, behind, fixed, list-that, number-within}
use Rattle.listener_reader.specs.RisingNames.{ReadCanBeWritten, body_rises, chains_rise}

address-printable : Ensures address_faults port_in (λ port. is_within 0 65535 port ≡ true)
unfolding address_faults socket_address_faults port_in
address-printable =
    strict_object _ (no_fault.required_written SOCKET_ADDRESS.now
    (strict_object _ (behind (no_fault.required_written PORT_VALUE.now (number-within 0 65535)))))

chains-printable : Ensures chains_faults (list_in chain_in) (Listed (is_within 1 most_chains) most_chains IsChain)
unfolding chains_faults
chains-printable = list-that (is_within 1 most_chains) most_chains chain-printable

clashes-none : Ensures duplicate_faults chains_in (λ chains. are_distinct chains ≡ true)
unfolding duplicate_faults
clashes-none = record { holds = λ d at h. distinct (chains_in d) _ h }

pub listener-printable : Ensures listener_faults listener_in (λ listener. chains_rise listener.chains ≡ true → is_printable listener ≡ true)
unfolding listener_faults listener_in is_printable chains_in chains_rise
listener-printable = strict_object _ (record {
  holds = λ d at h rise.
      let parts = (no_fault.required_written ADDRESS.now address-printable
      ⨾⨾ no_fault.required_written FILTER_CHAINS.now chains-printable
      ⨾⨾ no_fault.required_written LISTENER_FILTERS.now (anything {f = listener_filters_faults} {value = λ v. v})
      ⨾⨾ no_fault.required_written NAME.now any-text
      ⨾⨾ no_fault.required_written TRAFFIC_DIRECTION.now (fixed INBOUND_DIRECTION.now)
      ⨾⨾ clashes-none).holds d at h in
      let chains = chains_in d in
      let all = all-pass (λ (chain : FilterChain). body_rises chain.body) chain_is_printable chains parts.1.0.list.each rise in
      and_from _ _ (and_from _ _ (and_from _ _ parts.0 parts.1.0.fitting) all) parts.1.1.1.1.1;
})

-- so is what a value spells
pub spelled-printable : ReadCanBeWritten
spelled-printable d listener spells rise =
    let meant : is_printable (listener_in d) ≡ true =
    listener-printable.holds d [] (spells.0 []) (ap (λ (l : Listener). chains_rise l.chains) spells.1 ∙ rise) in
    subst (λ (l : Listener). is_printable l ≡ true) spells.1 meant
