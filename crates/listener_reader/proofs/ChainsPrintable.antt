-- A value without fault is that of a chain that can be written, if the names in its filters rise; and chains of which none
-- clashes with an earlier one are distinct.
use Rattle.std.proofs.Common.{◌≡◌, ℕ, ◌+◌, Bool, true, false, not, ◌||◌, List, [], ◌∷◌, ◌++◌, Option, Some, None, refl, sym, ap, ◌∙◌}
use Rattle.std.proofs.lemmas.Bool.{and_from, and_parts, le-leb}
use Rattle.std.proofs.lemmas.List.Folds.{list_any-append}
use Rattle.std.specs.Bool.{⊤}
use Rattle.std.specs.List.{list_all}
use Rattle.std.specs.Option.{ForSome}
use Rattle.mesh_doc.proofs.NoFault as no_fault
use Rattle.mesh_doc.proofs.NoFault.{Ensures, ◌⨾⨾◌, anything, earlier, later, passed, strict_object}
use Rattle.mesh_doc.specs.Faults.{first, unless}
use Rattle.mesh_doc.specs.Fields.{optional_written_in}
use Rattle.mesh_doc.specs.Kinds.{number_in}
use Rattle.mesh_doc.specs.Places.{Steps, at_index}
use Rattle.mesh_doc.specs.declared.reason.Reason.TheVariants.{DuplicateMatch}
use Rattle.envoy_types.specs.ChainForms.{are_distinct, chain_faults, chain_in, chain_is_printable, clashes, clashes_with_one, duplicates}
use Rattle.envoy_types.specs.ChainForms.{match_faults, match_in, match_is_printable, port_is_printable, transport_faults, transport_in}
use Rattle.envoy_types.specs.SmallForms.{is_within, most_entries}
use Rattle.envoy_types.specs.SocketForms.{socket_faults}
use Rattle.envoy_types.specs.declared.chains.FilterChain.{FilterChain}
use Rattle.envoy_types.specs.declared.keys.TheConstants.{APPLICATION_PROTOCOLS, DESTINATION_PORT, FILTERS, FILTER_CHAIN_MATCH, NAME}
use Rattle.envoy_types.specs.declared.keys.TheConstants.{TRANSPORT_PROTOCOL, TRANSPORT_SOCKET}
use Rattle.listener_reader.proofs.FiltersPrintable.{body-printable}
use Rattle.listener_reader.proofs.PartsPrintable.{any-text, number-within}
use Rattle.listener_reader.specs.RisingNames.{body_rises}

-- ---- the connections that a chain is for

port-printable : (port : Option ℕ) → ForSome port (λ n. is_within 1 65535 n ≡ true) → port_is_printable port ≡ true
port-printable None h = refl
port-printable (Some n) h = h n refl

any-transport : Ensures transport_faults transport_in (λ _. ⊤)
any-transport = anything

match-printable : Ensures match_faults match_in (λ matching. match_is_printable matching ≡ true)
unfolding match_faults match_in match_is_printable
match-printable = strict_object _ (record {
  holds = λ d at h.
      let parts = (no_fault.listed_written APPLICATION_PROTOCOLS.now most_entries any-text
      ⨾⨾ no_fault.optional_written DESTINATION_PORT.now (number-within 1 65535)
      ⨾⨾ no_fault.optional_written TRANSPORT_PROTOCOL.now any-transport).holds d at h in
      and_from _ _ (port-printable (optional_written_in DESTINATION_PORT.now number_in d) parts.1.0) (le-leb _ most_entries parts.0.few);
})

-- ---- a chain

-- one that can be written, if the names in its filters rise
abbrev pub IsChain : FilterChain → Type 0
IsChain chain = body_rises chain.body ≡ true → chain_is_printable chain ≡ true

pub chain-printable : Ensures chain_faults chain_in IsChain
unfolding chain_faults chain_in chain_is_printable
chain-printable = strict_object _ (record {
  holds = λ d at h rise.
      let parts = (no_fault.required_written FILTER_CHAIN_MATCH.now match-printable
      ⨾⨾ no_fault.required_written FILTERS.now body-printable
      ⨾⨾ no_fault.required_written NAME.now any-text
      ⨾⨾ no_fault.optional_written TRANSPORT_SOCKET.now (anything {f = socket_faults} {value = λ v. v})).holds d at h in
      and_from _ _ parts.0 (parts.1.0 rise);
})

-- ---- chains that do not clash

either-not : (a b : Bool) → not (a || (b || false)) ≡ true → (not a ≡ true) × (not b ≡ true)
either-not true b h = cc
either-not false true h = cc
either-not false false h = (refl, refl)

-- none clashes with the earlier ones and one more
none-of-both : (earlier : List FilterChain) (chain : FilterChain) (chains : List FilterChain)
    → list_all (λ c. not (clashes_with_one (earlier ++ chain ∷ []) c)) chains ≡ true
    → (list_all (λ c. not (clashes_with_one earlier c)) chains ≡ true)
    × (list_all (λ c. not (clashes chain.matching c.matching)) chains ≡ true)
none-of-both earlier chain [] h = (refl, refl)
none-of-both earlier chain (c ∷ chains) h =
    let parts = and_parts (not (clashes_with_one (earlier ++ chain ∷ []) c))
    (list_all (λ x. not (clashes_with_one (earlier ++ chain ∷ []) x)) chains) h in
    let same = list_any-append (λ (other : FilterChain). clashes other.matching c.matching) earlier (chain ∷ []) in
    let here = either-not (clashes_with_one earlier c) (clashes chain.matching c.matching) (ap not (sym same) ∙ parts.0) in
    let behind = none-of-both earlier chain chains parts.1 in
    (and_from _ _ here.0 behind.0, and_from _ _ here.1 behind.1)

apart : (before : List FilterChain) (index : ℕ) (chains : List FilterChain) (at : Steps)
    → first (duplicates before index chains at) ≡ None
    → (list_all (λ c. not (clashes_with_one before c)) chains ≡ true) × (are_distinct chains ≡ true)
apart before index [] at h = (refl, refl)
apart before index (chain ∷ chains) at h =
    let now = first (unless (not (clashes_with_one before chain)) DuplicateMatch (at_index index at)) in
    let behind = first (duplicates (before ++ chain ∷ []) (index + 1) chains at) in
    let here = passed (not (clashes_with_one before chain)) _ (at_index index at) (earlier now behind h) in
    let rest = apart (before ++ chain ∷ []) (index + 1) chains at (later now behind h) in
    let both = none-of-both before chain chains rest.0 in
    (and_from _ _ here both.0, and_from _ _ both.1 rest.1)

pub distinct : (chains : List FilterChain) (at : Steps) → first (duplicates [] 0 chains at) ≡ None → are_distinct chains ≡ true
distinct chains at h = (apart [] 0 chains at h).1
