-- What is written of filter chains is read back, and distinct chains do not clash.
use Rattle.std.proofs.Common.{◌≡◌, ℕ, ◌+◌, Bool, true, false, not, List, [], ◌∷◌, ◌++◌, Option, Some, None, is_some, refl, ap, ◌∙◌}
use Rattle.std.proofs.lemmas.Bool.{and_parts, not-true, or_from, or_parts}
use Rattle.std.specs.List.{AllByRecursion, list_all, list_any}
use Rattle.serde_json.specs.Data.{string}
use Rattle.mesh_doc.specs.Faults.{first}
use Rattle.mesh_doc.specs.Fields.{optional_written}
use Rattle.mesh_doc.specs.Kinds.{number_in, text_in}
use Rattle.mesh_doc.specs.Known.{is_known}
use Rattle.mesh_doc.specs.Places.{Steps}
use Rattle.envoy_types.proofs.FieldsBack.{both, get-object, none-in-both, strict-object}
use Rattle.envoy_types.proofs.FiltersBack.{body-back}
use Rattle.envoy_types.proofs.ObjectsBack.{absent-at, optional-at, optional-field, required-field, texts-back}
use Rattle.envoy_types.proofs.PartsBack.{Back, option-all, number-within-back, tested-back, text-back}
use Rattle.envoy_types.proofs.SocketsBack.{socket-passes}
use Rattle.envoy_types.specs.ChainForms.{are_distinct, chain_faults, chain_in, chain_is_printable, chain_written, clashes}
use Rattle.envoy_types.specs.ChainForms.{clashes_with_one, duplicates, match_faults, match_in, match_is_printable, match_written}
use Rattle.envoy_types.specs.ChainForms.{port_is_printable, socket_field, transport_faults, transport_in, transport_word, transport_written}
use Rattle.envoy_types.specs.FilterForms.{body_in, body_written}
use Rattle.envoy_types.specs.SmallForms.{is_within, is_written, port_faults}
use Rattle.envoy_types.specs.SocketForms.{socket_faults, socket_written}
use Rattle.envoy_types.specs.WrittenFields.{Field, field, list_field, number_written, object_of, optional_field}
use Rattle.envoy_types.specs.declared.chains.ChainMatch.{ChainMatch}
use Rattle.envoy_types.specs.declared.chains.FilterChain.{FilterChain}
use Rattle.envoy_types.specs.declared.chains.Transport.{Transport}
use Rattle.envoy_types.specs.declared.chains.Transport.TheVariants as transport
use Rattle.envoy_types.specs.declared.keys.TheConstants.{APPLICATION_PROTOCOLS, DESTINATION_PORT, FILTERS, FILTER_CHAIN_MATCH, NAME}
use Rattle.envoy_types.specs.declared.keys.TheConstants.{TRANSPORT_PROTOCOL, TRANSPORT_SOCKET}

-- ---- the connections that a chain is for

transport-back : (protocol : Transport) → Back transport_faults transport_in (transport_written protocol) protocol
unfolding transport_in text_in
transport-back transport.RawBuffer = record { passes = (tested-back _ _ (transport_word transport.RawBuffer) refl).passes; back = refl }
transport-back transport.Tls = record { passes = (tested-back _ _ (transport_word transport.Tls) refl).passes; back = refl }

-- nothing is asked of what is there
any-option : {A : Type 0} (o : Option A) → option-all (λ _. true) o ≡ true
any-option None = refl
any-option (Some x) = refl

all-ports : (o : Option ℕ) → port_is_printable o ≡ true → option-all (is_within 1 65535) o ≡ true
all-ports None h = refl
all-ports (Some port) h = h

match-path : {one other : ChainMatch} → one.port ≡ other.port → one.transport ≡ other.transport → one.alpn ≡ other.alpn → one ≡ other
match-path e f g = λ i. record { port = e i; transport = f i; alpn = g i }

match-back : (matching : ChainMatch) → match_is_printable matching ≡ true
    → Back match_faults match_in (match_written matching) matching
unfolding match_faults match_in match_written match_is_printable is_known
match-back matching h =
    let fs : List Field =
    list_field APPLICATION_PROTOCOLS.now string matching.alpn
    ∷ optional_field DESTINATION_PORT.now number_written matching.port
    ∷ optional_field TRANSPORT_PROTOCOL.now transport_written matching.transport
    ∷ [] in
    let names = texts-back APPLICATION_PROTOCOLS.now (object_of fs) matching.alpn (get-object APPLICATION_PROTOCOLS.now fs refl)
    (and_parts _ _ h).1 in
    let port = optional-field fs refl DESTINATION_PORT.now port_faults number_in number_written (is_within 1 65535)
    (number-within-back 1 65535) matching.port refl (all-ports matching.port (and_parts _ _ h).0) in
    let protocol = optional-field fs refl TRANSPORT_PROTOCOL.now transport_faults transport_in transport_written (λ _. true)
    (λ t _. transport-back t) matching.transport refl (any-option matching.transport) in
    record {
      passes = strict-object (APPLICATION_PROTOCOLS.now ∷ DESTINATION_PORT.now ∷ TRANSPORT_PROTOCOL.now ∷ []) _ fs refl
          (both names.passes (both port.passes protocol.passes));
      back = match-path port.back protocol.back names.back;
    }

-- ---- chains

chain-path : {one other : FilterChain} → one.name ≡ other.name → one.matching ≡ other.matching → one.mutual_tls ≡ other.mutual_tls
    → one.body ≡ other.body → one ≡ other
chain-path e f g h = λ i. record { name = e i; matching = f i; mutual_tls = g i; body = h i }

abbrev chain_fields : FilterChain → List Field
chain_fields chain =
    field FILTER_CHAIN_MATCH.now (match_written chain.matching)
    ∷ field FILTERS.now (body_written chain.body)
    ∷ field NAME.now (string chain.name)
    ∷ socket_field chain.mutual_tls
    ∷ []

-- the socket, where the chain has one
socket-field-back : (chain : FilterChain) (mutual_tls : Bool) → chain.mutual_tls ≡ mutual_tls
    → Back (optional_written TRANSPORT_SOCKET.now socket_faults) (is_written TRANSPORT_SOCKET.now) (object_of (chain_fields chain))
    mutual_tls
socket-field-back chain true e = record {
  passes = optional-at (chain_fields chain) refl TRANSPORT_SOCKET.now _ socket_written (rw e refl) socket-passes;
  back = ap (λ o. is_some o) (get-object TRANSPORT_SOCKET.now (chain_fields chain) refl) ∙ rw e refl;
}
socket-field-back chain false e = record {
  passes = absent-at (chain_fields chain) refl TRANSPORT_SOCKET.now _ (rw e refl);
  back = ap (λ o. is_some o) (get-object TRANSPORT_SOCKET.now (chain_fields chain) refl) ∙ rw e refl;
}

pub chain-back : (chain : FilterChain) → chain_is_printable chain ≡ true → Back chain_faults chain_in (chain_written chain) chain
unfolding chain_faults chain_in chain_written chain_is_printable is_known
chain-back chain h =
    let fs : List Field = chain_fields chain in
    let matching = required-field fs refl FILTER_CHAIN_MATCH.now _ match_in _ _ refl (match-back chain.matching (and_parts _ _ h).0) in
    let body = required-field fs refl FILTERS.now _ body_in _ _ refl (body-back chain.body (and_parts _ _ h).1) in
    let name = required-field fs refl NAME.now _ text_in _ _ refl (text-back chain.name) in
    let socket = socket-field-back chain chain.mutual_tls refl in
    record {
      passes = strict-object (FILTER_CHAIN_MATCH.now ∷ FILTERS.now ∷ NAME.now ∷ TRANSPORT_SOCKET.now ∷ []) _ fs refl
          (both matching.passes (both body.passes (both name.passes socket.passes)));
      back = chain-path name.back matching.back socket.back body.back;
    }

-- ---- chains that do not clash

-- no chain clashes with an earlier one
abbrev AreApart : List FilterChain → List FilterChain → Type 0
AreApart earlier chains = AllByRecursion (λ chain. clashes_with_one earlier chain ≡ false) chains

none-earlier : (chains : List FilterChain) → AreApart [] chains
none-earlier [] = tt
none-earlier (chain ∷ chains) = (refl, none-earlier chains)

none-more : {A : Type 0} (test : A → Bool) (xs : List A) (y : A) → list_any test xs ≡ false → test y ≡ false
    → list_any test (xs ++ y ∷ []) ≡ false
none-more test [] y h last = or_from (test y) false last refl
none-more test (x ∷ xs) y h last =
    let apart = or_parts (test x) (list_any test xs) h in
    or_from (test x) (list_any test (xs ++ y ∷ [])) apart.0 (none-more test xs y apart.1 last)

one-more : (earlier : List FilterChain) (chain : FilterChain) (chains : List FilterChain)
    → list_all (λ later. not (clashes chain.matching later.matching)) chains ≡ true → AreApart earlier chains
    → AreApart (earlier ++ chain ∷ []) chains
one-more earlier chain [] h apart = tt
one-more earlier chain (later ∷ chains) h apart = (
  none-more (λ other. clashes other.matching later.matching) earlier chain apart.0 (not-true _ (and_parts _ _ h).0),
  one-more earlier chain chains (and_parts _ _ h).1 apart.1,
)

apart-from : (earlier : List FilterChain) (index : ℕ) (chains : List FilterChain) (at : Steps) → are_distinct chains ≡ true
    → AreApart earlier chains → first (duplicates earlier index chains at) ≡ None
apart-from earlier index [] at h apart = refl
apart-from earlier index (chain ∷ chains) at h apart =
    let more = one-more earlier chain chains (and_parts _ _ h).0 apart.1 in
    none-in-both _ _ (rw apart.0 refl) (apart-from (earlier ++ chain ∷ []) (index + 1) chains at (and_parts _ _ h).1 more)

-- distinct chains have no fault
pub distinct-pass : (chains : List FilterChain) → are_distinct chains ≡ true → (at : Steps) → first (duplicates [] 0 chains at) ≡ None
distinct-pass chains h at = apart-from [] 0 chains at h (none-earlier chains)
