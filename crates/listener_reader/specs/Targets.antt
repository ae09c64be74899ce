-- The kinds of connections that filter chains are for: a port, a transport protocol and an application protocol, each of them or
-- none. Two chains clash where they are for one kind, so that each kind is looked up among those of the earlier chains.
use Rattle.std.specs.Prelude.{ℕ, Bool, true, false, ◌&&◌, List, [], ◌∷◌, map, Option, Some, None}
use Rattle.std.specs.BTreeSet.{BTreeSet}
use Rattle.std.specs.List.{list_any}
use Rattle.std.specs.Option.{option_copied}
use Rattle.std.specs.Str.{bytes_eq}
use Rattle.envoy_types.specs.ChainForms.{same_port, same_protocol}
use Rattle.envoy_types.specs.declared.chains.ChainMatch.{ChainMatch}
use Rattle.envoy_types.specs.declared.chains.FilterChain.{FilterChain}
use Rattle.envoy_types.specs.declared.chains.Transport.{Transport}
use Rattle.envoy_types.specs.declared.chains.Transport.TheVariants as transport
use Rattle.listener_reader.specs.declared.clashes.Key.{Key}
use Rattle.listener_reader.specs.declared.clashes.Protocol.{Protocol}
use Rattle.listener_reader.specs.declared.clashes.Protocol.TheVariants as protocol

-- a kind of connections
pub record Kind : Type 0 where
  -- the destination port, or none
  pub port : Option ℕ
  -- the transport protocol, or none
  pub transport : Option Transport
  -- the application protocol, or none
  pub name : Option (List ℕ)

-- the same application protocol, or none in both
abbrev pub same_name : Option (List ℕ) → Option (List ℕ) → Bool
same_name None None = true
same_name None (Some name) = false
same_name (Some name) None = false
same_name (Some name) (Some other) = bytes_eq name other

-- all three are the same
abbrev pub same : Kind → Kind → Bool
same kind other =
    (same_port kind.port other.port && same_protocol kind.transport other.transport) && same_name kind.name other.name

-- the application protocols one by one, where the empty list has none
abbrev pub names_of : List (List ℕ) → List (Option (List ℕ))
names_of [] = None ∷ []
names_of (name ∷ names) = map Some (name ∷ names)

-- the port and the transport protocol of a chain with an application protocol
abbrev pub kind_of : ChainMatch → Option (List ℕ) → Kind
kind_of matching name = record { port = matching.port; transport = matching.transport; name = name }

-- the kinds that the chain is for
abbrev pub kinds_of : ChainMatch → List Kind
kinds_of matching = map (kind_of matching) (names_of matching.alpn)

-- the chain is for connections of this kind
abbrev pub is_for : Kind → ChainMatch → Bool
is_for kind matching = list_any (λ own. same own kind) (kinds_of matching)

-- one of the chains is
unfoldable pub one_is_for : List FilterChain → Kind → Bool
one_is_for chains kind = list_any (λ chain. is_for kind chain.matching) chains

-- ---- kinds that are kept in a set

-- the transport protocol that is kept, or none
abbrev pub transport_of : Protocol → Option Transport
transport_of protocol.Unnamed = None
transport_of protocol.RawBuffer = Some transport.RawBuffer
transport_of protocol.Tls = Some transport.Tls

-- the kind that is kept
abbrev pub kind_in : Key → Kind
kind_in key = record { port = key.port; transport = transport_of key.protocol; name = option_copied key.name }

-- the set has this kind
unfoldable pub has : BTreeSet Key → Kind → Bool
has kinds kind = list_any (λ key. same kind (kind_in key)) kinds.keys
