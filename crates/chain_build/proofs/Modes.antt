-- Of the chains of a port the one that its protocol and mode have for the connection is left first.
use Rattle.std.proofs.Common.{◌≡◌, ℕ, Bool, true, false, List, [], ◌∷◌, Option, Some, None, codes, if◌then◌else◌, refl}
use Rattle.std.specs.List.{list_any, slice_get}
use Rattle.mesh_policy.specs.Connection.{is_mesh_name, mesh_names, offers_mesh_name}
use Rattle.mesh_policy.specs.declared.case.Tls.{Tls}
use Rattle.mesh_policy.specs.declared.peer.Mode.{Mode}
use Rattle.mesh_policy.specs.declared.peer.Mode.TheVariants.{Disable, Permissive, Strict}
use Rattle.mesh_policy.specs.declared.service.Protocol.{Protocol}
use Rattle.mesh_policy.specs.declared.service.Protocol.TheVariants.{Http, Tcp}
use Rattle.envoy_types.specs.Chosen.{is_any_name, names_agreed}
use Rattle.envoy_types.specs.declared.chains.ChainBody.{ChainBody}
use Rattle.envoy_types.specs.declared.chains.FilterChain.{FilterChain}
use Rattle.envoy_types.specs.declared.chains.Transport.TheVariants.{RawBuffer, Tls as Encrypted}
use Rattle.chain_build.specs.Chains.{chain_for_port, chains_on, open_transport}
use Rattle.chain_build.proofs.Pruned.{agreed_name, for_names, for_transport, narrowed}

module _ (port : Option ℕ) (body : ChainBody) where
  -- ---- the chains of the table

  abbrev pub strict_chain : FilterChain
  strict_chain = chain_for_port port (codes "-mtls") (Some Encrypted) [] true body

  abbrev pub mutual_chain : FilterChain
  mutual_chain = chain_for_port port (codes "-mtls") (Some Encrypted) mesh_names true body

  abbrev pub plain_chain : FilterChain
  plain_chain = chain_for_port port (codes "-plain") (Some RawBuffer) [] false body

  abbrev pub opaque_chain : FilterChain
  opaque_chain = chain_for_port port (codes "-opaque") (Some Encrypted) [] false body

  abbrev pub open_chain : Protocol → FilterChain
  open_chain protocol = chain_for_port port (codes "-plain") (open_transport protocol) [] false body

  -- the chain for TLS that is passed on unread, which an HTTP port has none for
  abbrev pub unread : Protocol → FilterChain → Option FilterChain
  unread Tcp chain = Some chain
  unread Http chain = None

  -- the chain of a mode for a connection
  abbrev pub chain_for : Protocol → Mode → Option Tls → Option FilterChain
  chain_for protocol Strict None = None
  chain_for protocol Strict (Some tls) = Some strict_chain
  chain_for protocol Permissive None = Some plain_chain
  chain_for protocol Permissive (Some tls) = if offers_mesh_name tls then Some mutual_chain else unread protocol opaque_chain
  chain_for protocol Disable None = Some (open_chain protocol)
  chain_for protocol Disable (Some tls) = unread protocol (open_chain protocol)

  -- ---- by application protocols

  -- the chain that is left of these by the names that a client offers
  abbrev left_of : List FilterChain → List (List ℕ) → Option FilterChain
  left_of chains names = slice_get (narrowed (names_agreed (agreed_name names chains)) is_any_name chains) 0

  -- a chain that lists no name is left for every offer
  strict-left : (names : List (List ℕ)) → left_of (strict_chain ∷ []) names ≡ Some strict_chain
  unfolding chain_for_port
  strict-left [] = refl
  strict-left (name ∷ names) = strict-left names

  open-left : (names : List (List ℕ)) → left_of (open_chain Tcp ∷ []) names ≡ Some (open_chain Tcp)
  unfolding chain_for_port
  open-left [] = refl
  open-left (name ∷ names) = open-left names

  -- a mesh name in the offer, wherever it stands, leads to mutual TLS
  two-left : (names : List (List ℕ))
      → left_of (mutual_chain ∷ opaque_chain ∷ []) names ≡ (if list_any is_mesh_name names then Some mutual_chain else Some opaque_chain)
  unfolding chain_for_port
  two-left [] = refl
  two-left (name ∷ names) = at (is_mesh_name name) refl (two-left names) where
    at : (b : Bool) → is_mesh_name name ≡ b
        → left_of (mutual_chain ∷ opaque_chain ∷ []) names
        ≡ (if list_any is_mesh_name names then Some mutual_chain else Some opaque_chain)
        → left_of (mutual_chain ∷ opaque_chain ∷ []) (name ∷ names)
        ≡ (if list_any is_mesh_name (name ∷ names) then Some mutual_chain else Some opaque_chain)
    at true e inner = rw (e, e) refl
    at false e inner = rw e inner

  -- and none leaves no chain where there is no other
  one-left : (names : List (List ℕ)) → left_of (mutual_chain ∷ []) names ≡ (if list_any is_mesh_name names then Some mutual_chain else None)
  unfolding chain_for_port
  one-left [] = refl
  one-left (name ∷ names) = at (is_mesh_name name) refl (one-left names) where
    at : (b : Bool) → is_mesh_name name ≡ b
        → left_of (mutual_chain ∷ []) names ≡ (if list_any is_mesh_name names then Some mutual_chain else None)
        → left_of (mutual_chain ∷ []) (name ∷ names)
        ≡ (if list_any is_mesh_name (name ∷ names) then Some mutual_chain else None)
    at true e inner = rw (e, e) refl
    at false e inner = rw e inner

  -- ---- the table

  pub left : (protocol : Protocol) (mode : Mode) (tls : Option Tls)
      → slice_get (for_names tls (for_transport tls (chains_on protocol mode port body))) 0 ≡ chain_for protocol mode tls
  unfolding chains_on chain_for_port
  left protocol Strict None = refl
  left protocol Strict (Some tls) = strict-left tls.alpn
  left Tcp Permissive None = refl
  left Http Permissive None = refl
  left Tcp Permissive (Some tls) = two-left tls.alpn
  left Http Permissive (Some tls) = one-left tls.alpn
  left Tcp Disable None = refl
  left Http Disable None = refl
  left Tcp Disable (Some tls) = open-left tls.alpn
  left Http Disable (Some tls) = refl
