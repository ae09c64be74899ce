-- What becomes of a connection by the mode of its port (Istio reference, "PeerAuthentication", mutual TLS modes).
use Rattle.std.specs.Prelude.{ℕ, Bool, List, [], ◌∷◌, Option, Some, None, codes, is_some, if◌then◌else◌}
use Rattle.std.specs.List.{list_any}
use Rattle.std.specs.Str.{bytes_eq}
use Rattle.mesh_policy.specs.declared.peer.Mode.{Mode}
use Rattle.mesh_policy.specs.declared.peer.Mode.TheVariants.{Disable, Permissive, Strict}
use Rattle.mesh_policy.specs.declared.case.Tls.{Tls}

-- closed; or it goes on in plain text, with a peer whose name is known, or as TLS that is passed on unread
pub data Passage : Type 0 where
  closed : Passage
  plain : Passage
  authenticated : Passage
  opaque : Passage

-- the application protocols by which a sidecar of the mesh makes itself known
abbrev pub mesh_names : List (List ℕ)
mesh_names =
    codes "istio"
    ∷ codes "istio-peer-exchange"
    ∷ codes "istio-http/1.0"
    ∷ codes "istio-http/1.1"
    ∷ codes "istio-h2"
    ∷ []

-- one of them
abbrev pub is_mesh_name : List ℕ → Bool
is_mesh_name name = list_any (bytes_eq name) mesh_names

-- the client offers one of them, wherever in its list
abbrev pub offers_mesh_name : Tls → Bool
offers_mesh_name tls = list_any is_mesh_name tls.alpn

-- mutual TLS needs the peer's certificate
abbrev pub with_peer : Tls → Passage
with_peer tls = if is_some tls.peer then authenticated else closed

-- TLS by the mode of its port
abbrev pub tls_passage : Mode → Tls → Passage
tls_passage Strict tls = with_peer tls
tls_passage Permissive tls = if offers_mesh_name tls then with_peer tls else opaque
tls_passage Disable tls = opaque

-- a connection by the mode of its port
abbrev pub passage : Mode → Option Tls → Passage
passage Strict None = closed
passage Permissive None = plain
passage Disable None = plain
passage mode (Some tls) = tls_passage mode tls
