-- The filter chains of a port by its mutual TLS mode (Istio reference, "PeerAuthentication"; Envoy v3 API reference,
-- `config.listener.v3.FilterChainMatch`). A port that is not listed has the chains that name none.
use Rattle.std.specs.Prelude.{ℕ, Bool, true, false, List, [], ◌∷◌, ◌++◌, codes, decimal, Option, Some, None}
use Rattle.mesh_policy.specs.Connection.{mesh_names}
use Rattle.mesh_policy.specs.declared.peer.Mode.{Mode}
use Rattle.mesh_policy.specs.declared.peer.Mode.TheVariants.{Disable, Permissive, Strict}
use Rattle.mesh_policy.specs.declared.service.Protocol.{Protocol}
use Rattle.mesh_policy.specs.declared.service.Protocol.TheVariants as speaks
use Rattle.envoy_types.specs.declared.chains.ChainBody.{ChainBody}
use Rattle.envoy_types.specs.declared.chains.FilterChain.{FilterChain}
use Rattle.envoy_types.specs.declared.chains.Transport.{Transport}
use Rattle.envoy_types.specs.declared.chains.Transport.TheVariants.{RawBuffer, Tls}

-- `any` stands for the ports that are not listed
abbrev pub port_name : Option ℕ → List ℕ
port_name None = codes "any"
port_name (Some port) = decimal port

-- the cluster of a listed port, and that of connections that go on as they came
abbrev pub cluster_of : Option ℕ → List ℕ
cluster_of None = codes "InboundPassthroughCluster"
cluster_of (Some port) = codes "inbound|" ++ decimal port ++ codes "||"

-- A chain for connections to a port, with what its name ends with, which connections it takes by their transport and
-- application protocols, and whether it has the TLS socket that asks for the peer's certificate.
unfoldable pub chain_for_port : Option ℕ → (ending : List ℕ) → Option Transport → (alpn : List (List ℕ)) → (mutual_tls : Bool)
    → ChainBody → FilterChain
chain_for_port port ending transport alpn mutual_tls body = record {
  name = port_name port ++ ending;
  matching = record { port = port; transport = transport; alpn = alpn };
  mutual_tls = mutual_tls;
  body = body;
}

-- TLS that is not of the mesh is passed on unread on a TCP port, and no use to an HTTP port
abbrev pub opaque_chains : Protocol → Option ℕ → ChainBody → List FilterChain
opaque_chains speaks.Tcp port body = chain_for_port port (codes "-opaque") (Some Tls) [] false body ∷ []
opaque_chains speaks.Http port body = []

-- without mutual TLS a TCP port takes what comes, and an HTTP port plain text alone
abbrev pub open_transport : Protocol → Option Transport
open_transport speaks.Tcp = None
open_transport speaks.Http = Some RawBuffer

-- STRICT takes mutual TLS alone. PERMISSIVE takes it from sidecars of the mesh, and plain text and other TLS as they come.
-- DISABLE asks for none.
unfoldable pub chains_on : Protocol → Mode → Option ℕ → ChainBody → List FilterChain
chains_on protocol Strict port body = chain_for_port port (codes "-mtls") (Some Tls) [] true body ∷ []
chains_on protocol Permissive port body =
    chain_for_port port (codes "-mtls") (Some Tls) mesh_names true body
    ∷ chain_for_port port (codes "-plain") (Some RawBuffer) [] false body
    ∷ opaque_chains protocol port body
chains_on protocol Disable port body = chain_for_port port (codes "-plain") (open_transport protocol) [] false body ∷ []
