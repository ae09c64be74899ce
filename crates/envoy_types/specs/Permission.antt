-- When a leaf of a permission holds (Envoy v3 API reference, `config.rbac.v3.Permission`).
use Rattle.std.specs.Prelude.{ℕ, ◌==◌, Bool, List, [], Option, unwrap_or}
use Rattle.std.specs.Option.{option_and_then}
use Rattle.mesh_net.specs.Cidr.{in_network}
use Rattle.mesh_policy.specs.Attributes.{Seen, seen_request}
use Rattle.mesh_policy.specs.Path.{path_of}
use Rattle.mesh_policy.specs.Template.{template_holds}
use Rattle.mesh_policy.specs.declared.case.Case.{Case}
use Rattle.mesh_policy.specs.declared.case.Tls.{Tls}
use Rattle.envoy_types.specs.Headers.{header_holds}
use Rattle.envoy_types.specs.State.{holds_of}
use Rattle.envoy_types.specs.Strings.{string_holds}
use Rattle.envoy_types.specs.declared.permission.PermissionLeaf.{PermissionLeaf}
use Rattle.envoy_types.specs.declared.permission.PermissionLeaf.TheVariants.{Header, UrlPath, UriTemplate, DestinationIp}
use Rattle.envoy_types.specs.declared.permission.PermissionLeaf.TheVariants.{DestinationPort, ServerName}

-- the server name that the client asked for, and the empty text where it asked for none
abbrev pub server_name : Option Tls → List ℕ
server_name tls = unwrap_or (option_and_then (λ t. t.sni) tls) []

-- The first three are of requests, and hold of no connection without one that is judged. The path is that without its
-- query and fragment. A block holds an address of its own family.
abbrev pub leaf_holds : PermissionLeaf → Case → Seen → Bool
leaf_holds (Header h) case seen = holds_of (header_holds h) (seen_request case seen)
leaf_holds (UrlPath m) case seen = holds_of (λ r. string_holds m (path_of r.path)) (seen_request case seen)
leaf_holds (UriTemplate uri) case seen = holds_of (λ r. template_holds uri (path_of r.path)) (seen_request case seen)
leaf_holds (DestinationIp block) case seen = in_network block.addr block.len case.destination
leaf_holds (DestinationPort port) case seen = port == case.port
leaf_holds (ServerName m) case seen = string_holds m (server_name case.tls)
