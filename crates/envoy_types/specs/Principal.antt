-- When a leaf of a principal holds (Envoy v3 API reference, `config.rbac.v3.Principal`).
use Rattle.std.specs.Prelude.{ℕ, Bool, true, ◌&&◌, List, Option, Some, None, is_some}
use Rattle.mesh_net.specs.Cidr.{in_network}
use Rattle.mesh_policy.specs.Attributes.{Seen, seen_peer, seen_request}
use Rattle.mesh_policy.specs.declared.case.Case.{Case}
use Rattle.envoy_types.specs.Headers.{header_holds}
use Rattle.envoy_types.specs.Metadata.{claim_holds}
use Rattle.envoy_types.specs.State.{holds_of}
use Rattle.envoy_types.specs.Strings.{string_holds}
use Rattle.envoy_types.specs.declared.principal.PrincipalLeaf.{PrincipalLeaf}
use Rattle.envoy_types.specs.declared.principal.PrincipalLeaf.TheVariants.{Authenticated, DirectRemoteIp, RemoteIp, Header, Metadata}
use Rattle.envoy_types.specs.declared.strings.StringMatcher.{StringMatcher}

-- the peer's whole name, by a matcher; without one every name
abbrev pub name_holds : Option StringMatcher → List ℕ → Bool
name_holds None name = true
name_holds (Some m) name = string_holds m name

-- A peer whose name is not known has none. The last two are of requests, and hold of no connection without one that is
-- judged. A block holds an address of its own family.
abbrev pub leaf_holds : PrincipalLeaf → Case → Seen → Bool
leaf_holds (Authenticated name) case seen = holds_of (name_holds name) (seen_peer case seen)
leaf_holds (DirectRemoteIp block) case seen = in_network block.addr block.len case.source
leaf_holds (RemoteIp block) case seen = in_network block.addr block.len case.remote
leaf_holds (Header h) case seen = holds_of (header_holds h) (seen_request case seen)
leaf_holds (Metadata path value) case seen = is_some (seen_request case seen) && claim_holds value path seen.claims
