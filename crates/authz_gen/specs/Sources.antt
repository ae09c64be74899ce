-- Who a connection comes from, as a principal (Istio reference, "Authorization Policy": Source; Envoy v3 API reference,
-- `config.rbac.v3.Principal`).
use Rattle.std.specs.Prelude.{ℕ, List, ◌++◌, map}
use Rattle.mesh_net.specs.declared.cidr.Cidr.{Cidr}
use Rattle.mesh_policy.specs.Pattern.{pattern_of}
use Rattle.mesh_policy.specs.declared.policy.SourceSpec.{SourceSpec}
use Rattle.mesh_tree.specs.Tree.{tree_of}
use Rattle.mesh_tree.specs.declared.tree.Node.TheVariants as Node
use Rattle.mesh_tree.specs.declared.tree.Tree.{Tree}
use Rattle.envoy_types.specs.declared.principal.PrincipalLeaf.{PrincipalLeaf}
use Rattle.envoy_types.specs.declared.principal.PrincipalLeaf.TheVariants.{DirectRemoteIp, RemoteIp}
use Rattle.peer_name.specs.Namespace.{namespace_tree}
use Rattle.peer_name.specs.Principal.{principal_tree}
use Rattle.authz_gen.specs.Lists.{all_of, field_of}

-- the peers of a value of `principals`
abbrev pub principal_of : List ℕ → Tree PrincipalLeaf
principal_of value = principal_tree (pattern_of value)

-- those of a value of `namespaces`
abbrev pub namespace_of : List ℕ → Tree PrincipalLeaf
namespace_of value = namespace_tree (pattern_of value)

-- `direct_remote_ip`: a block of `ipBlocks`
abbrev pub source_block : Cidr → Tree PrincipalLeaf
source_block block = tree_of (Node.Leaf (DirectRemoteIp block))

-- `remote_ip`: a block of `remoteIpBlocks`
abbrev pub remote_block : Cidr → Tree PrincipalLeaf
remote_block block = tree_of (Node.Leaf (RemoteIp block))

-- The fields of a source but for those on request principals: principals, namespaces and addresses. A source without any is everyone.
unfoldable pub source_tree : SourceSpec → Tree PrincipalLeaf
source_tree source = all_of
    (field_of (map principal_of source.principals) (map principal_of source.not_principals)
    ++ field_of (map namespace_of source.namespaces) (map namespace_of source.not_namespaces)
    ++ field_of (map source_block source.ip_blocks) (map source_block source.not_ip_blocks)
    ++ field_of (map remote_block source.remote_ip_blocks) (map remote_block source.not_remote_ip_blocks))
