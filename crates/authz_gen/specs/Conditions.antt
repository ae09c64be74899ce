-- The conditions of a rule (Istio reference, "Authorization Policy Conditions"). Those on what is asked for are permissions, and
-- those on who asks, headers among them, are principals (Envoy v3 API reference, `config.rbac.v3`). The keys on the token of a
-- request give neither yet.
use Rattle.std.specs.Prelude.{ℕ, List, [], ◌∷◌, map}
use Rattle.mesh_net.specs.declared.cidr.Cidr.{Cidr}
use Rattle.mesh_policy.specs.Pattern.{pattern_of}
use Rattle.mesh_policy.specs.declared.condition.BlockKey.TheVariants.{SourceIp, RemoteIp, DestinationIp}
use Rattle.mesh_policy.specs.declared.condition.Condition.{Condition}
use Rattle.mesh_policy.specs.declared.condition.Condition.TheVariants.{Words, Blocks, Ports}
use Rattle.mesh_policy.specs.declared.condition.TextKey.TheVariants.{SourcePrincipal, SourceNamespace, Sni}
use Rattle.mesh_policy.specs.declared.condition.TextKey.TheVariants.{Header, AuthPrincipal, Audiences, Presenter, Claim}
use Rattle.mesh_tree.specs.Tree.{tree_of}
use Rattle.mesh_tree.specs.declared.tree.Node.TheVariants as Node
use Rattle.mesh_tree.specs.declared.tree.Tree.{Tree}
use Rattle.envoy_types.specs.declared.permission.PermissionLeaf.{PermissionLeaf}
use Rattle.envoy_types.specs.declared.permission.PermissionLeaf.TheVariants as permission
use Rattle.envoy_types.specs.declared.principal.PrincipalLeaf.{PrincipalLeaf}
use Rattle.str_match.specs.Headers.{header_tree}
use Rattle.str_match.specs.ServerName.{sni_tree}
use Rattle.authz_gen.specs.Lists.{all_of, field_of}
use Rattle.authz_gen.specs.Operations.{port_tree}
use Rattle.authz_gen.specs.Sources.{namespace_of, principal_of, remote_block, source_block}

-- both lists of a condition by the trees of their values: one of `values` holds, and none of `notValues`
abbrev pub both_lists : {A L : Type 0} → (A → Tree L) → (values not_values : List A) → List (Tree L)
both_lists tree values not_values = all_of (field_of (map tree values) (map tree not_values)) ∷ []

-- ---- what is asked for

-- `requested_server_name`, by a value of `connection.sni`
abbrev pub server_name_of : List ℕ → Tree PermissionLeaf
server_name_of value = sni_tree (pattern_of value)

-- `destination_ip`, by a block of `destination.ip`
abbrev pub destination_block : Cidr → Tree PermissionLeaf
destination_block block = tree_of (Node.Leaf (permission.DestinationIp block))

-- the permission of a condition on the server name, the destination's address or its port; none of another
unfoldable pub permission_of : Condition → List (Tree PermissionLeaf)
permission_of (Words Sni values not_values) = both_lists server_name_of values not_values
permission_of (Words SourcePrincipal values not_values) = []
permission_of (Words SourceNamespace values not_values) = []
permission_of (Words (Header name) values not_values) = []
permission_of (Words AuthPrincipal values not_values) = []
permission_of (Words Audiences values not_values) = []
permission_of (Words Presenter values not_values) = []
permission_of (Words (Claim names) values not_values) = []
permission_of (Blocks DestinationIp values not_values) = both_lists destination_block values not_values
permission_of (Blocks SourceIp values not_values) = []
permission_of (Blocks RemoteIp values not_values) = []
permission_of (Ports values not_values) = both_lists port_tree values not_values

-- ---- who asks

-- the requests whose header of this name a value matches
abbrev pub header_of : (name value : List ℕ) → Tree PrincipalLeaf
header_of name value = header_tree name (pattern_of value)

-- the principal of a condition on the peer's name, the source's addresses or a header; none of another
unfoldable pub principal_by : Condition → List (Tree PrincipalLeaf)
principal_by (Words SourcePrincipal values not_values) = both_lists principal_of values not_values
principal_by (Words SourceNamespace values not_values) = both_lists namespace_of values not_values
principal_by (Words Sni values not_values) = []
principal_by (Words (Header name) values not_values) = both_lists (header_of name) values not_values
principal_by (Words AuthPrincipal values not_values) = []
principal_by (Words Audiences values not_values) = []
principal_by (Words Presenter values not_values) = []
principal_by (Words (Claim names) values not_values) = []
principal_by (Blocks SourceIp values not_values) = both_lists source_block values not_values
principal_by (Blocks RemoteIp values not_values) = both_lists remote_block values not_values
principal_by (Blocks DestinationIp values not_values) = []
principal_by (Ports values not_values) = []
