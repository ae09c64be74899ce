-- Match values, operations and sources as trees: each can be written, and is no wider than it is large.
use Rattle.std.proofs.Common.{◌≡◌, ℕ, ◌+◌, ◌*◌, ◌≤◌, IsTrue, List, [], ◌∷◌, ◌++◌, length, map, refl, arith}
use Rattle.std.proofs.lemmas.Bool.{and_from, and_parts, le-leb}
use Rattle.mesh_policy.specs.Values.{is_address}
use Rattle.mesh_net.specs.declared.cidr.Cidr.{Cidr}
use Rattle.mesh_policy.specs.AcceptedRules.{AcceptedOperation, AcceptedSource}
use Rattle.mesh_policy.specs.Pattern.{pattern_of}
use Rattle.mesh_policy.specs.Sizes.{operation_size, source_size, texts_size}
use Rattle.mesh_policy.specs.Values.{is_lower_name, is_path, is_path_value, is_port, is_short}
use Rattle.mesh_policy.specs.declared.policy.OperationSpec.{OperationSpec}
use Rattle.mesh_policy.specs.declared.policy.SourceSpec.{SourceSpec}
use Rattle.envoy_types.specs.BlockForms.{block_is_printable}
use Rattle.envoy_types.specs.PermissionForms.{permission_form, permission_leaf_is_printable}
use Rattle.envoy_types.specs.PrincipalForms.{principal_form, principal_leaf_is_printable}
use Rattle.envoy_types.specs.declared.permission.PermissionLeaf.TheVariants as permission
use Rattle.envoy_types.specs.declared.principal.PrincipalLeaf.TheVariants.{DirectRemoteIp, RemoteIp as RemoteAddress}
use Rattle.str_match.specs.Paths.{path_tree}
use Rattle.authz_gen.specs.Conditions.{destination_block, header_of, server_name_of}
use Rattle.authz_gen.specs.Lists.{all_of, field_of}
use Rattle.authz_gen.specs.Operations.{host_of, method_of, operation_tree, port_tree}
use Rattle.authz_gen.specs.Sources.{namespace_of, principal_of, remote_block, source_block, source_tree}
use Rattle.authz_gen.proofs.Fits.{AllFit, all-of-fits, both-fit, fits-leaf, fits-more, lists-fit}
use Rattle.authz_gen.proofs.NoEmptyText.{short-written, written-pattern}
use Rattle.authz_gen.proofs.PrincipalsPrintable.{PermissionFits, PrincipalFits, namespace-fits, principal-fits, server-name-fits}
use Rattle.authz_gen.proofs.RequestsPrintable.{header-tree-fits, host-tree-fits, method-tree-fits, path-tree-fits}
use Rattle.authz_gen.proofs.Small.{IsSmall, width_of}

-- ---- values

abbrev pub IsPort : ℕ → Type 0
IsPort port = IsTrue (is_port port)

abbrev pub HasAddress : Cidr → Type 0
HasAddress block = IsTrue (is_address block.addr)

abbrev pub IsShort : List ℕ → Type 0
IsShort value = IsTrue (is_short value)

abbrev IsPath : List ℕ → Type 0
IsPath value = IsTrue (is_path_value value)

host-fits : (value : List ℕ) → IsShort value → PermissionFits (host_of value) 3
host-fits value h = host-tree-fits (pattern_of value) (written-pattern value (short-written value h))

method-fits : (value : List ℕ) → IsShort value → PermissionFits (method_of value) 3
method-fits value h = method-tree-fits (pattern_of value) (written-pattern value (short-written value h))

path-fits : (value : List ℕ) → IsPath value → PermissionFits (path_tree value) 3
path-fits value h =
    path-tree-fits value (written-pattern value (short-written value (and_parts (is_short value) (is_path value) h).0))

pub port-fits : (port : ℕ) → IsPort port → PermissionFits (port_tree port) 3
unfolding permission_leaf_is_printable
port-fits port h =
    fits-more permission_form (port_tree port) 1 3
    (fits-leaf permission_form (permission.DestinationPort port) (and_from _ _ (le-leb 0 port (omega arith)) (and_parts _ _ h).1))
    (omega arith)

pub server-fits : (value : List ℕ) → IsShort value → PermissionFits (server_name_of value) 3
server-fits value h = server-name-fits (pattern_of value) (written-pattern value (short-written value h))

pub destination-fits : (block : Cidr) → HasAddress block → PermissionFits (destination_block block) 3
unfolding permission_leaf_is_printable block_is_printable
destination-fits block h =
    fits-more permission_form (destination_block block) 1 3 (fits-leaf permission_form (permission.DestinationIp block) h) (omega arith)

pub peer-fits : (value : List ℕ) → IsShort value → PrincipalFits (principal_of value) 3
peer-fits value h = principal-fits (pattern_of value) (written-pattern value (short-written value h))

pub place-fits : (value : List ℕ) → IsShort value → PrincipalFits (namespace_of value) 3
place-fits value h = namespace-fits (pattern_of value)

pub header-fits : (name : List ℕ) → IsTrue (is_lower_name name) → (value : List ℕ) → IsShort value → PrincipalFits (header_of name value) 3
header-fits name lower value h = header-tree-fits name lower (pattern_of value) (written-pattern value (short-written value h))

pub source-block-fits : (block : Cidr) → HasAddress block → PrincipalFits (source_block block) 3
unfolding principal_leaf_is_printable block_is_printable
source-block-fits block h =
    fits-more principal_form (source_block block) 1 3 (fits-leaf principal_form (DirectRemoteIp block) h) (omega arith)

pub remote-block-fits : (block : Cidr) → HasAddress block → PrincipalFits (remote_block block) 3
unfolding principal_leaf_is_printable block_is_printable
remote-block-fits block h =
    fits-more principal_form (remote_block block) 1 3 (fits-leaf principal_form (RemoteAddress block) h) (omega arith)

-- words count one each
pub texts-values : (values : List (List ℕ)) → (texts_size values).values ≡ length values
texts-values [] = refl
texts-values (value ∷ values) = let rest = texts-values values in omega (arith, rest)

-- ---- operations

pub operation-fits : (o : OperationSpec) → AcceptedOperation o → IsSmall (operation_size o)
    → PermissionFits (operation_tree o) (width_of (operation_size o))
unfolding operation_tree
operation-fits o h small =
    let hosts = field_of (map host_of o.hosts) (map host_of o.not_hosts) in
    let ports = field_of (map port_tree o.ports) (map port_tree o.not_ports) in
    let methods = field_of (map method_of o.methods) (map method_of o.not_methods) in
    let paths = field_of (map path_tree o.paths) (map path_tree o.not_paths) in
    let a = 3 * length o.hosts + 3 * length o.not_hosts in
    let b = 3 * length o.ports + 3 * length o.not_ports in
    let c = 3 * length o.methods + 3 * length o.not_methods in
    let d = 3 * length o.paths + 3 * length o.not_paths in
    let size : 1 + (a + b + c + d) ≤ width_of (operation_size o) = omega (
      arith,
      texts-values o.hosts,
      texts-values o.not_hosts,
      texts-values o.methods,
      texts-values o.not_methods,
      texts-values o.paths,
      texts-values o.not_paths,
    ) in
    let few : a + b + c + d ≤ 8191 = omega (arith, size, small.values, small.entries) in
    let all : AllFit permission_form (hosts ++ ports ++ methods ++ paths) (a + b + c + d) =
    both-fit permission_form (hosts ++ ports ++ methods) paths (a + b + c) d
    (both-fit permission_form (hosts ++ ports) methods (a + b) c
    (both-fit permission_form hosts ports a b
    (lists-fit permission_form host_of IsShort host-fits o.hosts o.not_hosts h.hosts.each h.not_hosts.each (omega (arith, few)))
    (lists-fit permission_form port_tree IsPort port-fits o.ports o.not_ports h.ports.each h.not_ports.each (omega (arith, few))))
    (lists-fit permission_form method_of IsShort method-fits o.methods o.not_methods h.methods.each h.not_methods.each
    (omega (arith, few))))
    (lists-fit permission_form path_tree IsPath path-fits o.paths o.not_paths h.paths.each h.not_paths.each (omega (arith, few))) in
    fits-more permission_form (all_of (hosts ++ ports ++ methods ++ paths)) (1 + (a + b + c + d)) (width_of (operation_size o))
    (all-of-fits permission_form (hosts ++ ports ++ methods ++ paths) (a + b + c + d) all (omega (arith, few))) size

-- ---- sources

pub source-fits : (s : SourceSpec) → AcceptedSource s → IsSmall (source_size s)
    → PrincipalFits (source_tree s) (width_of (source_size s))
unfolding source_tree
source-fits s h small =
    let peers = field_of (map principal_of s.principals) (map principal_of s.not_principals) in
    let places = field_of (map namespace_of s.namespaces) (map namespace_of s.not_namespaces) in
    let blocks = field_of (map source_block s.ip_blocks) (map source_block s.not_ip_blocks) in
    let remote = field_of (map remote_block s.remote_ip_blocks) (map remote_block s.not_remote_ip_blocks) in
    let a = 3 * length s.principals + 3 * length s.not_principals in
    let b = 3 * length s.namespaces + 3 * length s.not_namespaces in
    let c = 3 * length s.ip_blocks + 3 * length s.not_ip_blocks in
    let d = 3 * length s.remote_ip_blocks + 3 * length s.not_remote_ip_blocks in
    let size : 1 + (a + b + c + d) ≤ width_of (source_size s) = omega (
      arith,
      texts-values s.principals,
      texts-values s.not_principals,
      texts-values s.namespaces,
      texts-values s.not_namespaces,
    ) in
    let few : a + b + c + d ≤ 8191 = omega (arith, size, small.values, small.entries) in
    let all : AllFit principal_form (peers ++ places ++ blocks ++ remote) (a + b + c + d) =
    both-fit principal_form (peers ++ places ++ blocks) remote (a + b + c) d
    (both-fit principal_form (peers ++ places) blocks (a + b) c
    (both-fit principal_form peers places a b
    (lists-fit principal_form principal_of IsShort peer-fits s.principals s.not_principals h.principals.each h.not_principals.each
    (omega (arith, few)))
    (lists-fit principal_form namespace_of IsShort place-fits s.namespaces s.not_namespaces h.namespaces.each h.not_namespaces.each
    (omega (arith, few))))
    (lists-fit principal_form source_block HasAddress source-block-fits s.ip_blocks s.not_ip_blocks h.ip_blocks.each
    h.not_ip_blocks.each
    (omega (arith, few))))
    (lists-fit principal_form remote_block HasAddress remote-block-fits s.remote_ip_blocks s.not_remote_ip_blocks h.remote_ip_blocks.each
    h.not_remote_ip_blocks.each (omega (arith, few))) in
    fits-more principal_form (all_of (peers ++ places ++ blocks ++ remote)) (1 + (a + b + c + d)) (width_of (source_size s))
    (all-of-fits principal_form (peers ++ places ++ blocks ++ remote) (a + b + c + d) all (omega (arith, few))) size
