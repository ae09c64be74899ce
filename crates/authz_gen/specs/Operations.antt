-- What an operation asks for, as a permission (Istio reference, "Authorization Policy": Operation; Envoy v3 API reference,
-- `config.rbac.v3.Permission`).
use Rattle.std.specs.Prelude.{ℕ, List, [], ◌++◌, map}
use Rattle.mesh_policy.specs.Pattern.{pattern_of}
use Rattle.mesh_policy.specs.declared.policy.OperationSpec.{OperationSpec}
use Rattle.mesh_policy.specs.declared.service.Protocol.{Protocol}
use Rattle.mesh_policy.specs.declared.service.Protocol.TheVariants.{Http, Tcp}
use Rattle.mesh_tree.specs.Tree.{tree_of}
use Rattle.mesh_tree.specs.declared.tree.Node.TheVariants as Node
use Rattle.mesh_tree.specs.declared.tree.Tree.{Tree}
use Rattle.envoy_types.specs.declared.permission.PermissionLeaf.{PermissionLeaf}
use Rattle.envoy_types.specs.declared.permission.PermissionLeaf.TheVariants.{DestinationPort}
use Rattle.str_match.specs.Headers.{host_tree, method_tree}
use Rattle.str_match.specs.Paths.{path_tree}
use Rattle.authz_gen.specs.Lists.{all_of, field_of}

-- the requests for a value of `hosts`
abbrev pub host_of : List ℕ → Tree PermissionLeaf
host_of value = host_tree (pattern_of value)

-- `destination_port`
abbrev pub port_tree : ℕ → Tree PermissionLeaf
port_tree port = tree_of (Node.Leaf (DestinationPort port))

-- the requests by a value of `methods`
abbrev pub method_of : List ℕ → Tree PermissionLeaf
method_of value = method_tree (pattern_of value)

-- what only a request has, which a TCP port leaves out
abbrev pub of_requests : {A : Type 0} → Protocol → List A → List A
of_requests Tcp values = []
of_requests Http values = values

-- an operation as a port reads it
abbrev pub operation_on : Protocol → OperationSpec → OperationSpec
operation_on protocol operation = record operation {
  hosts = of_requests protocol operation.hosts;
  not_hosts = of_requests protocol operation.not_hosts;
  methods = of_requests protocol operation.methods;
  not_methods = of_requests protocol operation.not_methods;
  paths = of_requests protocol operation.paths;
  not_paths = of_requests protocol operation.not_paths;
}

-- All fields of an operation: hosts, ports, methods and paths. An operation without any is everything.
unfoldable pub operation_tree : OperationSpec → Tree PermissionLeaf
operation_tree operation = all_of
    (field_of (map host_of operation.hosts) (map host_of operation.not_hosts)
    ++ field_of (map port_tree operation.ports) (map port_tree operation.not_ports)
    ++ field_of (map method_of operation.methods) (map method_of operation.not_methods)
    ++ field_of (map path_tree operation.paths) (map path_tree operation.not_paths))

-- an operation by the fields that a port reads
abbrev pub operation_for : Protocol → OperationSpec → Tree PermissionLeaf
operation_for protocol operation = operation_tree (operation_on protocol operation)
