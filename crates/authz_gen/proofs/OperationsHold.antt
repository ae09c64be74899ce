-- The permission of an operation holds exactly where the operation does, where its paths are those of a request that is seen.
use Rattle.std.proofs.Common.{◌≡◌, ℕ, Bool, All, List, ◌++◌, map, ◌∙◌}
use Rattle.mesh_policy.specs.Attributes.{Seen, attribute}
use Rattle.mesh_policy.specs.Attributes as key
use Rattle.mesh_policy.specs.Pattern.{pattern_of}
use Rattle.mesh_policy.specs.RuleHolds.{host_matches, number_matches, operation_holds, path_matches, value_matches}
use Rattle.mesh_policy.specs.declared.case.Case.{Case}
use Rattle.mesh_policy.specs.declared.policy.OperationSpec.{OperationSpec}
use Rattle.mesh_tree.specs.Judge.{tree_holds}
use Rattle.mesh_tree.proofs.JudgeLemmas.{holds-leaf}
use Rattle.envoy_types.specs.Permission.{leaf_holds}
use Rattle.envoy_types.specs.declared.permission.PermissionLeaf.{PermissionLeaf}
use Rattle.envoy_types.specs.declared.permission.PermissionLeaf.TheVariants.{DestinationPort}
use Rattle.str_match.proofs.HeadersHold.{host-holds, method-holds}
use Rattle.str_match.specs.Paths.{path_tree}
use Rattle.authz_gen.specs.Lists.{field_of}
use Rattle.authz_gen.specs.Operations.{host_of, method_of, operation_tree, port_tree}
use Rattle.authz_gen.proofs.TreeHolds.{HoldsAsMatched, all-holds, each-field-holds, field-holds, four-lists}

module _ (case : Case) (seen : Seen) where
  abbrev pub permits : PermissionLeaf → Bool
  permits leaf = leaf_holds leaf case seen

  -- ---- values

  abbrev by_host : List ℕ → Bool
  by_host = host_matches (attribute case seen key.host)

  abbrev pub by_port : ℕ → Bool
  by_port = number_matches (attribute case seen key.destination_port)

  abbrev by_method : List ℕ → Bool
  by_method = value_matches (attribute case seen key.method)

  abbrev by_path : List ℕ → Bool
  by_path = path_matches (attribute case seen key.path)

  host-matches : (v : List ℕ) → tree_holds permits (host_of v) ≡ by_host v
  host-matches v = host-holds (pattern_of v) case seen

  pub port-matches : (port : ℕ) → tree_holds permits (port_tree port) ≡ by_port port
  port-matches port = holds-leaf permits (DestinationPort port)

  method-matches : (v : List ℕ) → tree_holds permits (method_of v) ≡ by_method v
  method-matches v = method-holds (pattern_of v) case seen

  -- ---- operations

  -- each of its paths is told
  pub record HasToldPaths (o : OperationSpec) : Type 0 where
    pub paths : All (HoldsAsMatched permits path_tree by_path) o.paths
    pub not_paths : All (HoldsAsMatched permits path_tree by_path) o.not_paths

  pub operation-holds : (o : OperationSpec) → HasToldPaths o → tree_holds permits (operation_tree o) ≡ operation_holds case seen o
  unfolding operation_tree
  operation-holds o told =
      let hosts = field_of (map host_of o.hosts) (map host_of o.not_hosts) in
      let ports = field_of (map port_tree o.ports) (map port_tree o.not_ports) in
      let methods = field_of (map method_of o.methods) (map method_of o.not_methods) in
      let paths = field_of (map path_tree o.paths) (map path_tree o.not_paths) in
      all-holds permits (hosts ++ ports ++ methods ++ paths)
      ∙ four-lists (tree_holds permits) hosts ports methods paths _ _ _ _
      (each-field-holds permits host_of by_host host-matches o.hosts o.not_hosts)
      (each-field-holds permits port_tree by_port port-matches o.ports o.not_ports)
      (each-field-holds permits method_of by_method method-matches o.methods o.not_methods)
      (field-holds permits path_tree by_path o.paths o.not_paths told.paths told.not_paths)
