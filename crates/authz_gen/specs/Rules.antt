-- A rule as a permission and a principal (Istio reference, "Authorization Policy": Rule; Envoy v3 API reference,
-- `config.rbac.v3.Policy`).
use Rattle.std.specs.Prelude.{Bool, true, not, List, [], ◌++◌, flat_map, map, if◌then◌else◌}
use Rattle.mesh_policy.specs.RuleHolds.{condition_needs_http}
use Rattle.mesh_policy.specs.declared.condition.Condition.{Condition}
use Rattle.mesh_policy.specs.declared.policy.Rule.{Rule}
use Rattle.mesh_policy.specs.declared.service.Protocol.{Protocol}
use Rattle.mesh_policy.specs.declared.service.Protocol.TheVariants.{Http, Tcp}
use Rattle.mesh_tree.specs.Joined.{or_of}
use Rattle.mesh_tree.specs.declared.tree.Tree.{Tree}
use Rattle.envoy_types.specs.declared.permission.PermissionLeaf.{PermissionLeaf}
use Rattle.envoy_types.specs.declared.principal.PrincipalLeaf.{PrincipalLeaf}
use Rattle.authz_gen.specs.Conditions.{permission_of, principal_by}
use Rattle.authz_gen.specs.Lists.{all_of, if_any}
use Rattle.authz_gen.specs.Operations.{operation_tree}
use Rattle.authz_gen.specs.Sources.{source_tree}

-- one of the operations, where there are any, and the conditions on what is asked for, in order
unfoldable pub permission_tree : Rule → Tree PermissionLeaf
permission_tree rule = all_of (if_any or_of (map operation_tree rule.operations) ++ flat_map permission_of rule.conditions)

-- one of the sources, where there are any, and the conditions on who asks, in order
unfoldable pub principal_tree : Rule → Tree PrincipalLeaf
principal_tree rule = all_of (if_any or_of (map source_tree rule.sources) ++ flat_map principal_by rule.conditions)

-- ---- conditions on a port

-- a TCP port tests no condition on what only a request has
abbrev pub is_tested : Protocol → Condition → Bool
is_tested Tcp condition = not (condition_needs_http condition)
is_tested Http condition = true

-- the trees of a condition that is tested
abbrev pub of_tested : {A : Type 0} → (Condition → List A) → Protocol → Condition → List A
of_tested trees protocol condition = if is_tested protocol condition then trees condition else []
