-- Server names (RFC 6066, section 3) by string forms (Istio reference, "Authorization Policy Conditions": `connection.sni`), as
-- permissions (Envoy v3 API reference, `config.rbac.v3.Permission.requested_server_name`).
use Rattle.std.specs.Prelude.{◌≡◌, false, [], Option, Some, None}
use Rattle.mesh_policy.specs.Attributes.{Seen, attribute, server_name}
use Rattle.mesh_policy.specs.Pattern.{pattern_holds}
use Rattle.mesh_policy.specs.RuleHolds.{text_matches}
use Rattle.mesh_policy.specs.declared.case.Case.{Case}
use Rattle.mesh_policy.specs.declared.pattern.Pattern.{Pattern}
use Rattle.mesh_tree.specs.Judge.{tree_holds}
use Rattle.mesh_tree.specs.Tree.{tree_of}
use Rattle.mesh_tree.specs.declared.tree.Node.TheVariants as Node
use Rattle.mesh_tree.specs.declared.tree.Tree.{Tree}
use Rattle.envoy_types.specs.Permission.{leaf_holds}
use Rattle.envoy_types.specs.Strings.{matcher_of, matcher_with}
use Rattle.envoy_types.specs.declared.permission.PermissionLeaf.{PermissionLeaf}
use Rattle.envoy_types.specs.declared.permission.PermissionLeaf.TheVariants.{ServerName}
use Rattle.envoy_types.specs.declared.strings.MatchKind.TheVariants as kind
use Rattle.envoy_types.specs.declared.strings.StringMatcher.{StringMatcher}

-- the server name by a matcher
abbrev pub asked_for : StringMatcher → Tree PermissionLeaf
asked_for matcher = tree_of (Node.Leaf (ServerName matcher))

-- Some server name: none is the empty text, and a connection without one counts as if it had asked for that.
abbrev pub asked_for_any : Tree PermissionLeaf
asked_for_any = tree_of (Node.Not (asked_for (matcher_with kind.Exact [] false)))

-- by the matcher of a string form, where it has one; presence has none
abbrev pub asked_for_by : Option StringMatcher → Tree PermissionLeaf
asked_for_by None = asked_for_any
asked_for_by (Some matcher) = asked_for matcher

-- the server names that the pattern holds for
unfoldable pub sni_tree : Pattern → Tree PermissionLeaf
sni_tree pattern = asked_for_by (matcher_of pattern false)

-- The tree holds exactly where the pattern matches the server name, whatever is seen of the case.
abbrev pub HoldsAs : Tree PermissionLeaf → Pattern → Type 0
HoldsAs tree pattern =
    (case : Case) (seen : Seen)
    → tree_holds (λ leaf. leaf_holds leaf case seen) tree ≡ text_matches (pattern_holds pattern) (attribute case seen server_name)
