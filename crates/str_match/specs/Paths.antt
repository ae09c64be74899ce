-- Paths by path values (Istio reference, "Authorization Policy": `paths` of an Operation), as permissions (Envoy v3 API reference,
-- `config.rbac.v3.Permission.url_path` and `uri_template`).
use Rattle.std.specs.Prelude.{◌≡◌, ℕ, false, List, [], Option, Some, None, is_some, IsTrue}
use Rattle.mesh_policy.specs.Attributes as key
use Rattle.mesh_policy.specs.Attributes.{Seen, attribute, seen_request}
use Rattle.mesh_policy.specs.Pattern.{pattern_of}
use Rattle.mesh_policy.specs.RuleHolds.{path_matches}
use Rattle.mesh_policy.specs.Template.{template_of}
use Rattle.mesh_policy.specs.declared.case.Case.{Case}
use Rattle.mesh_tree.specs.Judge.{tree_holds}
use Rattle.mesh_tree.specs.Tree.{tree_of}
use Rattle.mesh_tree.specs.declared.tree.Node.TheVariants as Node
use Rattle.mesh_tree.specs.declared.tree.Tree.{Tree}
use Rattle.envoy_types.specs.Permission.{leaf_holds}
use Rattle.envoy_types.specs.Strings.{matcher_of, matcher_with}
use Rattle.envoy_types.specs.declared.permission.PermissionLeaf.{PermissionLeaf}
use Rattle.envoy_types.specs.declared.permission.PermissionLeaf.TheVariants.{UriTemplate, UrlPath}
use Rattle.envoy_types.specs.declared.strings.MatchKind.TheVariants as kind
use Rattle.envoy_types.specs.declared.strings.StringMatcher.{StringMatcher}

-- the path without its query, by a matcher
abbrev pub on_path : StringMatcher → Tree PermissionLeaf
on_path matcher = tree_of (Node.Leaf (UrlPath matcher))

-- a path that is not empty
abbrev pub some_path : Tree PermissionLeaf
some_path = tree_of (Node.Not (on_path (matcher_with kind.Exact [] false)))

-- by the matcher of a string form, where it has one; presence has none
abbrev pub path_by : Option StringMatcher → Tree PermissionLeaf
path_by None = some_path
path_by (Some matcher) = on_path matcher

-- by the URI form of a template, where the value is one, and else by its string form
abbrev pub path_as : Option (List ℕ) → List ℕ → Tree PermissionLeaf
path_as None value = path_by (matcher_of (pattern_of value) false)
path_as (Some uri) value = tree_of (Node.Leaf (UriTemplate uri))

-- the paths that a value of `paths` matches
unfoldable pub path_tree : List ℕ → Tree PermissionLeaf
path_tree value = path_as (template_of value) value

-- The tree holds exactly where the value matches the path of the request, if one is seen.
abbrev pub HoldsAsPath : Tree PermissionLeaf → List ℕ → Type 0
HoldsAsPath tree value =
    (case : Case) (seen : Seen) → IsTrue (is_some (seen_request case seen))
    → tree_holds (λ leaf. leaf_holds leaf case seen) tree ≡ path_matches (attribute case seen key.path) value
