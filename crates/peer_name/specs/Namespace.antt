-- Peers by their namespaces (Istio reference, "Authorization Policy": Source, `namespaces`), as matchers of parts of their whole
-- names `spiffe://TRUST_DOMAIN/ns/NAMESPACE/sa/ACCOUNT` (Envoy v3 API reference, `config.rbac.v3.Principal.Authenticated`).
use Rattle.std.specs.Prelude.{ℕ, Bool, ◌||◌, List, [], ◌∷◌, ◌++◌, codes, if◌then◌else◌}
use Rattle.std.specs.Str.{bytes_eq}
use Rattle.mesh_policy.specs.Template.{has_slash}
use Rattle.mesh_policy.specs.declared.pattern.Pattern.{Pattern}
use Rattle.mesh_policy.specs.declared.pattern.Pattern.TheVariants.{Exact, Prefix, Suffix, Present}
use Rattle.mesh_tree.specs.Joined.{and_of}
use Rattle.mesh_tree.specs.Tree.{tree_of}
use Rattle.mesh_tree.specs.declared.tree.Node.TheVariants as Node
use Rattle.mesh_tree.specs.declared.tree.Tree.{Tree}
use Rattle.envoy_types.specs.declared.principal.PrincipalLeaf.{PrincipalLeaf}
use Rattle.envoy_types.specs.declared.strings.MatchKind.TheVariants as kind
use Rattle.peer_name.specs.Principal.{known_peer, named}

-- no peer
abbrev pub nobody : Tree PrincipalLeaf
nobody = tree_of (Node.Not (tree_of Node.Any))

-- a peer whose name has that text somewhere
abbrev pub has_part : List ℕ → Tree PrincipalLeaf
has_part text = named kind.Contains text

-- a peer whose name has it nowhere
abbrev pub has_no_part : List ℕ → Tree PrincipalLeaf
has_no_part text = tree_of (Node.Not (has_part text))

-- the namespace between the words that stand round it
abbrev pub namespace_segment : List ℕ → List ℕ
namespace_segment namespace = codes "/ns/" ++ namespace ++ codes "/sa/"

-- what the word `sa` begins with, but for the empty text
abbrev pub is_front_of_sa : List ℕ → Bool
is_front_of_sa v = bytes_eq v (codes "s") || bytes_eq v (codes "sa")

-- what the word `ns` ends with, but for the empty text
abbrev pub is_end_of_ns : List ℕ → Bool
is_end_of_ns v = bytes_eq v (codes "s") || bytes_eq v (codes "ns")

-- In a name of the namespace `ns` the word `sa` stands behind `/ns/` as well: `/ns/ns/sa/`. A prefix that is a front of that word
-- leaves those names out, since the namespace `ns` doesn't begin with it.
abbrev pub prefix_tree : List ℕ → Tree PrincipalLeaf
prefix_tree v = and_of (has_part (codes "/ns/" ++ v)
    ∷ (if is_front_of_sa v then has_no_part (namespace_segment (codes "ns")) ∷ [] else []))

-- In a name of the namespace `sa` the word `ns` stands before `/sa/` as well: `/ns/sa/sa/`. A suffix that is an end of that word
-- leaves those names out, since the namespace `sa` doesn't end with it.
abbrev pub suffix_tree : List ℕ → Tree PrincipalLeaf
suffix_tree v = and_of (has_part (v ++ codes "/sa/")
    ∷ (if is_end_of_ns v then has_no_part (namespace_segment (codes "sa")) ∷ [] else []))

-- the peers whose namespace the pattern holds for; no namespace has a slash
unfoldable pub namespace_tree : Pattern → Tree PrincipalLeaf
namespace_tree (Exact v) = if has_slash v then nobody else has_part (namespace_segment v)
namespace_tree (Prefix v) = if has_slash v then nobody else prefix_tree v
namespace_tree (Suffix v) = if has_slash v then nobody else suffix_tree v
namespace_tree Present = known_peer
