-- Peers by their principals, which are their names without `spiffe://` (Istio reference, "Authorization Policy": Source,
-- `principals`), as matchers of the whole names (Envoy v3 API reference, `config.rbac.v3.Principal.Authenticated`).
use Rattle.std.specs.Prelude.{ℕ, false, nat_eq, List, [], ◌∷◌, ◌++◌, drop, flat_map, length, codes, Some, None, if◌then◌else◌}
use Rattle.std.specs.List.{starts_with}
use Rattle.mesh_policy.specs.PeerNames.{scheme}
use Rattle.mesh_policy.specs.declared.pattern.Pattern.{Pattern}
use Rattle.mesh_policy.specs.declared.pattern.Pattern.TheVariants.{Exact, Prefix, Suffix, Present}
use Rattle.mesh_tree.specs.Joined.{and_of}
use Rattle.mesh_tree.specs.Tree.{tree_of}
use Rattle.mesh_tree.specs.declared.tree.Node.TheVariants as Node
use Rattle.mesh_tree.specs.declared.tree.Tree.{Tree}
use Rattle.envoy_types.specs.Strings.{matcher_with}
use Rattle.envoy_types.specs.declared.principal.PrincipalLeaf.{PrincipalLeaf}
use Rattle.envoy_types.specs.declared.principal.PrincipalLeaf.TheVariants.{Authenticated}
use Rattle.envoy_types.specs.declared.strings.MatchKind.{MatchKind}
use Rattle.envoy_types.specs.declared.strings.MatchKind.TheVariants as kind

-- a peer whose name is known, whatever it is
abbrev pub known_peer : Tree PrincipalLeaf
known_peer = tree_of (Node.Leaf (Authenticated None))

-- a peer by a text in its name
abbrev pub named : MatchKind → List ℕ → Tree PrincipalLeaf
named kind text = tree_of (Node.Leaf (Authenticated (Some (matcher_with kind text false))))

-- any peer but the one of that name
abbrev pub not_named : List ℕ → Tree PrincipalLeaf
not_named name = tree_of (Node.Not (named kind.Exact name))

-- what `spiffe://` ends with, shortest first
abbrev pub scheme_ends : List (List ℕ)
scheme_ends =
    codes "/" ∷ codes "//" ∷ codes "://" ∷ codes "e://" ∷ codes "fe://" ∷ codes "ffe://"
    ∷ codes "iffe://" ∷ codes "piffe://" ∷ codes "spiffe://" ∷ []

-- Where the suffix is an end of `spiffe://` and a text behind it, the name of the peer whose principal is that text ends with the
-- suffix, but the principal is shorter than it. That one peer is left out.
abbrev pub all_but_shorter : (suffix end : List ℕ) → List (Tree PrincipalLeaf)
all_but_shorter suffix end =
    if starts_with nat_eq suffix end then not_named (scheme ++ drop (length end) suffix) ∷ [] else []

-- names that end with the suffix, but for those of principals that are shorter than it
unfoldable pub suffix_tree : List ℕ → Tree PrincipalLeaf
suffix_tree suffix = and_of (named kind.Suffix suffix ∷ flat_map (all_but_shorter suffix) scheme_ends)

-- the peers whose principal the pattern holds for
unfoldable pub principal_tree : Pattern → Tree PrincipalLeaf
principal_tree (Exact v) = named kind.Exact (scheme ++ v)
principal_tree (Prefix v) = named kind.Prefix (scheme ++ v)
principal_tree (Suffix v) = suffix_tree v
principal_tree Present = known_peer
