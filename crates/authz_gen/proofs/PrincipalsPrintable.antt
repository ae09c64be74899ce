-- The matcher trees of single values: each can be written, and is at most three entries wide.
use Rattle.std.proofs.Common.{◌≡◌, ◌≢◌, ℕ, nat_eq, Bool, true, false, ◌||◌, List, [], ◌∷◌, ◌++◌, codes, drop, length}
use Rattle.std.proofs.Common.{Some, None, refl, arith, if◌then◌else◌}
use Rattle.std.proofs.lemmas.Bool.{le-leb}
use Rattle.std.specs.List.{flat_map, starts_with}
use Rattle.std.specs.Str.{bytes_eq}
use Rattle.mesh_policy.specs.Lists.{total}
use Rattle.mesh_policy.specs.Pattern.{HasNoEmptyText}
use Rattle.mesh_policy.specs.PeerNames.{scheme}
use Rattle.mesh_policy.specs.Template.{has_slash}
use Rattle.mesh_policy.specs.declared.pattern.Pattern.{Pattern}
use Rattle.mesh_policy.specs.declared.pattern.Pattern.TheVariants.{Exact, Prefix, Suffix, Present}
use Rattle.mesh_tree.specs.Joined.{and_of}
use Rattle.mesh_tree.specs.Tree.{tree_of}
use Rattle.mesh_tree.specs.declared.tree.Node.TheVariants as Node
use Rattle.mesh_tree.specs.declared.tree.Tree.{Tree}
use Rattle.envoy_types.specs.PermissionForms.{permission_form, permission_leaf_is_printable}
use Rattle.envoy_types.specs.PrincipalForms.{principal_form, principal_leaf_is_printable}
use Rattle.envoy_types.specs.StringForms.{is_filled, may_be_empty, string_is_printable}
use Rattle.envoy_types.specs.Strings.{matcher_with}
use Rattle.envoy_types.specs.declared.permission.PermissionLeaf.{PermissionLeaf}
use Rattle.envoy_types.specs.declared.permission.PermissionLeaf.TheVariants.{ServerName}
use Rattle.envoy_types.specs.declared.principal.PrincipalLeaf.{PrincipalLeaf}
use Rattle.envoy_types.specs.declared.principal.PrincipalLeaf.TheVariants.{Authenticated}
use Rattle.envoy_types.specs.declared.strings.MatchKind.{MatchKind}
use Rattle.envoy_types.specs.declared.strings.MatchKind.TheVariants as kind
use Rattle.peer_name.specs.Namespace as namespace
use Rattle.peer_name.specs.Namespace.{has_no_part, has_part, namespace_segment, namespace_tree, nobody}
use Rattle.peer_name.specs.Principal as principal
use Rattle.peer_name.specs.Principal.{all_but_shorter, known_peer, named, not_named, principal_tree, scheme_ends}
use Rattle.str_match.specs.ServerName.{asked_for, sni_tree}
use Rattle.authz_gen.proofs.Fits.{AllFit, Fits, all-more, each-all-fit, fits-and, fits-leaf, fits-more, fits-not, one-more}
use Rattle.authz_gen.proofs.Fits.{fits-any, no-trees, one-tree, where-true}
use Rattle.authz_gen.proofs.SchemeEnds.{begins, count, ends-few}

-- a principal that can be written, at most so many entries wide
abbrev pub PrincipalFits : Tree PrincipalLeaf → ℕ → Type 0
PrincipalFits tree most = Fits principal_form tree most

abbrev pub PermissionFits : Tree PermissionLeaf → ℕ → Type 0
PermissionFits tree most = Fits permission_form tree most

-- ---- texts

filled : (c : ℕ) (rest : List ℕ) → is_filled (c ∷ rest) ≡ true
filled c rest = le-leb 1 (length (c ∷ rest)) (omega arith)

pub filled-text : (text : List ℕ) → text ≢ [] → is_filled text ≡ true
filled-text [] h = absurd (h refl)
filled-text (c ∷ rest) h = filled c rest

filled-end : (text : List ℕ) (c : ℕ) (rest : List ℕ) → is_filled (text ++ c ∷ rest) ≡ true
filled-end [] c rest = filled c rest
filled-end (x ∷ xs) c rest = filled x (xs ++ c ∷ rest)

-- ---- names of peers

named-fits : (k : MatchKind) (text : List ℕ) → (may_be_empty k || is_filled text) ≡ true → PrincipalFits (named k text) 1
unfolding principal_leaf_is_printable string_is_printable
named-fits k text h = fits-leaf principal_form (Authenticated (Some (matcher_with k text false))) h

known-fits : PrincipalFits known_peer 1
unfolding principal_leaf_is_printable
known-fits = fits-leaf principal_form (Authenticated None) refl

not-named-fits : (name : List ℕ) → PrincipalFits (not_named name) 1
not-named-fits name = fits-not principal_form (named kind.Exact name) 1 (named-fits kind.Exact name refl)

-- ---- principals

counted : (b : Bool) (t : Tree PrincipalLeaf) → PrincipalFits t 1 → AllFit principal_form (if b then t ∷ [] else []) (count b)
counted true t h = one-tree principal_form t 1 h
counted false t h = no-trees principal_form 0

end-fits : (text end : List ℕ) → AllFit principal_form (all_but_shorter text end) (begins text end)
end-fits text end =
    let other = scheme ++ drop (length end) text in
    counted (starts_with nat_eq text end) (not_named other) (not-named-fits other)

suffix-fits : (text : List ℕ) → text ≢ [] → PrincipalFits (principal.suffix_tree text) 3
unfolding principal.suffix_tree
suffix-fits text h =
    let ends = flat_map (all_but_shorter text) scheme_ends in
    let left_out : AllFit principal_form ends 2 =
    all-more principal_form ends (total (begins text) scheme_ends) 2
    (each-all-fit principal_form (begins text) (all_but_shorter text) (end-fits text) scheme_ends)
    (ends-few text) in
    fits-and principal_form (named kind.Suffix text) ends 3
    (one-more principal_form (named kind.Suffix text) ends 1 2 (named-fits kind.Suffix text (filled-text text h)) left_out) (omega arith)

pub principal-fits : (p : Pattern) → HasNoEmptyText p → PrincipalFits (principal_tree p) 3
unfolding principal_tree
principal-fits (Exact v) h =
    fits-more principal_form (named kind.Exact (scheme ++ v)) 1 3 (named-fits kind.Exact (scheme ++ v) refl) (omega arith)
principal-fits (Prefix v) h =
    fits-more principal_form (named kind.Prefix (scheme ++ v)) 1 3
    (named-fits kind.Prefix (scheme ++ v) (filled 115 (codes "piffe://" ++ v))) (omega arith)
principal-fits (Suffix v) h = suffix-fits v h
principal-fits Present h = fits-more principal_form known_peer 1 3 known-fits (omega arith)

-- ---- namespaces

nobody-fits : PrincipalFits nobody 1
nobody-fits = fits-not principal_form (tree_of Node.Any) 1 (fits-any principal_form)

no-part-fits : (text : List ℕ) → is_filled text ≡ true → PrincipalFits (has_no_part text) 1
no-part-fits text h = fits-not principal_form (has_part text) 1 (named-fits kind.Contains text h)

-- a part that is there, and maybe one that is not
parts-fit : (there : List ℕ) (b : Bool) (absent : List ℕ) → is_filled there ≡ true → is_filled absent ≡ true
    → PrincipalFits (and_of (has_part there ∷ (if b then has_no_part absent ∷ [] else []))) 3
parts-fit there b absent h k =
    let others = if b then has_no_part absent ∷ [] else [] in
    fits-and principal_form (has_part there) others 3
    (one-more principal_form (has_part there) others 1 2 (named-fits kind.Contains there h)
    (where-true principal_form b (has_no_part absent) 2
    (fits-more principal_form (has_no_part absent) 1 2 (no-part-fits absent k) (omega arith))))
    (omega arith)

unless-slash : (b : Bool) (t : Tree PrincipalLeaf) → PrincipalFits t 3 → PrincipalFits (if b then nobody else t) 3
unless-slash true t h = fits-more principal_form nobody 1 3 nobody-fits (omega arith)
unless-slash false t h = h

pub namespace-fits : (p : Pattern) → PrincipalFits (namespace_tree p) 3
unfolding namespace_tree
namespace-fits (Exact v) =
    unless-slash (has_slash v) (has_part (namespace_segment v))
    (fits-more principal_form (has_part (namespace_segment v)) 1 3
    (named-fits kind.Contains (namespace_segment v) (filled 47 (codes "ns/" ++ v ++ codes "/sa/"))) (omega arith))
namespace-fits (Prefix v) =
    unless-slash (has_slash v) (namespace.prefix_tree v)
    (parts-fit (codes "/ns/" ++ v) (bytes_eq v (codes "s") || bytes_eq v (codes "sa")) (namespace_segment (codes "ns"))
    (filled 47 (codes "ns/" ++ v)) refl)
namespace-fits (Suffix v) =
    unless-slash (has_slash v) (namespace.suffix_tree v)
    (parts-fit (v ++ codes "/sa/") (bytes_eq v (codes "s") || bytes_eq v (codes "ns")) (namespace_segment (codes "sa"))
    (filled-end v 47 (115 ∷ 97 ∷ 47 ∷ [])) refl)
namespace-fits Present = fits-more principal_form known_peer 1 3 known-fits (omega arith)

-- ---- server names

asked-fits : (k : MatchKind) (text : List ℕ) → (may_be_empty k || is_filled text) ≡ true
    → PermissionFits (asked_for (matcher_with k text false)) 3
unfolding permission_leaf_is_printable string_is_printable
asked-fits k text h =
    let asked = asked_for (matcher_with k text false) in
    fits-more permission_form asked 1 3 (fits-leaf permission_form (ServerName (matcher_with k text false)) h) (omega arith)

pub server-name-fits : (p : Pattern) → HasNoEmptyText p → PermissionFits (sni_tree p) 3
unfolding sni_tree
server-name-fits (Exact v) h = asked-fits kind.Exact v refl
server-name-fits (Prefix v) h = asked-fits kind.Prefix v (filled-text v h)
server-name-fits (Suffix v) h = asked-fits kind.Suffix v (filled-text v h)
server-name-fits Present h =
    let none = asked_for (matcher_with kind.Exact [] false) in
    fits-more permission_form (tree_of (Node.Not none)) 1 3 (fits-not permission_form none 3 (asked-fits kind.Exact [] refl)) (omega arith)
