-- The matcher trees of values that only a request is tested by: each can be written, and is at most three entries wide.
use Rattle.std.proofs.Common.{◌≡◌, ℕ, Bool, true, false, ◌||◌, List, [], ◌∷◌, codes, Some, None, refl, arith, if◌then◌else◌}
use Rattle.std.proofs.lemmas.Bool.{and_from, and_parts, or_left}
use Rattle.mesh_text.specs.Token.{is_token}
use Rattle.mesh_policy.proofs.UriLemmas.{is_uri_of}
use Rattle.mesh_policy.specs.Pattern.{HasNoEmptyText, pattern_of}
use Rattle.mesh_policy.specs.Template.{is_template, uri_of}
use Rattle.mesh_policy.specs.Values.{is_bounded, is_lower_name, is_name}
use Rattle.mesh_policy.specs.declared.pattern.Pattern.{Pattern}
use Rattle.mesh_policy.specs.declared.pattern.Pattern.TheVariants.{Exact, Prefix, Suffix, Present}
use Rattle.mesh_tree.specs.Tree.{tree_of}
use Rattle.mesh_tree.specs.declared.tree.Node.TheVariants as Node
use Rattle.envoy_types.specs.HeaderForms.{header_is_printable, header_test_is_printable, is_header_name, is_lower_token}
use Rattle.envoy_types.specs.PermissionForms.{permission_form, permission_leaf_is_printable}
use Rattle.envoy_types.specs.PrincipalForms.{principal_form, principal_leaf_is_printable}
use Rattle.envoy_types.specs.StringForms.{is_filled, may_be_empty, string_is_printable}
use Rattle.envoy_types.specs.Strings.{matcher_of, matcher_with}
use Rattle.envoy_types.specs.TreeForms.{TreeForm}
use Rattle.envoy_types.specs.declared.headers.HeaderMatch.{HeaderMatch}
use Rattle.envoy_types.specs.declared.headers.HeaderTest.{HeaderTest}
use Rattle.envoy_types.specs.declared.headers.HeaderTest.TheVariants as test
use Rattle.envoy_types.specs.declared.permission.PermissionLeaf.TheVariants as asked
use Rattle.envoy_types.specs.declared.principal.PrincipalLeaf.TheVariants as asking
use Rattle.envoy_types.specs.declared.strings.MatchKind.{MatchKind}
use Rattle.envoy_types.specs.declared.strings.MatchKind.TheVariants as kind
use Rattle.str_match.specs.Headers.{header_by, header_filled, header_test, header_tree, host_tree, method_tree}
use Rattle.str_match.specs.Paths.{on_path, path_as, path_by, path_tree, some_path}
use Rattle.authz_gen.proofs.Fits.{Fits, fits-and, fits-leaf, fits-more, fits-not, one-more, one-tree}
use Rattle.authz_gen.proofs.PrincipalsPrintable.{PermissionFits, PrincipalFits, filled-text}

-- ---- headers, as leaves of either kind

module _ {L : Type 0} (form : TreeForm L) (leaf : HeaderMatch → L)
    (is-leaf : (header : HeaderMatch) → header_is_printable header ≡ true → form.leaf_is_printable (leaf header) ≡ true)
    (name : List ℕ) (named : is_header_name name ≡ true) where
  test-fits : (t : HeaderTest) → header_test_is_printable t ≡ true → Fits form (header_test leaf name t) 1
  unfolding header_is_printable
  test-fits t h =
      let header : HeaderMatch = record { name = name; test = t } in
      fits-leaf form (leaf header) (is-leaf header (and_from (is_header_name name) (header_test_is_printable t) named h))

  words-fit : (k : MatchKind) (text : List ℕ) (fold : Bool) → (may_be_empty k || is_filled text) ≡ true
      → Fits form (header_test leaf name (test.Words (matcher_with k text fold))) 3
  unfolding string_is_printable
  words-fit k text fold h =
      fits-more form (header_test leaf name (test.Words (matcher_with k text fold))) 1 3
      (test-fits (test.Words (matcher_with k text fold)) h) (omega arith)

  -- presence is of two parts
  filled-fits : Fits form (header_filled leaf name) 3
  filled-fits =
      let there = header_test leaf name test.Present in
      let empty = header_test leaf name (test.Words (matcher_with kind.Exact [] false)) in
      let filled = tree_of (Node.Not empty) in
      fits-more form (header_filled leaf name) 2 3
      (fits-and form there (filled ∷ []) 2
      (one-more form there (filled ∷ []) 1 1 (test-fits test.Present refl)
      (one-tree form filled 1 (fits-not form empty 3 (words-fit kind.Exact [] false refl))))
      (omega arith)) (omega arith)

  by-fits : (p : Pattern) (fold : Bool) → HasNoEmptyText p → Fits form (header_by leaf name (matcher_of p fold)) 3
  by-fits (Exact v) fold h = words-fit kind.Exact v fold refl
  by-fits (Prefix v) fold h = words-fit kind.Prefix v fold (filled-text v h)
  by-fits (Suffix v) fold h = words-fit kind.Suffix v fold (filled-text v h)
  by-fits Present fold h = filled-fits

asked-leaf : (header : HeaderMatch) → header_is_printable header ≡ true → permission_leaf_is_printable (asked.Header header) ≡ true
unfolding permission_leaf_is_printable
asked-leaf header h = h

asking-leaf : (header : HeaderMatch) → header_is_printable header ≡ true → principal_leaf_is_printable (asking.Header header) ≡ true
unfolding principal_leaf_is_printable
asking-leaf header h = h

-- ---- hosts, methods and headers

pub host-tree-fits : (p : Pattern) → HasNoEmptyText p → PermissionFits (host_tree p) 3
unfolding host_tree is_header_name is_lower_token
host-tree-fits p h = by-fits permission_form asked.Header asked-leaf (codes ":authority") refl p true h

pub method-tree-fits : (p : Pattern) → HasNoEmptyText p → PermissionFits (method_tree p) 3
unfolding method_tree is_header_name is_lower_token
method-tree-fits p h = by-fits permission_form asked.Header asked-leaf (codes ":method") refl p false h

-- the name in the key of a condition is one of a header
lower-name : (name : List ℕ) → is_lower_name name ≡ true → is_header_name name ≡ true
unfolding is_header_name is_lower_token
lower-name name h =
    let parts = and_parts (is_name name) _ h in
    let token = (and_parts (is_token name) (is_bounded name) parts.0).0 in
    or_left _ _ (or_left _ _ (or_left _ _ (and_from _ _ token parts.1)))

pub header-tree-fits : (name : List ℕ) → is_lower_name name ≡ true → (p : Pattern) → HasNoEmptyText p → PrincipalFits
    (header_tree name p) 3
unfolding header_tree
header-tree-fits name lower p h = by-fits principal_form asking.Header asking-leaf name (lower-name name lower) p false h

-- ---- paths

on_path-fits : (k : MatchKind) (text : List ℕ) → (may_be_empty k || is_filled text) ≡ true
    → PermissionFits (on_path (matcher_with k text false)) 3
unfolding permission_leaf_is_printable string_is_printable
on_path-fits k text h =
    fits-more permission_form (on_path (matcher_with k text false)) 1 3
    (fits-leaf permission_form (asked.UrlPath (matcher_with k text false)) h) (omega arith)

path_by-fits : (p : Pattern) → HasNoEmptyText p → PermissionFits (path_by (matcher_of p false)) 3
path_by-fits (Exact v) h = on_path-fits kind.Exact v refl
path_by-fits (Prefix v) h = on_path-fits kind.Prefix v (filled-text v h)
path_by-fits (Suffix v) h = on_path-fits kind.Suffix v (filled-text v h)
path_by-fits Present h =
    let empty = on_path (matcher_with kind.Exact [] false) in
    fits-more permission_form some_path 1 3 (fits-not permission_form empty 3 (on_path-fits kind.Exact [] refl)) (omega arith)

-- the URI form of a template is one
template-fits : (value : List ℕ) → is_template value ≡ true → PermissionFits (path_as (Some (uri_of value)) value) 3
unfolding permission_leaf_is_printable
template-fits value h =
    fits-more permission_form (path_as (Some (uri_of value)) value) 1 3
    (fits-leaf permission_form (asked.UriTemplate (uri_of value)) (is_uri_of value h)) (omega arith)

pub path-tree-fits : (value : List ℕ) → HasNoEmptyText (pattern_of value) → PermissionFits (path_tree value) 3
unfolding path_tree
path-tree-fits value h = at (is_template value) refl where
  at : (b : Bool) → is_template value ≡ b → PermissionFits (path_as (if b then Some (uri_of value) else None) value) 3
  at true e = template-fits value e
  at false e = path_by-fits (pattern_of value) h
