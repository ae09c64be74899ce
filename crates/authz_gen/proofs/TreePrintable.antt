-- Trees that are joined of trees that can be written can be written, where their lists keep the limit.
use Rattle.std.proofs.Common.{◌≡◌, ◌≤◌, Bool, true, ◌&&◌, List, [], ◌∷◌, length, map, refl, sym, ◌∙◌, ap, ap₂, arith}
use Rattle.std.proofs.lemmas.Bool.{and_from, and_parts, leb-true}
use Rattle.std.proofs.lemmas.List.{length-map}
use Rattle.std.proofs.lemmas.List.Folds.{list_all-append, list_all-map}
use Rattle.std.specs.List.{flat_map, list_all}
use Rattle.mesh_policy.specs.Lists.{total}
use Rattle.mesh_tree.specs.Joined.{and_entries, and_entries_at, and_of, or_entries, or_entries_at, or_of}
use Rattle.mesh_tree.specs.Tree.{tree_of}
use Rattle.mesh_tree.specs.declared.tree.Node.{Node, Node-F, fold-Node, fold-roll-Node, out-Node}
use Rattle.mesh_tree.specs.declared.tree.Node.TheVariants as Node
use Rattle.mesh_tree.specs.declared.tree.Tree.{Tree, fold-roll-Tree, out-Tree}
use Rattle.mesh_tree.proofs.FoldLemmas.{fold-node, fold-tree_of, folded-tree_of-And, folded-tree_of-Or, opened}
use Rattle.envoy_types.specs.SmallForms.{is_within, most_entries}
use Rattle.envoy_types.specs.TreeForms.{TreeForm, node_is_printable, tree_is_printable}
use Rattle.authz_gen.proofs.Widths.{and_width, length-flat, or_width, within}

module _ {L : Type 0} (form : TreeForm L) where
  abbrev pub printable : Tree L → Bool
  printable tree = tree_is_printable form tree

  pub printable-Any : printable (tree_of Node.Any) ≡ true
  unfolding out-Node denote.Hole.Carrier.out
  printable-Any = fold-tree_of (node_is_printable form) Node.Any

  pub printable-Leaf : (leaf : L) → printable (tree_of (Node.Leaf leaf)) ≡ form.leaf_is_printable leaf
  unfolding out-Node denote.Hole.Carrier.out
  printable-Leaf leaf = fold-tree_of (node_is_printable form) (Node.Leaf leaf)

  pub printable-Not : (tree : Tree L) → printable (tree_of (Node.Not tree)) ≡ printable tree
  printable-Not tree =
      fold-roll-Tree L Bool Bool (node_is_printable form) (λ t. t.node) (record { node = Node.Not tree })
      ∙ ap (fold-Node L Bool Bool (node_is_printable form) (λ t. t.node)) (sym (Node.rolls-Not tree))
      ∙ fold-roll-Node L Bool Bool (node_is_printable form) (λ t. t.node) (Node-F.Not tree)

  -- a list of trees that can be written
  abbrev is_list : List (Tree L) → Bool
  is_list parts = is_within 1 most_entries (length parts) && list_all printable parts

  folded_list : (parts : List (Tree L))
      → (is_within 1 most_entries (length (map printable parts)) && list_all (λ b. b) (map printable parts)) ≡ is_list parts
  folded_list parts =
      ap₂ (λ n b. is_within 1 most_entries n && b) (length-map parts printable) (list_all-map (λ b. b) printable parts)

  printable-Or : (parts : List (Tree L)) → printable (tree_of (Node.Or parts)) ≡ is_list parts
  printable-Or parts = folded-tree_of-Or (node_is_printable form) parts ∙ folded_list parts

  printable-And : (parts : List (Tree L)) → printable (tree_of (Node.And parts)) ≡ is_list parts
  printable-And parts = folded-tree_of-And (node_is_printable form) parts ∙ folded_list parts

  -- ---- the entries of a tree

  -- there are some, and each can be written
  abbrev HasEntries : List (Tree L) → Type 0
  HasEntries entries = (1 ≤ length entries) × (list_all printable entries ≡ true)

  alone : (t : Tree L) → printable t ≡ true → HasEntries (t ∷ [])
  alone t e = (omega arith, and_from _ _ e refl)

  listed : (parts : List (Tree L)) → is_list parts ≡ true → HasEntries parts
  listed parts e =
      let both = and_parts (is_within 1 most_entries (length parts)) (list_all printable parts) e in
      (leb-true 1 (length parts) (and_parts _ _ both.0).0, both.1)

  or_entries_at-fit : (t : Tree L) (x : Node-F L (Node L) (Tree L)) → printable t ≡ node_is_printable form
      (opened (node_is_printable form) x)
      → printable t ≡ true → HasEntries (or_entries_at t x)
  or_entries_at-fit t Node-F.Any h e = alone t e
  or_entries_at-fit t (Node-F.Leaf l) h e = alone t e
  or_entries_at-fit t (Node-F.And parts) h e = alone t e
  or_entries_at-fit t (Node-F.Or parts) h e = listed parts (sym (folded_list parts) ∙ sym h ∙ e)
  or_entries_at-fit t (Node-F.Not part) h e = alone t e

  pub or_entries-fit : (t : Tree L) → printable t ≡ true → HasEntries (or_entries t)
  or_entries-fit t e = or_entries_at-fit t (out-Node L (out-Tree L t).node) (fold-node (node_is_printable form) t) e

  and_entries_at-fit : (t : Tree L) (x : Node-F L (Node L) (Tree L)) → printable t ≡ node_is_printable form
      (opened (node_is_printable form) x)
      → printable t ≡ true → HasEntries (and_entries_at t x)
  and_entries_at-fit t Node-F.Any h e = alone t e
  and_entries_at-fit t (Node-F.Leaf l) h e = alone t e
  and_entries_at-fit t (Node-F.And parts) h e = listed parts (sym (folded_list parts) ∙ sym h ∙ e)
  and_entries_at-fit t (Node-F.Or parts) h e = alone t e
  and_entries_at-fit t (Node-F.Not part) h e = alone t e

  pub and_entries-fit : (t : Tree L) → printable t ≡ true → HasEntries (and_entries t)
  and_entries-fit t e = and_entries_at-fit t (out-Node L (out-Tree L t).node) (fold-node (node_is_printable form) t) e

  -- ---- joined trees

  all-fit : (entries : Tree L → List (Tree L)) → ((t : Tree L) → printable t ≡ true → HasEntries (entries t)) → (ts : List (Tree L))
      → list_all printable ts ≡ true → list_all printable (flat_map entries ts) ≡ true
  all-fit entries each [] e = refl
  all-fit entries each (t ∷ ts) e =
      let parts = and_parts (printable t) (list_all printable ts) e in
      list_all-append printable (entries t) (flat_map entries ts) ∙ and_from _ _ (each t parts.0).1 (all-fit entries each ts parts.1)

  joined-fit : (entries : Tree L → List (Tree L)) → ((t : Tree L) → printable t ≡ true → HasEntries (entries t)) → (t : Tree L)
      (ts : List (Tree L))
      → list_all printable (t ∷ ts) ≡ true → total (λ u. length (entries u)) (t ∷ ts) ≤ 8192 → is_list (flat_map entries (t ∷ ts)) ≡ true
  joined-fit entries each t ts e few =
      let all = flat_map entries (t ∷ ts) in
      let count : length all ≡ total (λ u. length (entries u)) (t ∷ ts) = length-flat entries (t ∷ ts) in
      let first : 1 ≤ length (entries t) = (each t (and_parts (printable t) (list_all printable ts) e).0).0 in
      let some : 1 ≤ length all = omega (arith, first, count) in
      let most : length all ≤ 8192 = omega (arith, few, count) in
      and_from _ _ (within (length all) some most) (all-fit entries each (t ∷ ts) e)

  pub printable-or_of : (t : Tree L) (ts : List (Tree L)) → list_all printable (t ∷ ts) ≡ true → total or_width (t ∷ ts) ≤ 8192
      → printable (or_of (t ∷ ts)) ≡ true
  printable-or_of t [] e few = (and_parts _ _ e).0
  printable-or_of t (u ∷ us) e few = printable-Or (flat_map or_entries (t ∷ u ∷ us)) ∙ joined-fit or_entries or_entries-fit t (u ∷ us) e few

  pub printable-and_of : (t : Tree L) (ts : List (Tree L)) → list_all printable (t ∷ ts) ≡ true → total and_width (t ∷ ts) ≤ 8192
      → printable (and_of (t ∷ ts)) ≡ true
  printable-and_of t [] e few = (and_parts _ _ e).0
  printable-and_of t (u ∷ us) e few =
      printable-And (flat_map and_entries (t ∷ u ∷ us)) ∙ joined-fit and_entries and_entries-fit t (u ∷ us) e few
