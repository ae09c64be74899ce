-- Trees that are made of trees that are written as small values are written so too.
use Rattle.std.proofs.Common.{◌≡◌, ℕ, zero, suc, Bool, true, ◌&&◌, List, [], ◌∷◌, length, map, refl, sym, ◌∙◌, ap}
use Rattle.std.proofs.Math.Bool.{and-true}
use Rattle.std.proofs.Math.Dec.{eqb-suc-zero}
use Rattle.std.proofs.lemmas.Bool.{and_parts, and_from}
use Rattle.std.proofs.lemmas.List.Folds.{list_all-append}
use Rattle.std.specs.List.{flat_map, list_all}
use Rattle.serde_json.specs.Data.{Data, array}
use Rattle.serde_json.specs.View.{items_of}
use Rattle.mesh_policy.proofs.Listed.{list_all-weaker}
use Rattle.mesh_tree.specs.Joined.{and_entries, and_entries_at, and_of, or_entries, or_entries_at, or_of}
use Rattle.mesh_tree.specs.Tree.{tree_of}
use Rattle.mesh_tree.specs.declared.tree.Node.{Node, Node-F, fold-Node, fold-roll-Node, out-Node}
use Rattle.mesh_tree.specs.declared.tree.Node.TheVariants as Node
use Rattle.mesh_tree.specs.declared.tree.Tree.{Tree, fold-roll-Tree, out-Tree}
use Rattle.mesh_tree.proofs.FoldLemmas.{folded-tree_of-And, folded-tree_of-Or, fold-node, fold-tree_of, opened}
use Rattle.envoy_types.specs.TreeForms.{TreeForm, node_written, tree_written}
use Rattle.envoy_types.specs.WrittenFields.{sole_field}
use Rattle.authz_gen.specs.Lists.{all_of, field_of, if_any, none_of}
use Rattle.chain_build.proofs.Small.{is_small, items_small, items-small, small-deeper}

module _ {L : Type 0} (form : TreeForm L) where
  -- written as a small value
  abbrev pub low : ℕ → Tree L → Bool
  low n tree = is_small n (tree_written form tree)

  abbrev pub all_low : ℕ → List (Tree L) → Bool
  all_low n trees = list_all (low n) trees

  deeper : (n : ℕ) (trees : List (Tree L)) → all_low n trees ≡ true → all_low (suc n) trees ≡ true
  deeper n trees h = list_all-weaker (low n) (low (suc n)) (λ tree. small-deeper n (tree_written form tree)) trees h

  deeper-3 : (n : ℕ) (trees : List (Tree L)) → all_low n trees ≡ true → all_low (suc (suc (suc n))) trees ≡ true
  deeper-3 n trees h = deeper (suc (suc n)) trees (deeper (suc n) trees (deeper n trees h))

  -- one more level goes as well, and four
  pub low-deeper : (n : ℕ) (tree : Tree L) → low n tree ≡ true → low (suc n) tree ≡ true
  low-deeper n tree h = small-deeper n (tree_written form tree) h

  pub low-deeper-4 : (n : ℕ) (tree : Tree L) → low n tree ≡ true → low (suc (suc (suc (suc n)))) tree ≡ true
  low-deeper-4 n tree h =
      low-deeper (suc (suc (suc n))) tree (low-deeper (suc (suc n)) tree (low-deeper (suc n) tree (low-deeper n tree h)))

  -- ---- nodes

  pub low-any : (n : ℕ) → low (suc n) (tree_of Node.Any) ≡ true
  unfolding out-Node denote.Hole.Carrier.out
  low-any n = ap (is_small (suc n)) (fold-tree_of (node_written form) Node.Any)

  pub low-leaf : (n : ℕ) (leaf : L) → is_small n (form.leaf_written leaf) ≡ true → low n (tree_of (Node.Leaf leaf)) ≡ true
  unfolding out-Node denote.Hole.Carrier.out
  low-leaf n leaf h = ap (is_small n) (fold-tree_of (node_written form) (Node.Leaf leaf)) ∙ h

  not-written : (tree : Tree L) → tree_written form (tree_of (Node.Not tree)) ≡ sole_field form.not_name (tree_written form tree)
  not-written tree =
      fold-roll-Tree L Data Data (node_written form) (λ t. t.node) (record { node = Node.Not tree })
      ∙ ap (fold-Node L Data Data (node_written form) (λ t. t.node)) (sym (Node.rolls-Not tree))
      ∙ fold-roll-Node L Data Data (node_written form) (λ t. t.node) (Node-F.Not tree)

  pub low-not : (n : ℕ) (tree : Tree L) → low n tree ≡ true → low (suc n) (tree_of (Node.Not tree)) ≡ true
  low-not n tree h = ap (is_small (suc n)) (not-written tree) ∙ and-true (low n tree) ∙ h

  -- a list of trees under the names of its alternative and of its parts
  abbrev parts_written : List ℕ → List (Tree L) → Data
  parts_written name trees = sole_field name (sole_field form.parts_name (array (items_of (map (tree_written form) trees))))

  parts-small : (name : List ℕ) (n : ℕ) (trees : List (Tree L))
      → is_small (suc (suc (suc n))) (parts_written name trees) ≡ all_low n trees
  parts-small name n trees =
      and-true (items_small n (items_of (map (tree_written form) trees)) && true)
      ∙ and-true (items_small n (items_of (map (tree_written form) trees)))
      ∙ items-small (tree_written form) n trees

  low-parts : (name : List ℕ) (n : ℕ) (trees : List (Tree L)) → is_small n (parts_written name trees) ≡ true → all_low n trees ≡ true
  low-parts name zero trees h = cc
  low-parts name (suc zero) trees h = cc
  low-parts name (suc (suc zero)) trees h = cc
  low-parts name (suc (suc (suc n))) trees h = deeper-3 n trees (sym (parts-small name n trees) ∙ h)

  -- ---- the entries of a tree

  alone : (n : ℕ) (tree : Tree L) → low n tree ≡ true → all_low n (tree ∷ []) ≡ true
  alone n tree h = and_from _ _ h refl

  low-or_entries-at : (n : ℕ) (tree : Tree L) (x : Node-F L (Node L) (Tree L))
      → tree_written form tree ≡ node_written form (opened (node_written form) x)
      → low n tree ≡ true → all_low n (or_entries_at tree x) ≡ true
  low-or_entries-at n tree Node-F.Any e h = alone n tree h
  low-or_entries-at n tree (Node-F.Leaf leaf) e h = alone n tree h
  low-or_entries-at n tree (Node-F.And parts) e h = alone n tree h
  low-or_entries-at n tree (Node-F.Or parts) e h = low-parts form.or_name n parts (sym (ap (is_small n) e) ∙ h)
  low-or_entries-at n tree (Node-F.Not part) e h = alone n tree h

  low-or_entries : (n : ℕ) (tree : Tree L) → low n tree ≡ true → all_low n (or_entries tree) ≡ true
  low-or_entries n tree h = low-or_entries-at n tree (out-Node L (out-Tree L tree).node) (fold-node (node_written form) tree) h

  low-and_entries-at : (n : ℕ) (tree : Tree L) (x : Node-F L (Node L) (Tree L))
      → tree_written form tree ≡ node_written form (opened (node_written form) x)
      → low n tree ≡ true → all_low n (and_entries_at tree x) ≡ true
  low-and_entries-at n tree Node-F.Any e h = alone n tree h
  low-and_entries-at n tree (Node-F.Leaf leaf) e h = alone n tree h
  low-and_entries-at n tree (Node-F.And parts) e h = low-parts form.and_name n parts (sym (ap (is_small n) e) ∙ h)
  low-and_entries-at n tree (Node-F.Or parts) e h = alone n tree h
  low-and_entries-at n tree (Node-F.Not part) e h = alone n tree h

  low-and_entries : (n : ℕ) (tree : Tree L) → low n tree ≡ true → all_low n (and_entries tree) ≡ true
  low-and_entries n tree h = low-and_entries-at n tree (out-Node L (out-Tree L tree).node) (fold-node (node_written form) tree) h

  all-entries : (entries : Tree L → List (Tree L)) (n : ℕ) → ((tree : Tree L) → low n tree ≡ true → all_low n (entries tree) ≡ true)
      → (trees : List (Tree L)) → all_low n trees ≡ true → all_low n (flat_map entries trees) ≡ true
  all-entries entries n each [] h = refl
  all-entries entries n each (tree ∷ trees) h =
      let both = and_parts (low n tree) (all_low n trees) h in
      list_all-append (low n) (entries tree) (flat_map entries trees)
      ∙ and_from _ _ (each tree both.0) (all-entries entries n each trees both.1)

  -- ---- joined trees

  low-one : (n : ℕ) (tree : Tree L) → all_low n (tree ∷ []) ≡ true → low (suc (suc (suc n))) tree ≡ true
  low-one n tree h = (and_parts _ _ (deeper-3 n (tree ∷ []) h)).0

  pub low-or_of : (n : ℕ) (trees : List (Tree L)) → all_low n trees ≡ true → low (suc (suc (suc n))) (or_of trees) ≡ true
  low-or_of n [] h = ap (is_small (suc (suc (suc n)))) (folded-tree_of-Or (node_written form) [])
  low-or_of n (tree ∷ []) h = low-one n tree h
  low-or_of n (tree ∷ other ∷ trees) h =
      let entries = flat_map or_entries (tree ∷ other ∷ trees) in
      ap (is_small (suc (suc (suc n)))) (folded-tree_of-Or (node_written form) entries)
      ∙ parts-small form.or_name n entries
      ∙ all-entries or_entries n (low-or_entries n) (tree ∷ other ∷ trees) h

  pub low-and_of : (n : ℕ) (trees : List (Tree L)) → all_low n trees ≡ true → low (suc (suc (suc n))) (and_of trees) ≡ true
  low-and_of n [] h = ap (is_small (suc (suc (suc n)))) (folded-tree_of-And (node_written form) [])
  low-and_of n (tree ∷ []) h = low-one n tree h
  low-and_of n (tree ∷ other ∷ trees) h =
      let entries = flat_map and_entries (tree ∷ other ∷ trees) in
      ap (is_small (suc (suc (suc n)))) (folded-tree_of-And (node_written form) entries)
      ∙ parts-small form.and_name n entries
      ∙ all-entries and_entries n (low-and_entries n) (tree ∷ other ∷ trees) h

  pub low-all_of : (n : ℕ) (trees : List (Tree L)) → all_low n trees ≡ true → low (suc (suc (suc n))) (all_of trees) ≡ true
  low-all_of n [] h = low-any (suc (suc n))
  low-all_of n (tree ∷ trees) h = rw (eqb-suc-zero (length trees)) (low-and_of n (tree ∷ trees) h)

  pub low-if_or : (n : ℕ) (trees : List (Tree L)) → all_low n trees ≡ true → all_low (suc (suc (suc n))) (if_any or_of trees) ≡ true
  low-if_or n [] h = refl
  low-if_or n (tree ∷ trees) h =
      rw (eqb-suc-zero (length trees)) (alone (suc (suc (suc n))) (or_of (tree ∷ trees)) (low-or_of n (tree ∷ trees) h))

  low-if_none : (n : ℕ) (trees : List (Tree L)) → all_low n trees ≡ true
      → all_low (suc (suc (suc (suc n)))) (if_any none_of trees) ≡ true
  low-if_none n [] h = refl
  low-if_none n (tree ∷ trees) h =
      rw (eqb-suc-zero (length trees))
      (alone (suc (suc (suc (suc n)))) (none_of (tree ∷ trees))
      (low-not (suc (suc (suc n))) (or_of (tree ∷ trees)) (low-or_of n (tree ∷ trees) h)))

  -- what a field asks is four levels deeper than its values
  pub low-field : (n : ℕ) (trees not_trees : List (Tree L)) → all_low n trees ≡ true → all_low n not_trees ≡ true
      → all_low (suc (suc (suc (suc n)))) (field_of trees not_trees) ≡ true
  low-field n trees not_trees h k =
      list_all-append (low (suc (suc (suc (suc n))))) (if_any or_of trees) (if_any none_of not_trees)
      ∙ and_from _ _ (deeper (suc (suc (suc n))) (if_any or_of trees) (low-if_or n trees h)) (low-if_none n not_trees k)
