-- How many nodes the trees have whose sizes are shown.
use Rattle.std.proofs.Common.{◌≡◌, ℕ, ◌+◌, List, [], ◌∷◌, ◌++◌, map, refl, ap, sym, ◌∙◌}
use Rattle.mesh_tree.proofs.FoldLemmas.{fold-tree_of, folded-tree_of-And}
use Rattle.mesh_tree.specs.Joined.{and_entries, and_entries_at, and_of}
use Rattle.mesh_tree.specs.Size.{node_count, tree_count}
use Rattle.mesh_tree.specs.Tree.{node_of, tree_of}
use Rattle.mesh_tree.specs.declared.tree.Node.{Node, Node-F, fold-Node, fold-roll-Node, out-Node, out-roll-Node}
use Rattle.mesh_tree.specs.declared.tree.Node.TheVariants.{And, Any, Leaf, Not, rolls-And, rolls-Not}
use Rattle.mesh_tree.specs.declared.tree.Tree.{Tree, fold-roll-Tree, out-roll-Tree}

count-any : (L : Type 0) → tree_count (tree_of {L = L} Any) ≡ 1
unfolding out-Node denote.Hole.Carrier.out
count-any L = fold-tree_of node_count Any

module _ {L : Type 0} where
  abbrev pub IsLeaf : Tree L → Type 0
  IsLeaf tree = (l : L) × (tree ≡ tree_of (Leaf l))

  count-leaf : (l : L) → tree_count (tree_of (Leaf l)) ≡ 1
  unfolding out-Node denote.Hole.Carrier.out
  count-leaf l = fold-tree_of node_count (Leaf l)

  count-not : (t : Tree L) → tree_count (tree_of (Not t)) ≡ tree_count t + 1
  count-not t =
      fold-roll-Tree L ℕ ℕ node_count (λ t. t.node) (record { node = Not t })
      ∙ ap (fold-Node L ℕ ℕ node_count (λ t. t.node)) (sym (rolls-Not t))
      ∙ fold-roll-Node L ℕ ℕ node_count (λ t. t.node) (Node-F.Not t)

  -- the first node of a tree that is made of a node
  node-made : (n : Node L) → node_of (tree_of n) ≡ n
  node-made n = ap (λ t. t.node) (out-roll-Tree L (record { node = n }))

  leaf-entries : (l : L) → and_entries (tree_of (Leaf l)) ≡ tree_of (Leaf l) ∷ []
  unfolding out-Node denote.Hole.Carrier.out
  leaf-entries l = ap (λ n. and_entries_at (tree_of (Leaf l)) (out-Node L n)) (node-made (Leaf l))

  and-entries : (parts : List (Tree L)) → and_entries (tree_of (And parts)) ≡ parts
  and-entries parts =
      ap (λ n. and_entries_at (tree_of (And parts)) (out-Node L n)) (node-made (And parts) ∙ sym (rolls-And parts))
      ∙ ap (and_entries_at (tree_of (And parts))) (out-roll-Node L (Node-F.And parts))

  -- the entries of two parts
  of-two : (x y : Tree L) (xs ys : List (Tree L)) → and_entries x ≡ xs → and_entries y ≡ ys
      → and_of (x ∷ y ∷ []) ≡ tree_of (And (xs ++ (ys ++ [])))
  of-two x y xs ys ex ey = ap (λ zs. tree_of (And (zs ++ (and_entries y ++ [])))) ex ∙ ap (λ zs. tree_of (And (xs ++ (zs ++ [])))) ey

  pub count-three : (x y z : Tree L) → IsLeaf x → IsLeaf y → IsLeaf z → tree_count (and_of (and_of (x ∷ y ∷ []) ∷ z ∷ [])) ≡ 4
  count-three x y z hx hy hz =
      let pair = tree_of (Leaf hx.0) ∷ tree_of (Leaf hy.0) ∷ [] in
      let inner : and_of (x ∷ y ∷ []) ≡ tree_of (And pair) =
      ap (λ t. and_of (t ∷ y ∷ [])) hx.1 ∙ ap (λ t. and_of (tree_of (Leaf hx.0) ∷ t ∷ [])) hy.1
      ∙ of-two (tree_of (Leaf hx.0)) (tree_of (Leaf hy.0)) _ _ (leaf-entries hx.0) (leaf-entries hy.0) in
      let whole : and_of (and_of (x ∷ y ∷ []) ∷ z ∷ []) ≡ tree_of (And (pair ++ (tree_of (Leaf hz.0) ∷ []))) =
      ap (λ t. and_of (t ∷ z ∷ [])) inner ∙ ap (λ t. and_of (tree_of (And pair) ∷ t ∷ [])) hz.1
      ∙ of-two (tree_of (And pair)) (tree_of (Leaf hz.0)) _ _ (and-entries pair) (leaf-entries hz.0) in
      ap tree_count whole ∙ folded-tree_of-And node_count (pair ++ (tree_of (Leaf hz.0) ∷ []))
      ∙ ap (λ n. n + (tree_count (tree_of (Leaf hy.0)) + (tree_count (tree_of (Leaf hz.0)) + 0)) + 1) (count-leaf hx.0)
      ∙ ap (λ n. 1 + (n + (tree_count (tree_of (Leaf hz.0)) + 0)) + 1) (count-leaf hy.0)
      ∙ ap (λ n. 1 + (1 + (n + 0)) + 1) (count-leaf hz.0)

pub count-never : (L : Type 0) → tree_count (tree_of {L = L} (Not (tree_of Any))) ≡ 2
count-never L = count-not (tree_of Any) ∙ ap (λ n. n + 1) (count-any L)
