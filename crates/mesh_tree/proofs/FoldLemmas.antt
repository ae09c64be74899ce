-- A fold over a tree, at a first node that is known.
use Rattle.std.proofs.Common.{◌≡◌, List, map, ap, sym, ◌∙◌}
use Rattle.mesh_tree.specs.declared.tree.Node.{Node, Node-F, fold-Node, fold-roll-Node, fold_out-Node, out-Node}
use Rattle.mesh_tree.specs.declared.tree.Node.TheFolds.{map-Node}
use Rattle.mesh_tree.specs.declared.tree.Node.TheVariants.{And, Or, rolls-And, rolls-Or}
use Rattle.mesh_tree.specs.declared.tree.Tree.{Tree, fold-Tree, fold-roll-Tree, fold_out-Tree, out-Tree, roll-Tree}

module _ {L A : Type 0} (step : Node-F L A A → A) where
  abbrev pub folded : Tree L → A
  folded = fold-Tree L A A step (λ t. t.node)

  -- one node, with the folds of its parts in their place
  abbrev pub opened : Node-F L (Node L) (Tree L) → Node-F L A A
  opened x = map-Node L (Node L) (Tree L) A A (fold-Node L A A step (λ t. t.node)) folded x

  pub fold-node : (t : Tree L) → folded t ≡ step (opened (out-Node L (out-Tree L t).node))
  fold-node t = fold_out-Tree L A A step (λ t. t.node) t ∙ fold_out-Node L A A step (λ t. t.node) (out-Tree L t).node

  pub fold-tree_of : (n : Node L) → folded (roll-Tree L (record { node = n })) ≡ step (opened (out-Node L n))
  fold-tree_of n = fold-roll-Tree L A A step (λ t. t.node) (record { node = n }) ∙ fold_out-Node L A A step (λ t. t.node) n

  fold-And : (parts : List (Tree L)) → fold-Node L A A step (λ t. t.node) (And parts) ≡ step (Node-F.And (map folded parts))
  fold-And parts =
      ap (fold-Node L A A step (λ t. t.node)) (sym (rolls-And parts)) ∙ fold-roll-Node L A A step (λ t. t.node) (Node-F.And parts)

  fold-Or : (parts : List (Tree L)) → fold-Node L A A step (λ t. t.node) (Or parts) ≡ step (Node-F.Or (map folded parts))
  fold-Or parts =
      ap (fold-Node L A A step (λ t. t.node)) (sym (rolls-Or parts)) ∙ fold-roll-Node L A A step (λ t. t.node) (Node-F.Or parts)

  pub folded_And : (t : Tree L) (parts : List (Tree L)) → (out-Tree L t).node ≡ And parts → folded t ≡ step (Node-F.And (map folded parts))
  folded_And t parts h =
      fold_out-Tree L A A step (λ t. t.node) t ∙ ap (fold-Node L A A step (λ t. t.node)) h ∙ fold-And parts

  pub folded_Or : (t : Tree L) (parts : List (Tree L)) → (out-Tree L t).node ≡ Or parts → folded t ≡ step (Node-F.Or (map folded parts))
  folded_Or t parts h =
      fold_out-Tree L A A step (λ t. t.node) t ∙ ap (fold-Node L A A step (λ t. t.node)) h ∙ fold-Or parts

  pub folded-tree_of-And : (parts : List (Tree L))
      → folded (roll-Tree L (record { node = And parts })) ≡ step (Node-F.And (map folded parts))
  folded-tree_of-And parts = fold-roll-Tree L A A step (λ t. t.node) (record { node = And parts }) ∙ fold-And parts

  pub folded-tree_of-Or : (parts : List (Tree L))
      → folded (roll-Tree L (record { node = Or parts })) ≡ step (Node-F.Or (map folded parts))
  folded-tree_of-Or parts = fold-roll-Tree L A A step (λ t. t.node) (record { node = Or parts }) ∙ fold-Or parts
