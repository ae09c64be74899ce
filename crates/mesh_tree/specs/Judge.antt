-- What a matcher tree means, over any test of its leaves.
use Rattle.std.specs.Prelude.{Bool, true, not}
use Rattle.std.specs.List.{list_all, list_any}
use Rattle.mesh_tree.specs.declared.tree.Node.{Node-F}
use Rattle.mesh_tree.specs.declared.tree.Tree.{Tree, fold-Tree}

-- one node, with what its parts are judged in their place
abbrev pub node_holds : {L : Type 0} → (L → Bool) → Node-F L Bool Bool → Bool
node_holds p Node-F.Any = true
node_holds p (Node-F.Leaf l) = p l
node_holds p (Node-F.And parts) = list_all (λ holds. holds) parts
node_holds p (Node-F.Or parts) = list_any (λ holds. holds) parts
node_holds p (Node-F.Not part) = not part

-- Any holds, a leaf where its test does, And where all parts do, Or where one does, Not where its part doesn't
abbrev pub tree_holds : {L : Type 0} → (L → Bool) → Tree L → Bool
tree_holds {L} p = fold-Tree L Bool Bool (node_holds p) (λ t. t.node)
