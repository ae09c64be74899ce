-- Trees without an empty list.
use Rattle.std.specs.Prelude.{Bool, true, false, ◌&&◌, List, [], ◌∷◌}
use Rattle.std.specs.List.{list_all}
use Rattle.mesh_tree.specs.declared.tree.Node.{Node-F}
use Rattle.mesh_tree.specs.declared.tree.Tree.{Tree, fold-Tree}

-- there is an item
abbrev pub not_empty : {A : Type 0} → List A → Bool
not_empty [] = false
not_empty (x ∷ xs) = true

-- one node, with whether its parts are full in their place
abbrev pub node_is_full : {L : Type 0} → Node-F L Bool Bool → Bool
node_is_full Node-F.Any = true
node_is_full (Node-F.Leaf l) = true
node_is_full (Node-F.And parts) = not_empty parts && list_all (λ full. full) parts
node_is_full (Node-F.Or parts) = not_empty parts && list_all (λ full. full) parts
node_is_full (Node-F.Not part) = part

-- no list in the tree is empty
abbrev pub is_full : {L : Type 0} → Tree L → Bool
is_full {L} = fold-Tree L Bool Bool node_is_full (λ t. t.node)
