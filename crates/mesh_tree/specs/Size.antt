-- How many nodes a tree has, and how deep it is.
use Rattle.std.specs.Prelude.{ℕ, ◌+◌, max, List, [], ◌∷◌}
use Rattle.mesh_tree.specs.declared.tree.Node.{Node-F}
use Rattle.mesh_tree.specs.declared.tree.Tree.{Tree, fold-Tree}

-- the sum of the numbers
abbrev pub total : List ℕ → ℕ
total [] = 0
total (n ∷ ns) = n + total ns

-- the greatest of the numbers, 0 where there is none
abbrev pub greatest : List ℕ → ℕ
greatest [] = 0
greatest (n ∷ ns) = max n (greatest ns)

-- one node, with how many nodes its parts have in their place
abbrev pub node_count : {L : Type 0} → Node-F L ℕ ℕ → ℕ
node_count Node-F.Any = 1
node_count (Node-F.Leaf l) = 1
node_count (Node-F.And parts) = total parts + 1
node_count (Node-F.Or parts) = total parts + 1
node_count (Node-F.Not part) = part + 1

-- how many nodes stand in the tree, one that stands there twice counted twice
abbrev pub tree_count : {L : Type 0} → Tree L → ℕ
tree_count {L} = fold-Tree L ℕ ℕ node_count (λ t. t.node)

-- one node, with how deep its parts are in their place
abbrev pub node_depth : {L : Type 0} → Node-F L ℕ ℕ → ℕ
node_depth Node-F.Any = 1
node_depth (Node-F.Leaf l) = 1
node_depth (Node-F.And parts) = greatest parts + 1
node_depth (Node-F.Or parts) = greatest parts + 1
node_depth (Node-F.Not part) = part + 1

-- how many nodes stand on the longest way from the first node down
abbrev pub tree_depth : {L : Type 0} → Tree L → ℕ
tree_depth {L} = fold-Tree L ℕ ℕ node_depth (λ t. t.node)
