-- Trees joined by and, and by or.
use Rattle.std.specs.Prelude.{List, [], ◌∷◌}
use Rattle.std.specs.List.{flat_map}
use Rattle.mesh_tree.specs.declared.tree.Node.{Node, Node-F, out-Node}
use Rattle.mesh_tree.specs.declared.tree.Node.TheVariants as Node
use Rattle.mesh_tree.specs.declared.tree.Tree.{Tree}
use Rattle.mesh_tree.specs.Tree.{node_of, tree_of}

-- the entries of an And, by the opened first node of the tree
abbrev pub and_entries_at : {L : Type 0} → Tree L → Node-F L (Node L) (Tree L) → List (Tree L)
and_entries_at tree (Node-F.And entries) = entries
and_entries_at tree _ = tree ∷ []

-- the entries of an And, or the tree alone
abbrev pub and_entries : {L : Type 0} → Tree L → List (Tree L)
and_entries {L} tree = and_entries_at tree (out-Node L (node_of tree))

-- one tree is itself; of several the And of their entries in order
abbrev pub and_of : {L : Type 0} → List (Tree L) → Tree L
and_of (tree ∷ []) = tree
and_of trees = tree_of (Node.And (flat_map and_entries trees))

-- the entries of an Or, by the opened first node of the tree
abbrev pub or_entries_at : {L : Type 0} → Tree L → Node-F L (Node L) (Tree L) → List (Tree L)
or_entries_at tree (Node-F.Or entries) = entries
or_entries_at tree _ = tree ∷ []

-- the entries of an Or, or the tree alone
abbrev pub or_entries : {L : Type 0} → Tree L → List (Tree L)
or_entries {L} tree = or_entries_at tree (out-Node L (node_of tree))

-- one tree is itself; of several the Or of their entries in order
abbrev pub or_of : {L : Type 0} → List (Tree L) → Tree L
or_of (tree ∷ []) = tree
or_of trees = tree_of (Node.Or (flat_map or_entries trees))
