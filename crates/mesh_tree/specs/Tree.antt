-- Matcher trees and their nodes.
use Rattle.std.specs.Prelude.{⊤, ◌<◌, List, [], ◌∷◌, length}
use Rattle.mesh_tree.specs.declared.tree.Node.{Node, Node-F, out-Node}
use Rattle.mesh_tree.specs.declared.tree.Tree.{Tree, out-Tree, roll-Tree}

-- the tree whose first node is this one
abbrev pub tree_of : {L : Type 0} → Node L → Tree L
tree_of {L} node = roll-Tree L (record { node = node })

-- the first node of a tree
abbrev pub node_of : {L : Type 0} → Tree L → Node L
node_of {L} tree = (out-Tree L tree).node

-- the trees right below an opened node
abbrev pub parts_at : {L : Type 0} → Node-F L (Node L) (Tree L) → List (Tree L)
parts_at Node-F.Any = []
parts_at (Node-F.Leaf l) = []
parts_at (Node-F.And parts) = parts
parts_at (Node-F.Or parts) = parts
parts_at (Node-F.Not part) = part ∷ []

-- the trees right below a node
abbrev pub parts_of : {L : Type 0} → Node L → List (Tree L)
parts_of {L} node = parts_at (out-Node L node)

-- the list of an And or an Or is not empty, of an opened node
abbrev pub HasPartsAt : {L : Type 0} → Node-F L (Node L) (Tree L) → Type 0
HasPartsAt Node-F.Any = ⊤
HasPartsAt (Node-F.Leaf l) = ⊤
HasPartsAt (Node-F.And parts) = 0 < length parts
HasPartsAt (Node-F.Or parts) = 0 < length parts
HasPartsAt (Node-F.Not part) = ⊤

-- the list of an And or an Or is not empty
abbrev pub HasParts : {L : Type 0} → Node L → Type 0
HasParts {L} node = HasPartsAt (out-Node L node)
