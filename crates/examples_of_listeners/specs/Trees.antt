-- The leaves of the trees that are shown, and the trees of one leaf.
use Rattle.std.specs.Prelude.{◌≡◌, ℕ, true}
use Rattle.mesh_tree.specs.Tree.{tree_of}
use Rattle.mesh_tree.specs.declared.tree.Node.TheVariants.{Leaf}
use Rattle.mesh_tree.specs.declared.tree.Tree.{Tree}
use Rattle.std.proofs.Common.{ap}
use Rattle.std.proofs.lemmas.Bool.Decides.{Decides-eqb}
use Rattle.examples_of_listeners.specs.declared.trees.Number.{Number}
use Rattle.examples_of_listeners.specs.contracts.trees.NumberPartialEq.TheImpl.{ghosts}

-- equal leaves are the same
pub number_same : (a b : Number) → ghosts.eq a b ≡ true → a ≡ b
number_same a b h = ap (λ (n : ℕ). record { number = n }) ((Decides-eqb a.number b.number).0 h)

-- a tree of one leaf
abbrev pub IsLeaf : Tree Number → Type 0
IsLeaf tree = (number : Number) × (tree ≡ tree_of (Leaf number))
