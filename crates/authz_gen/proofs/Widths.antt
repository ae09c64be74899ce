-- Trees that can be written: how many entries joined trees have.
use Rattle.std.proofs.Common.{◌≡◌, ℕ, ◌+◌, ◌≤◌, true, List, [], ◌∷◌, length, refl, sym, ◌∙◌, ap, arith, length-append}
use Rattle.std.proofs.lemmas.Bool.{and_from, le-leb}
use Rattle.std.specs.List.{flat_map}
use Rattle.mesh_policy.specs.Lists.{total}
use Rattle.mesh_tree.specs.Joined.{and_entries, and_entries_at, and_of, or_entries, or_entries_at, or_of}
use Rattle.mesh_tree.specs.Tree.{node_of, tree_of}
use Rattle.mesh_tree.specs.declared.tree.Node.{Node, Node-F, out-Node, out-roll-Node}
use Rattle.mesh_tree.specs.declared.tree.Node.TheVariants as Node
use Rattle.mesh_tree.specs.declared.tree.Tree.{Tree, out-roll-Tree}
use Rattle.envoy_types.specs.SmallForms.{is_within, most_entries}

pub length-flat : {A B : Type 0} (f : A → List B) (xs : List A) → length (flat_map f xs) ≡ total (λ x. length (f x)) xs
length-flat f [] = refl
length-flat f (x ∷ xs) = length-append (f x) (flat_map f xs) ∙ ap (λ n. length (f x) + n) (length-flat f xs)

pub within : (n : ℕ) → 1 ≤ n → n ≤ 8192 → is_within 1 most_entries n ≡ true
within n least most = and_from _ _ (le-leb 1 n least) (le-leb n 8192 most)

module _ {L : Type 0} where
  -- how many entries a tree is in an Or, and in an And
  abbrev pub or_width : Tree L → ℕ
  or_width tree = length (or_entries tree)

  abbrev pub and_width : Tree L → ℕ
  and_width tree = length (and_entries tree)

  node-made : (n : Node L) → node_of (tree_of n) ≡ n
  node-made n = ap (λ t. t.node) (out-roll-Tree L (record { node = n }))

  opened-as : {B : Type 0} (entries : Node-F L (Node L) (Tree L) → B) (n : Node L) (x : Node-F L (Node L) (Tree L)) → out-Node L n ≡ x
      → entries (out-Node L (node_of (tree_of n))) ≡ entries x
  opened-as entries n x e = ap (λ m. entries (out-Node L m)) (node-made n) ∙ ap entries e

  opened-Or : (parts : List (Tree L)) → out-Node L (Node.Or parts) ≡ Node-F.Or parts
  opened-Or parts = ap (out-Node L) (sym (Node.rolls-Or parts)) ∙ out-roll-Node L (Node-F.Or parts)

  opened-And : (parts : List (Tree L)) → out-Node L (Node.And parts) ≡ Node-F.And parts
  opened-And parts = ap (out-Node L) (sym (Node.rolls-And parts)) ∙ out-roll-Node L (Node-F.And parts)

  opened-Not : (part : Tree L) → out-Node L (Node.Not part) ≡ Node-F.Not part
  opened-Not part = ap (out-Node L) (sym (Node.rolls-Not part)) ∙ out-roll-Node L (Node-F.Not part)

  opened-Leaf : (leaf : L) → out-Node L (Node.Leaf leaf) ≡ Node-F.Leaf leaf
  unfolding out-Node denote.Hole.Carrier.out
  opened-Leaf leaf = refl

  -- ---- widths

  pub or_width-Or : (parts : List (Tree L)) → or_width (tree_of (Node.Or parts)) ≡ length parts
  or_width-Or parts =
      opened-as (λ x. length (or_entries_at (tree_of (Node.Or parts)) x)) (Node.Or parts) (Node-F.Or parts) (opened-Or parts)

  pub or_width-And : (parts : List (Tree L)) → or_width (tree_of (Node.And parts)) ≡ 1
  or_width-And parts =
      opened-as (λ x. length (or_entries_at (tree_of (Node.And parts)) x)) (Node.And parts) (Node-F.And parts) (opened-And parts)

  pub or_width-Not : (part : Tree L) → or_width (tree_of (Node.Not part)) ≡ 1
  or_width-Not part =
      opened-as (λ x. length (or_entries_at (tree_of (Node.Not part)) x)) (Node.Not part) (Node-F.Not part) (opened-Not part)

  pub or_width-Leaf : (leaf : L) → or_width (tree_of (Node.Leaf leaf)) ≡ 1
  or_width-Leaf leaf =
      opened-as (λ x. length (or_entries_at (tree_of (Node.Leaf leaf)) x)) (Node.Leaf leaf) (Node-F.Leaf leaf) (opened-Leaf leaf)

  pub and_width-Or : (parts : List (Tree L)) → and_width (tree_of (Node.Or parts)) ≡ 1
  and_width-Or parts =
      opened-as (λ x. length (and_entries_at (tree_of (Node.Or parts)) x)) (Node.Or parts) (Node-F.Or parts) (opened-Or parts)

  pub and_width-Not : (part : Tree L) → and_width (tree_of (Node.Not part)) ≡ 1
  and_width-Not part =
      opened-as (λ x. length (and_entries_at (tree_of (Node.Not part)) x)) (Node.Not part) (Node-F.Not part) (opened-Not part)

  pub and_width-Leaf : (leaf : L) → and_width (tree_of (Node.Leaf leaf)) ≡ 1
  and_width-Leaf leaf =
      opened-as (λ x. length (and_entries_at (tree_of (Node.Leaf leaf)) x)) (Node.Leaf leaf) (Node-F.Leaf leaf) (opened-Leaf leaf)

  pub and_width-And : (parts : List (Tree L)) → and_width (tree_of (Node.And parts)) ≡ length parts
  and_width-And parts =
      opened-as (λ x. length (and_entries_at (tree_of (Node.And parts)) x)) (Node.And parts) (Node-F.And parts) (opened-And parts)

  -- ---- joined trees

  -- an Or has the entries of its parts
  pub or_width-or : (t : Tree L) (ts : List (Tree L)) → or_width (or_of (t ∷ ts)) ≡ total or_width (t ∷ ts)
  or_width-or t [] = omega arith
  or_width-or t (u ∷ us) = or_width-Or (flat_map or_entries (t ∷ u ∷ us)) ∙ length-flat or_entries (t ∷ u ∷ us)

  -- an And too
  pub and_width-and : (t : Tree L) (ts : List (Tree L)) → and_width (and_of (t ∷ ts)) ≡ total and_width (t ∷ ts)
  and_width-and t [] = omega arith
  and_width-and t (u ∷ us) = and_width-And (flat_map and_entries (t ∷ u ∷ us)) ∙ length-flat and_entries (t ∷ u ∷ us)

  -- an Or is one entry of an And, if it is none of its parts
  pub and_width-or : (t : Tree L) (ts : List (Tree L)) → 1 ≤ and_width t → and_width (or_of (t ∷ ts)) ≤ total and_width (t ∷ ts)
  and_width-or t [] some = omega arith
  and_width-or t (u ∷ us) some =
      let one : and_width (or_of (t ∷ u ∷ us)) ≡ 1 = and_width-Or (flat_map or_entries (t ∷ u ∷ us)) in
      omega (arith, one, some)

  -- and an And one of an Or
  pub or_width-and : (t : Tree L) (ts : List (Tree L)) → 1 ≤ or_width t → or_width (and_of (t ∷ ts)) ≤ total or_width (t ∷ ts)
  or_width-and t [] some = omega arith
  or_width-and t (u ∷ us) some =
      let one : or_width (and_of (t ∷ u ∷ us)) ≡ 1 = or_width-And (flat_map and_entries (t ∷ u ∷ us)) in
      omega (arith, one, some)

abbrev any : (L : Type 0) → Tree L
any L = tree_of Node.Any

opened-Any : (L : Type 0) → out-Node L Node.Any ≡ Node-F.Any
unfolding out-Node denote.Hole.Carrier.out
opened-Any L = refl

pub or_width-Any : (L : Type 0) → or_width (any L) ≡ 1
or_width-Any L = opened-as (λ x. length (or_entries_at (any L) x)) Node.Any Node-F.Any (opened-Any L)

pub and_width-Any : (L : Type 0) → and_width (any L) ≡ 1
and_width-Any L = opened-as (λ x. length (and_entries_at (any L) x)) Node.Any Node-F.Any (opened-Any L)
