-- Sizes within the limits of a workload, and how wide the trees of entries of such sizes are.
use Rattle.std.proofs.Common.{ℕ, ◌+◌, ◌*◌, ◌≤◌, All, List, [], ◌∷◌, map, arith}
use Rattle.std.proofs.lemmas.List.Elements.{All-head, All-tail}
use Rattle.std.specs.List.{flat_map}
use Rattle.mesh_policy.specs.Sizes as sizes
use Rattle.mesh_tree.specs.declared.tree.Tree.{Tree}
use Rattle.envoy_types.specs.TreeForms.{TreeForm}
use Rattle.authz_gen.proofs.Fits.{AllFit, Fits, all-more, both-fit, no-trees, one-more}

-- values and entries within the limits of a workload
pub record IsSmall (size : sizes.Size) : Type 0 where
  pub values : size.values ≤ 2048
  pub entries : size.entries ≤ 1024

-- one for each entry, and three for each value
abbrev pub width_of : sizes.Size → ℕ
width_of size = size.entries + 3 * size.values

pub first-small : (part : sizes.Size) (parts : List sizes.Size) → IsSmall (sizes.sum_of (part ∷ parts)) → IsSmall part
first-small part parts small = record { values = omega (arith, small.values); entries = omega (arith, small.entries) }

pub rest-small : (part : sizes.Size) (parts : List sizes.Size) → IsSmall (sizes.sum_of (part ∷ parts)) → IsSmall (sizes.sum_of parts)
rest-small part parts small = record { values = omega (arith, small.values); entries = omega (arith, small.entries) }

module _ {L : Type 0} (form : TreeForm L) {A : Type 0} (size : A → sizes.Size) (Good : A → Type 0) where
  abbrev sum : List A → sizes.Size
  sum xs = sizes.sum_of (map size xs)

  -- trees that are as wide as their entries are large are so together
  pub sized-fit : (tree : A → Tree L) → ((x : A) → Good x → IsSmall (size x) → Fits form (tree x) (width_of (size x)))
      → (xs : List A) → All Good xs → IsSmall (sum xs) → AllFit form (map tree xs) (width_of (sum xs))
  sized-fit tree each [] h small = no-trees form (width_of (sum []))
  sized-fit tree each (x ∷ xs) h small =
      let first = each x (All-head Good x xs h) (first-small (size x) (map size xs) small) in
      let rest = sized-fit tree each xs (All-tail Good x xs h) (rest-small (size x) (map size xs) small) in
      all-more form (map tree (x ∷ xs)) (width_of (size x) + width_of (sum xs)) (width_of (sum (x ∷ xs)))
      (one-more form (tree x) (map tree xs) (width_of (size x)) (width_of (sum xs)) first rest) (omega arith)

  -- and where an entry has some trees
  pub sized-all-fit : (trees : A → List (Tree L)) → ((x : A) → Good x → IsSmall (size x) → AllFit form (trees x) (width_of (size x)))
      → (xs : List A) → All Good xs → IsSmall (sum xs) → AllFit form (flat_map trees xs) (width_of (sum xs))
  sized-all-fit trees each [] h small = no-trees form (width_of (sum []))
  sized-all-fit trees each (x ∷ xs) h small =
      let first = each x (All-head Good x xs h) (first-small (size x) (map size xs) small) in
      let rest = sized-all-fit trees each xs (All-tail Good x xs h) (rest-small (size x) (map size xs) small) in
      all-more form (flat_map trees (x ∷ xs)) (width_of (size x) + width_of (sum xs)) (width_of (sum (x ∷ xs)))
      (both-fit form (trees x) (flat_map trees xs) (width_of (size x)) (width_of (sum xs)) first rest) (omega arith)
