-- The exact shape of joined trees: of one part, and of several.
use Rattle.std.proofs.Common.{◌≡◌, ◌≢◌, List, [], ◌∷◌, length, get_or, refl, arith}
use Rattle.std.specs.List.{flat_map}
use Rattle.mesh_tree.specs.declared.tree.Node.TheVariants.{And, Or}
use Rattle.mesh_tree.specs.declared.tree.Tree.{Tree}
use Rattle.mesh_tree.specs.Joined.{and_entries, and_of, or_entries, or_of}
use Rattle.mesh_tree.specs.Tree.{tree_of}

module _ {L : Type 0} where
  pub and_of-one : (ts : List (Tree L)) (t : Tree L) → length ts ≡ 1 → t ≡ get_or ts 0 t → t ≡ and_of ts
  and_of-one [] t one e = absurd (omega (arith, one))
  and_of-one (x ∷ []) t one e = e
  and_of-one (x ∷ y ∷ ts) t one e = absurd (omega (arith, one))

  pub or_of-one : (ts : List (Tree L)) (t : Tree L) → length ts ≡ 1 → t ≡ get_or ts 0 t → t ≡ or_of ts
  or_of-one [] t one e = absurd (omega (arith, one))
  or_of-one (x ∷ []) t one e = e
  or_of-one (x ∷ y ∷ ts) t one e = absurd (omega (arith, one))

  pub and_of-several : (ts : List (Tree L)) → length ts ≢ 1 → tree_of (And (flat_map and_entries ts)) ≡ and_of ts
  and_of-several [] several = refl
  and_of-several (x ∷ []) several = absurd (several refl)
  and_of-several (x ∷ y ∷ ts) several = refl

  pub or_of-several : (ts : List (Tree L)) → length ts ≢ 1 → tree_of (Or (flat_map or_entries ts)) ≡ or_of ts
  or_of-several [] several = refl
  or_of-several (x ∷ []) several = absurd (several refl)
  or_of-several (x ∷ y ∷ ts) several = refl
