-- How a tree is written whose first node is known, and the values of a list of trees with one value more.
use Rattle.std.proofs.Common.{◌≡◌, ℕ, ◌+◌, ◌<◌, List, [], ◌∷◌, ◌++◌, get_or, length, map, take, IfOk, Result, refl, sym, subst}
use Rattle.std.proofs.lemmas.List.{map-append, map_more}
use Rattle.serde_json.specs.Data.{Data}
use Rattle.serde_json.specs.View.{view}
use Rattle.serde_json.specs.declared.value.Value.{Value}
use Rattle.mesh_tree.proofs.FoldLemmas.{folded_And, folded_Or}
use Rattle.mesh_tree.specs.Tree.{node_of}
use Rattle.mesh_tree.specs.declared.tree.Node.TheVariants.{And, Or}
use Rattle.mesh_tree.specs.declared.tree.Tree.{Tree}
use Rattle.envoy_types.specs.TreeForms.{TreeForm, node_written, tree_written}
use Rattle.envoy_types.specs.WrittenFields.{list_written, sole_field}

-- the set of the parts of an And or an Or
abbrev pub parts-written : {L : Type 0} → TreeForm L → List (Tree L) → Data
parts-written form parts = sole_field form.parts_name (list_written (tree_written form) parts)

pub written-And : {L : Type 0} (form : TreeForm L) (t : Tree L) (parts : List (Tree L))
    → node_of t ≡ And parts → tree_written form t ≡ sole_field form.and_name (parts-written form parts)
unfolding list_written
written-And form t parts h = folded_And (node_written form) t parts h

pub written-Or : {L : Type 0} (form : TreeForm L) (t : Tree L) (parts : List (Tree L))
    → node_of t ≡ Or parts → tree_written form t ≡ sole_field form.or_name (parts-written form parts)
unfolding list_written
written-Or form t parts h = folded_Or (node_written form) t parts h

-- one value more
pub values-more : {A : Type 0} (written : A → Data) (done all : List Value) (v : Value) (xs : List A) (i : ℕ) (x : A)
    → map view done ≡ map written (take i xs) → all ≡ done ++ v ∷ [] → view v ≡ written x → i < length xs → x ≡ get_or xs i x
    → map view all ≡ map written (take (i + 1) xs)
values-more written done all v xs i x before more is below at =
    rw (more, map-append view done (v ∷ []), before, is, at) (sym (map_more written xs i x below))

-- what is told of an answer, told of an equal one
pub told-of : {E : Type 0} (r : Result Value E) (d other : Data) → d ≡ other → IfOk r (λ v. view v ≡ d) → IfOk r (λ v. view v ≡ other)
told-of r d other same h = subst (λ x. IfOk r (λ v. view v ≡ x)) same h

pub same-sole : (name key : List ℕ) (d other : Data) → name ≡ key → d ≡ other → sole_field name d ≡ sole_field key other
same-sole name key d other names same = rw (names, same) refl
