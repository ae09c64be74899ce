-- A tree made of full trees is full.
use Rattle.std.proofs.Common.{◌≡◌, ◌<◌, Bool, true, ◌&&◌, List, [], ◌∷◌, ◌++◌, length, map, Result, Ok, Err, IfOk, IsTrue}
use Rattle.std.proofs.Common.{ap, sym, refl, ◌∙◌, arith}
use Rattle.std.proofs.Math.Bool.{and-true}
use Rattle.std.proofs.lemmas.Bool.{and_from, and_parts}
use Rattle.std.proofs.lemmas.List.Folds.{list_all-append, list_all-map}
use Rattle.std.specs.List.{flat_map, list_all}
use Rattle.mesh_text.specs.declared.memory.Memory.{Memory}
use Rattle.mesh_tree.specs.declared.tree.Node.{Node, Node-F, out-Node}
use Rattle.mesh_tree.specs.declared.tree.Tree.{Tree, out-Tree}
use Rattle.mesh_tree.specs.Full.{is_full, node_is_full, not_empty}
use Rattle.mesh_tree.specs.Joined.{and_entries, and_entries_at, and_of, or_entries, or_entries_at, or_of}
use Rattle.mesh_tree.specs.Tree.{parts_at, parts_of, tree_of, HasParts, HasPartsAt}
use Rattle.mesh_tree.proofs.FoldLemmas.{folded-tree_of-And, folded-tree_of-Or, fold-node, fold-tree_of, opened}

not_empty-map : {X Y : Type 0} (f : X → Y) (xs : List X) → not_empty (map f xs) ≡ not_empty xs
not_empty-map f [] = refl
not_empty-map f (x ∷ xs) = refl

not_empty-append : {X : Type 0} (xs ys : List X) → not_empty xs ≡ true → not_empty (xs ++ ys) ≡ true
not_empty-append [] ys some = absurd cc
not_empty-append (x ∷ xs) ys some = refl

module _ {L : Type 0} where
  -- a list that is not empty, of full trees
  abbrev is_full_list : List (Tree L) → Bool
  is_full_list ts = not_empty ts && list_all is_full ts

  folded_list : (ts : List (Tree L)) → (not_empty (map is_full ts) && list_all (λ b. b) (map is_full ts)) ≡ is_full_list ts
  folded_list ts =
      ap (λ b. b && list_all (λ b. b) (map is_full ts)) (not_empty-map is_full ts)
      ∙ ap (λ b. not_empty ts && b) (list_all-map (λ b. b) is_full ts)

  and_entries-full_at : (t : Tree L) (x : Node-F L (Node L) (Tree L)) → is_full t ≡ node_is_full (opened node_is_full x)
      → is_full_list (and_entries_at t x) ≡ is_full t
  and_entries-full_at t Node-F.Any h = and-true (is_full t)
  and_entries-full_at t (Node-F.Leaf l) h = and-true (is_full t)
  and_entries-full_at t (Node-F.And parts) h = sym (h ∙ folded_list parts)
  and_entries-full_at t (Node-F.Or parts) h = and-true (is_full t)
  and_entries-full_at t (Node-F.Not part) h = and-true (is_full t)

  and_entries-full : (t : Tree L) → is_full_list (and_entries t) ≡ is_full t
  and_entries-full t = and_entries-full_at t (out-Node L (out-Tree L t).node) (fold-node node_is_full t)

  or_entries-full_at : (t : Tree L) (x : Node-F L (Node L) (Tree L)) → is_full t ≡ node_is_full (opened node_is_full x)
      → is_full_list (or_entries_at t x) ≡ is_full t
  or_entries-full_at t Node-F.Any h = and-true (is_full t)
  or_entries-full_at t (Node-F.Leaf l) h = and-true (is_full t)
  or_entries-full_at t (Node-F.And parts) h = and-true (is_full t)
  or_entries-full_at t (Node-F.Or parts) h = sym (h ∙ folded_list parts)
  or_entries-full_at t (Node-F.Not part) h = and-true (is_full t)

  or_entries-full : (t : Tree L) → is_full_list (or_entries t) ≡ is_full t
  or_entries-full t = or_entries-full_at t (out-Node L (out-Tree L t).node) (fold-node node_is_full t)

  all_entries-full : (entries : Tree L → List (Tree L)) → ((t : Tree L) → is_full_list (entries t) ≡ is_full t) → (ts : List (Tree L))
      → list_all is_full ts ≡ true → list_all is_full (flat_map entries ts) ≡ true
  all_entries-full entries each [] full = refl
  all_entries-full entries each (t ∷ ts) full =
      let parts = and_parts (is_full t) (list_all is_full ts) full in
      let here = and_parts (not_empty (entries t)) (list_all is_full (entries t)) (each t ∙ parts.0) in
      list_all-append is_full (entries t) (flat_map entries ts)
      ∙ and_from _ _ here.1 (all_entries-full entries each ts parts.1)

  entries-full_list : (entries : Tree L → List (Tree L)) → ((t : Tree L) → is_full_list (entries t) ≡ is_full t)
      → (t : Tree L) (ts : List (Tree L)) → list_all is_full (t ∷ ts) ≡ true → is_full_list (flat_map entries (t ∷ ts)) ≡ true
  entries-full_list entries each t ts full =
      let parts = and_parts (is_full t) (list_all is_full ts) full in
      let here = and_parts (not_empty (entries t)) (list_all is_full (entries t)) (each t ∙ parts.0) in
      and_from _ _ (not_empty-append (entries t) (flat_map entries ts) here.0) (all_entries-full entries each (t ∷ ts) full)

  full-and_of : (ts : List (Tree L)) → 0 < length ts → list_all is_full ts ≡ true → is_full (and_of ts) ≡ true
  full-and_of [] some full = absurd (omega (arith, some))
  full-and_of (t ∷ []) some full = sym (and-true (is_full t)) ∙ full
  full-and_of (t ∷ u ∷ ts) some full =
      let entries = flat_map and_entries (t ∷ u ∷ ts) in
      folded-tree_of-And node_is_full entries ∙ folded_list entries
      ∙ entries-full_list and_entries and_entries-full t (u ∷ ts) full

  full-or_of : (ts : List (Tree L)) → 0 < length ts → list_all is_full ts ≡ true → is_full (or_of ts) ≡ true
  full-or_of [] some full = absurd (omega (arith, some))
  full-or_of (t ∷ []) some full = sym (and-true (is_full t)) ∙ full
  full-or_of (t ∷ u ∷ ts) some full =
      let entries = flat_map or_entries (t ∷ u ∷ ts) in
      folded-tree_of-Or node_is_full entries ∙ folded_list entries
      ∙ entries-full_list or_entries or_entries-full t (u ∷ ts) full

  -- where there was memory
  pub and_full : (ts : List (Tree L)) → 0 < length ts → (r : Result (Tree L) Memory) → IfOk r (λ t. t ≡ and_of ts)
      → IfOk r (λ t. IsTrue (list_all is_full ts) → IsTrue (is_full t))
  and_full ts some (Ok t) shape = λ full. ap is_full shape ∙ full-and_of ts some full
  and_full ts some (Err e) shape = tt

  pub or_full : (ts : List (Tree L)) → 0 < length ts → (r : Result (Tree L) Memory) → IfOk r (λ t. t ≡ or_of ts)
      → IfOk r (λ t. IsTrue (list_all is_full ts) → IsTrue (is_full t))
  or_full ts some (Ok t) shape = λ full. ap is_full shape ∙ full-or_of ts some full
  or_full ts some (Err e) shape = tt

  full_at : (x : Node-F L (Node L) (Tree L)) → HasPartsAt x → list_all is_full (parts_at x) ≡ true
      → node_is_full (opened node_is_full x) ≡ true
  full_at Node-F.Any some full = refl
  full_at (Node-F.Leaf l) some full = refl
  full_at (Node-F.And []) some full = absurd (omega (arith, some))
  full_at (Node-F.And (t ∷ ts)) some full = list_all-map (λ b. b) is_full (t ∷ ts) ∙ full
  full_at (Node-F.Or []) some full = absurd (omega (arith, some))
  full_at (Node-F.Or (t ∷ ts)) some full = list_all-map (λ b. b) is_full (t ∷ ts) ∙ full
  full_at (Node-F.Not part) some full = sym (and-true (is_full part)) ∙ full

  pub full-tree_of : (n : Node L) → HasParts n → list_all is_full (parts_of n) ≡ true → is_full (tree_of n) ≡ true
  full-tree_of n some full = fold-tree_of node_is_full n ∙ full_at (out-Node L n) some full
