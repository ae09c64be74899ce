-- A value without fault is that of a tree that can be written, where the values of its leaves are.
use Rattle.std.proofs.Common.{◌≡◌, ℕ, ◌+◌, ◌==◌, Bool, true, false, ◌&&◌, nat_le, List, [], ◌∷◌, length, map, None, refl, sym, ap, subst}
use Rattle.std.proofs.Common.{◌∙◌, suc, if◌then◌else◌}
use Rattle.std.proofs.lemmas.Bool.{and_from}
use Rattle.std.proofs.lemmas.List.{length-map}
use Rattle.std.proofs.lemmas.List.Folds.{list_all-map}
use Rattle.std.specs.List.{list_all}
use Rattle.std.specs.Str.{bytes_eq}
use Rattle.serde_json.specs.Data.{Data, null, boolean, number, string, array, object, Items, no_items, item, no_members, member}
use Rattle.serde_json.specs.Events.{items_len}
use Rattle.mesh_doc.proofs.NoFault.{Ensures, earlier, later, passed}
use Rattle.mesh_doc.specs.Faults.{first, none, unless}
use Rattle.mesh_doc.specs.Known.{is_known, unknown_in}
use Rattle.mesh_doc.specs.Places.{Steps, at_index, at_key}
use Rattle.mesh_doc.specs.declared.reason.Reason.TheVariants as reason
use Rattle.mesh_tree.specs.declared.tree.Node.{Node, Node-F, fold-roll-Node, roll-Node}
use Rattle.mesh_tree.specs.declared.tree.Node.TheVariants as Node
use Rattle.mesh_tree.specs.declared.tree.Tree.{Tree, fold-roll-Tree}
use Rattle.mesh_tree.specs.Tree.{tree_of}
use Rattle.mesh_tree.proofs.FoldLemmas.{folded-tree_of-And, folded-tree_of-Or, opened}
use Rattle.leaf_json.proofs.ReadLemmas.{first_of_parts, leaf_known}
use Rattle.envoy_types.specs.SmallForms.{is_within, most_entries, true_faults}
use Rattle.envoy_types.specs.TreeForms.{TreeForm, alternatives_faults, any_tree, count_known, each_tree_faults, each_tree_in, known_names}
use Rattle.envoy_types.specs.TreeForms.{node_is_printable, parts_faults, parts_in, tree_faults, tree_in, tree_is_printable}
use Rattle.envoy_types.specs.TreeForms.{tree_list_faults, tree_list_in, tree_list_is_printable, trees_faults, trees_in}
use Rattle.envoy_types.specs.declared.keys.TheConstants.{ANY}

-- ---- one node

module _ {L : Type 0} (form : TreeForm L) where
  opening : (x : Node-F L (Node L) (Tree L)) → tree_is_printable form (tree_of (roll-Node L x))
      ≡ node_is_printable form (opened (node_is_printable form) x)
  opening x =
      fold-roll-Tree L Bool Bool (node_is_printable form) (λ t. t.node) (record { node = roll-Node L x })
      ∙ fold-roll-Node L Bool Bool (node_is_printable form) (λ t. t.node) x

  any-fits : tree_is_printable form any_tree ≡ true
  any-fits = ap (λ n. tree_is_printable form (tree_of n)) (sym Node.rolls-Any) ∙ opening Node-F.Any

  leaf-fits : (leaf : L) → form.leaf_is_printable leaf ≡ true → tree_is_printable form (tree_of (Node.Leaf leaf)) ≡ true
  leaf-fits leaf h = ap (λ n. tree_is_printable form (tree_of n)) (sym (Node.rolls-Leaf leaf)) ∙ opening (Node-F.Leaf leaf) ∙ h

  not-fits : (part : Tree L) → tree_is_printable form part ≡ true → tree_is_printable form (tree_of (Node.Not part)) ≡ true
  not-fits part h = ap (λ n. tree_is_printable form (tree_of n)) (sym (Node.rolls-Not part)) ∙ opening (Node-F.Not part) ∙ h

  -- the list of an And or an Or
  abbrev Fit : List (Tree L) → Type 0
  Fit parts = (is_within 1 most_entries (length parts) ≡ true) × (list_all (tree_is_printable form) parts ≡ true)

  mapped : (parts : List (Tree L)) → Fit parts
      → (is_within 1 most_entries (length (map (tree_is_printable form) parts))
      && list_all (λ b. b) (map (tree_is_printable form) parts)) ≡ true
  mapped parts h =
      and_from _ _ (ap (is_within 1 most_entries) (length-map parts (tree_is_printable form)) ∙ h.0)
      (list_all-map (λ b. b) (tree_is_printable form) parts ∙ h.1)

  and-fits : (parts : List (Tree L)) → Fit parts → tree_is_printable form (tree_of (Node.And parts)) ≡ true
  and-fits parts h = folded-tree_of-And (node_is_printable form) parts ∙ mapped parts h

  or-fits : (parts : List (Tree L)) → Fit parts → tree_is_printable form (tree_of (Node.Or parts)) ≡ true
  or-fits parts h = folded-tree_of-Or (node_is_printable form) parts ∙ mapped parts h

  each-length : (ds : Items) → length (each_tree_in form ds) ≡ items_len ds
  each-length no_items = refl
  each-length (item d ds) = ap suc (each-length ds)

-- ---- the whole value

module _ {L : Type 0} (form : TreeForm L)
    (leaves : (key : List ℕ) (d : Data) (at : Steps) → first (form.leaf_faults key d at) ≡ None
    → form.leaf_is_printable (form.leaf_in key d) ≡ true) where
  -- the alternative of a name, by which of the names it is
  chosen-fits : (key : List ℕ) (d : Data) (at : Steps) → is_known (known_names form) key ≡ true
      → (first (parts_faults form d at) ≡ None → Fit form (parts_in form d))
      → (first (tree_faults form d at) ≡ None → tree_is_printable form (tree_in form d) ≡ true)
      → (is_and is_or is_not is_any is_leaf : Bool)
      → bytes_eq key form.and_name ≡ is_and → bytes_eq key form.or_name ≡ is_or → bytes_eq key form.not_name ≡ is_not
      → bytes_eq key ANY.now ≡ is_any → is_known form.leaf_names key ≡ is_leaf
      → first (if is_and then parts_faults form d at
      else if is_or then parts_faults form d at
      else if is_not then tree_faults form d at
      else if is_any then true_faults d at
      else if is_leaf then form.leaf_faults key d at
      else none) ≡ None
      → tree_is_printable form (if is_and then tree_of (Node.And (parts_in form d))
      else if is_or then tree_of (Node.Or (parts_in form d))
      else if is_not then tree_of (Node.Not (tree_in form d))
      else if is_any then any_tree
      else tree_of (Node.Leaf (form.leaf_in key d))) ≡ true
  chosen-fits key d at known parts tree true b c e l ea eo en ey el h = and-fits form (parts_in form d) (parts h)
  chosen-fits key d at known parts tree false true c e l ea eo en ey el h = or-fits form (parts_in form d) (parts h)
  chosen-fits key d at known parts tree false false true e l ea eo en ey el h = not-fits form (tree_in form d) (tree h)
  chosen-fits key d at known parts tree false false false true l ea eo en ey el h = any-fits form
  chosen-fits key d at known parts tree false false false false true ea eo en ey el h =
      leaf-fits form (form.leaf_in key d) (leaves key d at h)
  chosen-fits key d at known parts tree false false false false false ea eo en ey el h =
      let none-left : true ≡ false = sym (leaf_known form key known ea eo en ey) ∙ el in cc

  mutual
    tree-fits : (d : Data) (at : Steps) → first (tree_faults form d at) ≡ None → tree_is_printable form (tree_in form d) ≡ true
    tree-fits null at h = cc
    tree-fits (boolean b) at h = cc
    tree-fits (number n) at h = cc
    tree-fits (string s) at h = cc
    tree-fits (array ds) at h = cc
    tree-fits (object no_members) at h = cc
    tree-fits (object (member key d ms)) at h =
        let names = known_names form in
        let strange = first (unknown_in names (member key d ms) at) in
        let counted = first (unless (count_known names (member key d ms) == 1) reason.BadForm at) in
        let behind = later strange _ h in
        let chosen = later counted (first (alternatives_faults form (member key d ms) at)) behind in
        let known = passed (is_known names key) _ (at_key key at) (earlier _ _ (earlier strange _ h)) in
        chosen-fits key d (at_key key at) known (parts-fit d (at_key key at)) (tree-fits d (at_key key at))
        (bytes_eq key form.and_name) (bytes_eq key form.or_name) (bytes_eq key form.not_name) (bytes_eq key ANY.now)
        (is_known form.leaf_names key) refl refl refl refl refl (earlier _ _ chosen)

    parts-fit : (d : Data) (at : Steps) → first (parts_faults form d at) ≡ None → Fit form (parts_in form d)
    parts-fit null at h = cc
    parts-fit (boolean b) at h = cc
    parts-fit (number n) at h = cc
    parts-fit (string s) at h = cc
    parts-fit (array ds) at h = cc
    parts-fit (object no_members) at h = cc
    parts-fit (object (member key d ms)) at h =
        let strange = first (unknown_in (form.parts_name ∷ []) (member key d ms) at) in
        let same = first_of_parts form key d ms at (earlier strange _ h) in
        subst (Fit form) (sym same.1) (trees-fit d (at_key form.parts_name at) (ap first (sym same.0) ∙ later strange _ h))

    trees-fit : (d : Data) (at : Steps) → first (trees_faults form d at) ≡ None → Fit form (trees_in form d)
    trees-fit null at h = cc
    trees-fit (boolean b) at h = cc
    trees-fit (number n) at h = cc
    trees-fit (string s) at h = cc
    trees-fit (object ms) at h = cc
    trees-fit (array ds) at h =
        let long = first (unless (nat_le (items_len ds) most_entries) reason.TooMany at) in
        let empty = first (unless (nat_le 1 (items_len ds)) reason.BadForm at) in
        let each = first (each_tree_faults form 0 ds at) in
        let behind = later long _ h in
        let few = passed (nat_le (items_len ds) most_entries) _ at (earlier long _ h) in
        let some = passed (nat_le 1 (items_len ds)) _ at (earlier empty each behind) in
        (ap (is_within 1 most_entries) (each-length form ds) ∙ and_from _ _ some few, each-fits ds 0 at (later empty each behind))

    each-fits : (ds : Items) (index : ℕ) (at : Steps) → first (each_tree_faults form index ds at) ≡ None
        → list_all (tree_is_printable form) (each_tree_in form ds) ≡ true
    each-fits no_items index at h = refl
    each-fits (item d ds) index at h =
        let here = first (tree_faults form d (at_index index at)) in
        let behind = first (each_tree_faults form (index + 1) ds at) in
        and_from _ _ (tree-fits d (at_index index at) (earlier here behind h)) (each-fits ds (index + 1) at (later here behind h))

  pub trees-printable : Ensures (tree_list_faults form) (tree_list_in form) (λ trees. tree_list_is_printable form trees ≡ true)
  unfolding tree_list_faults tree_list_in tree_list_is_printable
  trees-printable = record { holds = λ d at h. let fit = trees-fit d at h in and_from _ _ fit.0 fit.1 }
