-- A printable tree is written as a value that has no fault and means that tree.
use Rattle.std.proofs.Common.{◌≡◌, ℕ, ◌+◌, Bool, true, false, not, ◌||◌, nat_le, List, [], ◌∷◌}
use Rattle.std.proofs.Common.{length, map, None, refl, sym, ap, ap₂, subst, ◌∙◌, suc, if◌then◌else◌}
use Rattle.std.proofs.lemmas.Bool.{and_parts, or_left, or_right}
use Rattle.std.proofs.lemmas.List.Folds.{list_all-map}
use Rattle.std.proofs.lemmas.Slice.Eq.{bytes_eq-Decides}
use Rattle.std.specs.List.{list_all, list_any}
use Rattle.std.specs.Str.{bytes_eq}
use Rattle.serde_json.specs.Data.{Data, array, boolean, object, member, no_members}
use Rattle.serde_json.specs.Events.{items_len}
use Rattle.serde_json.specs.View.{items_of}
use Rattle.mesh_doc.specs.Faults.{Faults, first, none}
use Rattle.mesh_doc.specs.Kinds.{truth_faults, truth_in}
use Rattle.mesh_doc.specs.Known.{is_known}
use Rattle.mesh_doc.specs.Places.{Steps, at_index, at_key}
use Rattle.mesh_tree.specs.declared.tree.Node.{Node, Node-F, fold-roll-Node, map-Node, roll-Node}
use Rattle.mesh_tree.specs.declared.tree.Node.TheVariants as Node
use Rattle.mesh_tree.specs.declared.tree.Tree.{Tree, Tree-F, fold-roll-Tree, ind-Tree, roll-Tree}
use Rattle.mesh_tree.specs.Tree.{tree_of}
use Rattle.mesh_tree.proofs.FoldLemmas.{folded, opened}
use Rattle.envoy_types.specs.SmallForms.{is_within, most_entries, true_faults}
use Rattle.envoy_types.specs.TreeForms.{TreeForm, HasOwnNames, ReadsBack, WritesLeaf, any_tree}
use Rattle.envoy_types.specs.TreeForms.{tree_faults, tree_in, tree_is_printable, tree_list_faults}
use Rattle.envoy_types.specs.TreeForms.{tree_list_in, tree_list_is_printable, tree_written}
use Rattle.envoy_types.specs.TreeForms.{each_tree_faults, each_tree_in, known_names, node_is_printable, node_written}
use Rattle.envoy_types.specs.TreeForms.{parts_faults, parts_in, trees_faults}
use Rattle.envoy_types.specs.WrittenFields.{are_different, list_written, sole_field}
use Rattle.envoy_types.specs.declared.keys.TheConstants.{ANY}
use Rattle.envoy_types.proofs.FieldsBack.{none-in-both}
use Rattle.envoy_types.proofs.PartsBack.{Back, same-text}

-- ---- names

swapped : (a b : List ℕ) → bytes_eq a b ≡ true → bytes_eq b a ≡ true
swapped a b h = (bytes_eq-Decides b a).1 (sym ((bytes_eq-Decides a b).0 h))

here : (name : List ℕ) (names : List (List ℕ)) → is_known (name ∷ names) name ≡ true
unfolding is_known
here name names = or_left _ _ (same-text name)

further : (name key : List ℕ) (names : List (List ℕ)) → is_known names key ≡ true → is_known (name ∷ names) key ≡ true
unfolding is_known
further name key names h = or_right _ _ h

-- a name that others have among them
either : (b c : Bool) (key name : List ℕ) (names : List (List ℕ)) → bytes_eq name key ≡ b → (b || c) ≡ true
    → (c ≡ true → list_any (bytes_eq key) names ≡ true) → (bytes_eq key name || list_any (bytes_eq key) names) ≡ true
either true c key name names e h later = or_left _ _ (swapped name key e)
either false c key name names e h later = or_right _ _ (later h)

among : (key : List ℕ) (names : List (List ℕ)) → is_known names key ≡ true → list_any (bytes_eq key) names ≡ true
unfolding is_known
among key [] h = h
among key (name ∷ names) h = either (bytes_eq name key) _ key name names refl h (among key names)

same-known : (b : Bool) (key name : List ℕ) (names : List (List ℕ)) → bytes_eq key name ≡ b
    → not (list_any (bytes_eq name) names) ≡ true → is_known names key ≡ true → b ≡ false
same-known true key name names e apart known =
    let same : key ≡ name = (bytes_eq-Decides key name).0 e in
    let found : list_any (bytes_eq name) names ≡ true = ap (λ n. list_any (bytes_eq n) names) (sym same) ∙ among key names known in
    sym apart ∙ ap not found
same-known false key name names e apart known = refl

-- one of several names is not the one that differs from them
differs : (key name : List ℕ) (names : List (List ℕ)) → are_different (name ∷ names) ≡ true → is_known names key ≡ true
    → bytes_eq key name ≡ false
differs key name names apart known =
    let both = and_parts (not (list_any (bytes_eq name) names)) (are_different names) apart in
    same-known (bytes_eq key name) key name names refl both.0 known

others-differ : (name : List ℕ) (names : List (List ℕ)) → are_different (name ∷ names) ≡ true → are_different names ≡ true
others-differ name names apart = (and_parts (not (list_any (bytes_eq name) names)) (are_different names) apart).1

-- ---- lists

length-map : {A B : Type 0} (f : A → B) (xs : List A) → length (map f xs) ≡ length xs
length-map f [] = refl
length-map f (x ∷ xs) = ap suc (length-map f xs)

length-written : {A : Type 0} (written : A → Data) (xs : List A) → items_len (items_of (map written xs)) ≡ length xs
length-written written [] = refl
length-written written (x ∷ xs) = ap suc (length-written written xs)

-- ---- one node

module _ {L : Type 0} (form : TreeForm L) (own : HasOwnNames form) where
  -- the names from the second, the third and the fourth on
  abbrev from_or : List (List ℕ)
  from_or = form.or_name ∷ form.not_name ∷ ANY.now ∷ form.leaf_names

  abbrev from_not : List (List ℕ)
  from_not = form.not_name ∷ ANY.now ∷ form.leaf_names

  abbrev from_any : List (List ℕ)
  from_any = ANY.now ∷ form.leaf_names

  apart-or : are_different from_or ≡ true
  apart-or = others-differ form.and_name from_or own

  apart-not : are_different from_not ≡ true
  apart-not = others-differ form.or_name from_not apart-or

  apart-any : are_different from_any ≡ true
  apart-any = others-differ form.not_name from_any apart-not

  -- what is wrong with the value at the name of an alternative
  abbrev chosen : List ℕ → Data → Steps → Faults
  chosen key d at =
      if bytes_eq key form.and_name then parts_faults form d at
      else if bytes_eq key form.or_name then parts_faults form d at
      else if bytes_eq key form.not_name then tree_faults form d at
      else if bytes_eq key ANY.now then true_faults d at
      else if is_known form.leaf_names key then form.leaf_faults key d at
      else none

  sole-clean : (key : List ℕ) (d : Data) → is_known (known_names form) key ≡ true → ((at : Steps) → first (chosen key d at) ≡ None)
      → (at : Steps) → first (tree_faults form (object (member key d no_members)) at) ≡ None
  sole-clean key d known clean at = rw (known, clean (at_key key at)) refl

  -- the value has no fault, and means the tree
  abbrev Means : Data → Tree L → Type 0
  Means d tree = ((at : Steps) → first (tree_faults form d at) ≡ None) × (tree_in form d ≡ tree)

  any-means : Means (sole_field ANY.now (boolean true)) any_tree
  unfolding true_faults truth_faults truth_in
  any-means =
      let in-any = here ANY.now form.leaf_names in
      let in-not = further form.not_name ANY.now from_any in-any in
      let in-or = further form.or_name ANY.now from_not in-not in
      let not-and = differs ANY.now form.and_name from_or own in-or in
      let not-or = differs ANY.now form.or_name from_not apart-or in-not in
      let not-not = differs ANY.now form.not_name from_any apart-not in-any in (
        sole-clean ANY.now (boolean true) (further form.and_name ANY.now from_or in-or) (λ at. rw (not-and, not-or, not-not) refl),
        rw (not-and, not-or, not-not) refl,
      )

  leaf-means : (leaf : L) → WritesLeaf form leaf → ReadsBack form leaf → Means (form.leaf_written leaf) (tree_of (Node.Leaf leaf))
  leaf-means leaf (key, d, written, in-leaves) reads =
      let in-any = further ANY.now key form.leaf_names in-leaves in
      let in-not = further form.not_name key from_any in-any in
      let in-or = further form.or_name key from_not in-not in
      let not-and = differs key form.and_name from_or own in-or in
      let not-or = differs key form.or_name from_not apart-or in-not in
      let not-not = differs key form.not_name from_any apart-not in-any in
      let not-any = differs key ANY.now form.leaf_names apart-any in-leaves in
      let back = reads key d written in
      let clean = sole-clean key d (further form.and_name key from_or in-or)
      (λ at. rw (not-and, not-or, not-not, not-any, in-leaves) (back.0 at)) in
      let meant : tree_in form (object (member key d no_members)) ≡ tree_of (Node.Leaf leaf) =
      rw (not-and, not-or, not-not, not-any) (ap (λ (l : L). tree_of (Node.Leaf l)) back.1) in
      subst (λ v. Means v (tree_of (Node.Leaf leaf))) (sym written) (clean, meant)

  not-means : (d : Data) (tree : Tree L) → Means d tree → Means (sole_field form.not_name d) (tree_of (Node.Not tree))
  not-means d tree means =
      let in-not = here form.not_name from_any in
      let in-or = further form.or_name form.not_name from_not in-not in
      let not-and = differs form.not_name form.and_name from_or own in-or in
      let not-or = differs form.not_name form.or_name from_not apart-or in-not in
      let same = same-text form.not_name in (
        sole-clean form.not_name d (further form.and_name form.not_name from_or in-or) (λ at. rw (not-and, not-or, same) (means.0 at)),
        rw (not-and, not-or, same) (ap (λ (t : Tree L). tree_of (Node.Not t)) means.1),
      )

  -- ---- the list of a node

  -- the object that holds it has no fault, and means the trees
  abbrev PartsMean : Data → List (Tree L) → Type 0
  PartsMean d trees = ((at : Steps) → first (parts_faults form d at) ≡ None) × (parts_in form d ≡ trees)

  and-means : (d : Data) (trees : List (Tree L)) → PartsMean d trees → Means (sole_field form.and_name d) (tree_of (Node.And trees))
  and-means d trees means =
      let same = same-text form.and_name in (
        sole-clean form.and_name d (here form.and_name from_or) (λ at. rw same (means.0 at)),
        rw same (ap (λ (ts : List (Tree L)). tree_of (Node.And ts)) means.1),
      )

  or-means : (d : Data) (trees : List (Tree L)) → PartsMean d trees → Means (sole_field form.or_name d) (tree_of (Node.Or trees))
  or-means d trees means =
      let in-or = here form.or_name from_not in
      let not-and = differs form.or_name form.and_name from_or own in-or in
      let same = same-text form.or_name in (
        sole-clean form.or_name d (further form.and_name form.or_name from_or in-or) (λ at. rw (not-and, same) (means.0 at)),
        rw (not-and, same) (ap (λ (ts : List (Tree L)). tree_of (Node.Or ts)) means.1),
      )

  -- what is written of the tree has no fault and means the tree, if it is printable
  abbrev TreeBack : Tree L → Type 0
  TreeBack tree = tree_is_printable form tree ≡ true → Means (tree_written form tree) tree

  abbrev AllBack : List (Tree L) → Type 0
  AllBack [] = Unit {0}
  AllBack (tree ∷ trees) = TreeBack tree × AllBack trees

  each-clean : (trees : List (Tree L)) (index : ℕ) (at : Steps) → AllBack trees → list_all (tree_is_printable form) trees ≡ true
      → first (each_tree_faults form index (items_of (map (tree_written form) trees)) at) ≡ None
  each-clean [] index at back printable = refl
  each-clean (tree ∷ trees) index at back printable =
      let parts = and_parts (tree_is_printable form tree) (list_all (tree_is_printable form) trees) printable in
      none-in-both _ _ ((back.0 parts.0).0 (at_index index at)) (each-clean trees (index + 1) at back.1 parts.1)

  each-back : (trees : List (Tree L)) → AllBack trees → list_all (tree_is_printable form) trees ≡ true
      → each_tree_in form (items_of (map (tree_written form) trees)) ≡ trees
  each-back [] back printable = refl
  each-back (tree ∷ trees) back printable =
      let parts = and_parts (tree_is_printable form tree) (list_all (tree_is_printable form) trees) printable in
      ap₂ (λ (t : Tree L) (ts : List (Tree L)). t ∷ ts) (back.0 parts.0).1 (each-back trees back.1 parts.1)

  trees-clean : (trees : List (Tree L)) → AllBack trees → is_within 1 most_entries (length trees) ≡ true
      → list_all (tree_is_printable form) trees ≡ true
      → (at : Steps) → first (trees_faults form (array (items_of (map (tree_written form) trees))) at) ≡ None
  trees-clean trees back few printable at =
      let ends = and_parts (nat_le 1 (length trees)) (nat_le (length trees) most_entries) few in
      rw (length-written (tree_written form) trees, ends.1, ends.0) (each-clean trees 0 at back printable)

  parts-mean : (trees : List (Tree L)) → AllBack trees → is_within 1 most_entries (length trees) ≡ true
      → list_all (tree_is_printable form) trees ≡ true
      → PartsMean (sole_field form.parts_name (array (items_of (map (tree_written form) trees)))) trees
  parts-mean trees back few printable =
      let known = here form.parts_name [] in
      let same = same-text form.parts_name in (
        λ at. rw (known, same) (trees-clean trees back few printable (at_key form.parts_name at)),
        rw same (each-back trees back printable),
      )

-- ---- the whole tree

-- a fold over a tree whose first node is opened
fold-opened : {L A : Type 0} (step : Node-F L A A → A) (x : Node-F L (Node L) (Tree L))
    → folded step (tree_of (roll-Node L x)) ≡ step (opened step x)
fold-opened {L} {A} step x =
    fold-roll-Tree L A A step (λ t. t.node) (record { node = roll-Node L x }) ∙ fold-roll-Node L A A step (λ t. t.node) x

module _ {L : Type 0} (form : TreeForm L) (own : HasOwnNames form) (writes : (leaf : L) → WritesLeaf form leaf)
    (reads : (leaf : L) → form.leaf_is_printable leaf ≡ true → ReadsBack form leaf) where
  abbrev NodeBack : Node L → Type 0
  NodeBack node = TreeBack form own (tree_of node)

  abbrev KnownTree : Type 0
  KnownTree = (tree : Tree L) × TreeBack form own tree

  abbrev KnownNode : Type 0
  KnownNode = (node : Node L) × NodeBack node

  all-known : (trees : List KnownTree) → AllBack form own (map (λ e. e.0) trees)
  all-known [] = tt
  all-known (tree ∷ trees) = (tree.1, all-known trees)

  -- from the node as it is opened
  from-opened : (x : Node-F L (Node L) (Tree L))
      → (node_is_printable form (opened (node_is_printable form) x) ≡ true
      → Means form own (node_written form (opened (node_written form) x)) (tree_of (roll-Node L x)))
      → NodeBack (roll-Node L x)
  from-opened x means printable =
      subst (λ d. Means form own d (tree_of (roll-Node L x))) (sym (fold-opened (node_written form) x))
      (means (sym (fold-opened (node_is_printable form) x) ∙ printable))

  -- the list of an And or an Or
  abbrev parts_written : List (Tree L) → Data
  parts_written trees = sole_field form.parts_name (array (items_of (map (tree_written form) trees)))

  list-mean : (trees : List (Tree L)) → AllBack form own trees
      → node_is_printable form (Node-F.And (map (tree_is_printable form) trees)) ≡ true
      → PartsMean form own (parts_written trees) trees
  list-mean trees back printable =
      let folds = map (tree_is_printable form) trees in
      let both = and_parts (is_within 1 most_entries (length folds)) (list_all (λ b. b) folds) printable in
      let few : is_within 1 most_entries (length trees) ≡ true =
      ap (is_within 1 most_entries) (sym (length-map (tree_is_printable form) trees)) ∙ both.0 in
      let each : list_all (tree_is_printable form) trees ≡ true =
      sym (list_all-map (λ b. b) (tree_is_printable form) trees) ∙ both.1 in
      parts-mean form own trees back few each

  and-back : (parts : List (Tree L)) → AllBack form own parts → NodeBack (roll-Node L (Node-F.And parts))
  and-back parts back = from-opened (Node-F.And parts) (λ printable.
      subst (λ n. Means form own (node_written form (Node-F.And (map (tree_written form) parts))) (tree_of n)) (sym (Node.rolls-And parts))
      (and-means form own (parts_written parts) parts (list-mean parts back printable)))

  or-back : (parts : List (Tree L)) → AllBack form own parts → NodeBack (roll-Node L (Node-F.Or parts))
  or-back parts back = from-opened (Node-F.Or parts) (λ printable.
      subst (λ n. Means form own (node_written form (Node-F.Or (map (tree_written form) parts))) (tree_of n)) (sym (Node.rolls-Or parts))
      (or-means form own (parts_written parts) parts (list-mean parts back printable)))

  -- one node whose parts are known
  level : (y : Node-F L KnownNode KnownTree)
      → NodeBack (roll-Node L (map-Node L KnownNode KnownTree (Node L) (Tree L) (λ e. e.0) (λ e. e.0) y))
  level Node-F.Any = from-opened Node-F.Any (λ printable.
      subst (λ n. Means form own (sole_field ANY.now (boolean true)) (tree_of n)) (sym Node.rolls-Any) (any-means form own))
  level (Node-F.Leaf leaf) = from-opened (Node-F.Leaf leaf) (λ printable.
      subst (λ n. Means form own (form.leaf_written leaf) (tree_of n)) (sym (Node.rolls-Leaf leaf))
      (leaf-means form own leaf (writes leaf) (reads leaf printable)))
  level (Node-F.And trees) = and-back (map (λ e. e.0) trees) (all-known trees)
  level (Node-F.Or trees) = or-back (map (λ e. e.0) trees) (all-known trees)
  level (Node-F.Not tree) = from-opened (Node-F.Not tree.0) (λ printable.
      subst (λ n. Means form own (sole_field form.not_name (tree_written form tree.0)) (tree_of n)) (sym (Node.rolls-Not tree.0))
      (not-means form own (tree_written form tree.0) tree.0 (tree.1 printable)))

  pub tree-back : (tree : Tree L) → tree_is_printable form tree ≡ true
      → ((at : Steps) → first (tree_faults form (tree_written form tree) at) ≡ None) × (tree_in form (tree_written form tree) ≡ tree)
  tree-back =
      ind-Tree L NodeBack (TreeBack form own)
      (λ x y is. subst (λ (z : Node-F L (Node L) (Tree L)). NodeBack (roll-Node L z)) is (level y))
      (λ x y is. subst (λ (z : Tree-F L (Node L) (Tree L)). TreeBack form own (roll-Tree L z)) is (y.node.1))

  all-back : (trees : List (Tree L)) → AllBack form own trees
  all-back [] = tt
  all-back (tree ∷ trees) = (tree-back tree, all-back trees)

  pub tree-list-back : (trees : List (Tree L)) → tree_list_is_printable form trees ≡ true
      → Back (tree_list_faults form) (tree_list_in form) (list_written (tree_written form) trees) trees
  unfolding tree_list_faults tree_list_in tree_list_is_printable list_written
  tree-list-back trees printable =
      let both = and_parts (is_within 1 most_entries (length trees)) (list_all (tree_is_printable form) trees) printable in
      record {
        passes = record { clean = trees-clean form own trees (all-back trees) both.0 both.1 };
        back = each-back form own trees (all-back trees) both.1;
      }
