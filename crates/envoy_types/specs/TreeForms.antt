-- The JSON of matcher trees (Envoy v3 API reference, `config.rbac.v3.Permission` and `Principal`): an object with one of its
-- alternatives, told by the words of the kind and by the form of its leaves. The definitions go down the value itself.
use Rattle.std.specs.Prelude.{◌≡◌, ℕ, ◌+◌, ◌==◌, Bool, true, ◌&&◌, nat_le, List, [], ◌∷◌, length, None, if◌then◌else◌}
use Rattle.std.specs.List.{list_all}
use Rattle.std.specs.Str.{bytes_eq}
use Rattle.serde_json.specs.Data.{Data, null, boolean, number, string, array, object, Items, no_items, item, Members, no_members, member}
use Rattle.serde_json.specs.Events.{items_len}
use Rattle.serde_json.specs.View.{items_of}
use Rattle.mesh_doc.specs.Faults.{Check, Faults, first, none, joined, hiding, fault, unless}
use Rattle.mesh_doc.specs.Known.{is_known, unknown_in}
use Rattle.mesh_doc.specs.Places.{Steps, at_index, at_key}
use Rattle.mesh_doc.specs.declared.reason.Reason.TheVariants as reason
use Rattle.mesh_tree.specs.declared.tree.Node.{Node-F}
use Rattle.mesh_tree.specs.declared.tree.Node.TheVariants as Node
use Rattle.mesh_tree.specs.declared.tree.Tree.{Tree, fold-Tree}
use Rattle.mesh_tree.specs.Tree.{tree_of}
use Rattle.envoy_types.specs.SmallForms.{is_within, most_entries, true_faults}
use Rattle.envoy_types.specs.WrittenFields.{are_different, sole_field}
use Rattle.envoy_types.specs.declared.keys.TheConstants.{ANY}

-- What a kind of trees is told by: the names of its alternatives, and its leaves, each by the name of its alternative and the
-- value there.
pub record TreeForm (L : Type 0) : Type 0 where
  -- all of these, one of these, the field that holds them, not this one
  pub and_name : List ℕ
  pub or_name : List ℕ
  pub parts_name : List ℕ
  pub not_name : List ℕ
  -- the alternatives of leaves
  pub leaf_names : List (List ℕ)
  pub leaf_faults : List ℕ → Check
  pub leaf_in : List ℕ → Data → L
  -- a leaf with the name of its alternative
  pub leaf_written : L → Data
  pub leaf_is_printable : L → Bool

-- the names of all alternatives
abbrev pub known_names : {L : Type 0} → TreeForm L → List (List ℕ)
known_names form = form.and_name ∷ form.or_name ∷ form.not_name ∷ ANY.now ∷ form.leaf_names

-- how many of the members are alternatives
abbrev pub count_known : List (List ℕ) → Members → ℕ
count_known known no_members = 0
count_known known (member key d ms) = (if is_known known key then 1 else 0) + count_known known ms

-- ---- what can be wrong with a tree

abbrev mutual
  -- unknown alternatives, then none or two of them, and then what is wrong in those that are there
  pub tree_faults : {L : Type 0} → TreeForm L → Data → Steps → Faults
  tree_faults form null at = fault reason.WrongType at
  tree_faults form (boolean b) at = fault reason.WrongType at
  tree_faults form (number n) at = fault reason.WrongType at
  tree_faults form (string s) at = fault reason.WrongType at
  tree_faults form (array ds) at = fault reason.WrongType at
  tree_faults form (object ms) at =
      joined (unknown_in (known_names form) ms at)
      (joined (unless (count_known (known_names form) ms == 1) reason.BadForm at) (alternatives_faults form ms at))

  -- an alternative by its name
  pub alternatives_faults : {L : Type 0} → TreeForm L → Members → Steps → Faults
  alternatives_faults form no_members at = none
  alternatives_faults form (member key d ms) at = joined
      (if bytes_eq key form.and_name then parts_faults form d (at_key key at)
      else if bytes_eq key form.or_name then parts_faults form d (at_key key at)
      else if bytes_eq key form.not_name then tree_faults form d (at_key key at)
      else if bytes_eq key ANY.now then true_faults d (at_key key at)
      else if is_known form.leaf_names key then form.leaf_faults key d (at_key key at)
      else none)
      (alternatives_faults form ms at)

  -- `Permission.Set`, `Principal.Set`: a strict object whose one field has to be there
  pub parts_faults : {L : Type 0} → TreeForm L → Data → Steps → Faults
  parts_faults form null at = fault reason.WrongType at
  parts_faults form (boolean b) at = fault reason.WrongType at
  parts_faults form (number n) at = fault reason.WrongType at
  parts_faults form (string s) at = fault reason.WrongType at
  parts_faults form (array ds) at = fault reason.WrongType at
  parts_faults form (object ms) at = joined (unknown_in (form.parts_name ∷ []) ms at) (parts_field_faults form ms at)

  -- that field
  pub parts_field_faults : {L : Type 0} → TreeForm L → Members → Steps → Faults
  parts_field_faults form no_members at = fault reason.MissingField (at_key form.parts_name at)
  parts_field_faults form (member key d ms) at =
      if bytes_eq key form.parts_name then trees_faults form d (at_key form.parts_name at) else parts_field_faults form ms at

  -- a list of one tree at least
  pub trees_faults : {L : Type 0} → TreeForm L → Data → Steps → Faults
  trees_faults form null at = fault reason.WrongType at
  trees_faults form (boolean b) at = fault reason.WrongType at
  trees_faults form (number n) at = fault reason.WrongType at
  trees_faults form (string s) at = fault reason.WrongType at
  trees_faults form (object ms) at = fault reason.WrongType at
  trees_faults form (array ds) at =
      hiding (unless (nat_le (items_len ds) most_entries) reason.TooMany at)
      (joined (unless (nat_le 1 (items_len ds)) reason.BadForm at) (each_tree_faults form 0 ds at))

  -- the trees of a list from an index on
  pub each_tree_faults : {L : Type 0} → TreeForm L → ℕ → Items → Steps → Faults
  each_tree_faults form index no_items at = none
  each_tree_faults form index (item d ds) at =
      joined (tree_faults form d (at_index index at)) (each_tree_faults form (index + 1) ds at)

-- ---- the tree that a value without fault means

-- where a value has a fault, it stands for any tree
abbrev pub any_tree : {L : Type 0} → Tree L
any_tree = tree_of Node.Any

abbrev mutual
  -- the tree of the alternative
  pub tree_in : {L : Type 0} → TreeForm L → Data → Tree L
  tree_in form null = any_tree
  tree_in form (boolean b) = any_tree
  tree_in form (number n) = any_tree
  tree_in form (string s) = any_tree
  tree_in form (array ds) = any_tree
  tree_in form (object ms) = alternative_in form ms

  -- And and Or lists are kept as they stand
  pub alternative_in : {L : Type 0} → TreeForm L → Members → Tree L
  alternative_in form no_members = any_tree
  alternative_in form (member key d ms) =
      if bytes_eq key form.and_name then tree_of (Node.And (parts_in form d))
      else if bytes_eq key form.or_name then tree_of (Node.Or (parts_in form d))
      else if bytes_eq key form.not_name then tree_of (Node.Not (tree_in form d))
      else if bytes_eq key ANY.now then any_tree
      else tree_of (Node.Leaf (form.leaf_in key d))

  -- the trees of the set
  pub parts_in : {L : Type 0} → TreeForm L → Data → List (Tree L)
  parts_in form null = []
  parts_in form (boolean b) = []
  parts_in form (number n) = []
  parts_in form (string s) = []
  parts_in form (array ds) = []
  parts_in form (object ms) = parts_field_in form ms

  -- those of its field
  pub parts_field_in : {L : Type 0} → TreeForm L → Members → List (Tree L)
  parts_field_in form no_members = []
  parts_field_in form (member key d ms) = if bytes_eq key form.parts_name then trees_in form d else parts_field_in form ms

  -- the trees of a list, in their order
  pub trees_in : {L : Type 0} → TreeForm L → Data → List (Tree L)
  trees_in form null = []
  trees_in form (boolean b) = []
  trees_in form (number n) = []
  trees_in form (string s) = []
  trees_in form (object ms) = []
  trees_in form (array ds) = each_tree_in form ds

  -- of its entries
  pub each_tree_in : {L : Type 0} → TreeForm L → Items → List (Tree L)
  each_tree_in form no_items = []
  each_tree_in form (item d ds) = tree_in form d ∷ each_tree_in form ds

-- ---- how a tree is written

-- one node, with what its parts are written as in their place
abbrev pub node_written : {L : Type 0} → TreeForm L → Node-F L Data Data → Data
node_written form Node-F.Any = sole_field ANY.now (boolean true)
node_written form (Node-F.Leaf l) = form.leaf_written l
node_written form (Node-F.And parts) = sole_field form.and_name (sole_field form.parts_name (array (items_of parts)))
node_written form (Node-F.Or parts) = sole_field form.or_name (sole_field form.parts_name (array (items_of parts)))
node_written form (Node-F.Not part) = sole_field form.not_name part

-- a tree, from its leaves up
abbrev pub tree_written : {L : Type 0} → TreeForm L → Tree L → Data
tree_written {L} form = fold-Tree L Data Data (node_written form) (λ t. t.node)

-- ---- which trees can be written

-- one node, with whether its parts can be written in their place: no list is empty or over its limit
abbrev pub node_is_printable : {L : Type 0} → TreeForm L → Node-F L Bool Bool → Bool
node_is_printable form Node-F.Any = true
node_is_printable form (Node-F.Leaf l) = form.leaf_is_printable l
node_is_printable form (Node-F.And parts) = is_within 1 most_entries (length parts) && list_all (λ printable. printable) parts
node_is_printable form (Node-F.Or parts) = is_within 1 most_entries (length parts) && list_all (λ printable. printable) parts
node_is_printable form (Node-F.Not part) = part

-- a full tree of leaves that can be written, with each list within its limit
abbrev pub tree_is_printable : {L : Type 0} → TreeForm L → Tree L → Bool
tree_is_printable {L} form = fold-Tree L Bool Bool (node_is_printable form) (λ t. t.node)

-- ---- lists of trees, as policies have them

-- a list of one tree at least
unfoldable pub tree_list_faults : {L : Type 0} → TreeForm L → Check
tree_list_faults form d at = trees_faults form d at

-- the trees, in their order
unfoldable pub tree_list_in : {L : Type 0} → TreeForm L → Data → List (Tree L)
tree_list_in form d = trees_in form d

-- one tree at least, within the limit of lists, and each can be written
unfoldable pub tree_list_is_printable : {L : Type 0} → TreeForm L → List (Tree L) → Bool
tree_list_is_printable form trees = is_within 1 most_entries (length trees) && list_all (tree_is_printable form) trees

-- ---- what a kind of leaves promises

-- the alternatives have names of their own
abbrev pub HasOwnNames : {L : Type 0} → TreeForm L → Type 0
HasOwnNames form = are_different (known_names form) ≡ true

-- a leaf is written as an object with one field, whose name is that of a leaf
abbrev pub WritesLeaf : {L : Type 0} → TreeForm L → L → Type 0
WritesLeaf form leaf =
    (key : List ℕ) × (d : Data) × (form.leaf_written leaf ≡ object (member key d no_members)) × (is_known form.leaf_names key ≡ true)

-- what is written of a leaf has no fault wherever it stands, and means the leaf
abbrev pub ReadsBack : {L : Type 0} → TreeForm L → L → Type 0
ReadsBack form leaf =
    (key : List ℕ) (d : Data) → form.leaf_written leaf ≡ object (member key d no_members)
    → ((at : Steps) → first (form.leaf_faults key d at) ≡ None) × (form.leaf_in key d ≡ leaf)
