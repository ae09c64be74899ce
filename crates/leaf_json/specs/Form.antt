-- What the trait of leaves says of the words of a kind of trees, and of a leaf that stands by itself.
use Rattle.std.specs.Prelude.{ℕ, Bool, false, List, []}
use Rattle.serde_json.specs.Data.{Data, null, Members, no_members, member}
use Rattle.mesh_doc.specs.Faults.{Faults, none}
use Rattle.mesh_doc.specs.Kinds.{members_of}
use Rattle.mesh_doc.specs.Known.{is_known}
use Rattle.mesh_doc.specs.Places.{Steps, at_key}
use Rattle.envoy_types.specs.TreeForms.{TreeForm}
use Rattle.leaf_json.specs.declared.form.Word.{Word}
use Rattle.leaf_json.specs.declared.form.Word.TheVariants.{And, Or, Parts, Not}

-- the name of a part
abbrev pub word_of : {L : Type 0} → TreeForm L → Word → List ℕ
word_of form And = form.and_name
word_of form Or = form.or_name
word_of form Parts = form.parts_name
word_of form Not = form.not_name

-- one member, whose name is that of a leaf
abbrev pub is_leaf_member : {L : Type 0} → TreeForm L → Members → Bool
is_leaf_member form no_members = false
is_leaf_member form (member key d no_members) = is_known form.leaf_names key
is_leaf_member form (member key d (member other e ms)) = false

-- an object of one field, whose name is that of a leaf
abbrev pub is_sole_leaf : {L : Type 0} → TreeForm L → Data → Bool
is_sole_leaf form d = is_leaf_member form (members_of d)

-- what is wrong with the leaf at the first field
abbrev pub first_leaf_faults : {L : Type 0} → TreeForm L → Members → Steps → Faults
first_leaf_faults form no_members at = none
first_leaf_faults form (member key d ms) at = form.leaf_faults key d (at_key key at)

-- of an object of one field
abbrev pub sole_leaf_faults : {L : Type 0} → TreeForm L → Data → Steps → Faults
sole_leaf_faults form d at = first_leaf_faults form (members_of d) at

-- its name
abbrev pub first_key : Members → List ℕ
first_key no_members = []
first_key (member key d ms) = key

-- its value
abbrev pub first_value : Members → Data
first_value no_members = null
first_value (member key d ms) = d

-- the leaf that it means
abbrev pub sole_leaf_in : {L : Type 0} → TreeForm L → Data → L
sole_leaf_in form d = form.leaf_in (first_key (members_of d)) (first_value (members_of d))
