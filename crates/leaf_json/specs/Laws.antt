-- What is written of a string matcher or a tree is read back.
use Rattle.std.specs.Prelude.{◌≡◌, true, None}
use Rattle.serde_json.specs.Data.{Data}
use Rattle.mesh_doc.specs.Faults.{Check, first}
use Rattle.mesh_doc.specs.Places.{Steps}
use Rattle.mesh_tree.specs.declared.tree.Tree.{Tree}
use Rattle.envoy_types.specs.StringForms.{string_faults, string_in, string_is_printable, string_written}
use Rattle.envoy_types.specs.TreeForms.{TreeForm, tree_faults, tree_in, tree_is_printable, tree_written}
use Rattle.envoy_types.specs.declared.strings.StringMatcher.{StringMatcher}

-- the value has no fault, wherever it stands, and this is what it means
abbrev pub Spells : {A : Type 0} → Check → (Data → A) → Data → A → Type 0
Spells f value d a = ((at : Steps) → first (f d at) ≡ None) × (value d ≡ a)

-- what is written of a matcher that can be written spells it
abbrev pub StringsSpelled : Type 0
StringsSpelled = (m : StringMatcher) → string_is_printable m ≡ true → Spells string_faults string_in (string_written m) m

-- what is written of a tree that can be written spells it
abbrev pub TreesSpelled : {L : Type 0} → TreeForm L → Type 0
TreesSpelled {L} form =
    (tree : Tree L) → tree_is_printable form tree ≡ true → Spells (tree_faults form) (tree_in form) (tree_written form tree) tree
