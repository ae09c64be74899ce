-- Lists, entry by entry. A list is one in turn (`Turns`) whose entries leave nothing for the later ones.
use Rattle.std.specs.Prelude.{ℕ, List, [], ◌∷◌, Option, Some, None}
use Rattle.serde_json.specs.Data.{Data, Items, no_items, item}
use Rattle.serde_json.specs.Find.{get}
use Rattle.mesh_doc.specs.Faults.{Check}
use Rattle.mesh_doc.specs.Fields.{field_in, optional, optional_written}
use Rattle.mesh_doc.specs.Kinds.{items_of}
use Rattle.mesh_doc.specs.Turns.{list_in_turn}

-- a list of at most so many entries of the form
unfoldable pub list_of : ℕ → Check → Check
list_of most f = list_in_turn {S = Unit {0}} most (λ _. f) (λ seen _. seen) tt

-- what the entries mean, in their order
abbrev pub each_in : {A : Type 0} → (Data → A) → Items → List A
each_in value no_items = []
each_in value (item d ds) = value d ∷ each_in value ds

-- what the entries of a list mean
unfoldable pub list_in : {A : Type 0} → (Data → A) → Data → List A
list_in value d = each_in value (items_of d)

-- a field with a list; one that is not there is as an empty one
unfoldable pub listed : List ℕ → ℕ → Check → Check
listed name most f = optional name (list_of most f)

-- those of the list that was found, and none where there is none
abbrev pub found_list : {A : Type 0} → (Data → A) → Option Data → List A
found_list value None = []
found_list value (Some d) = list_in value d

-- what the entries of the field mean
unfoldable pub listed_in : {A : Type 0} → List ℕ → (Data → A) → Data → List A
listed_in name value d = found_list value (field_in name d)

-- as `listed`, where `null` is a value like any other
unfoldable pub listed_written : List ℕ → ℕ → Check → Check
listed_written name most f = optional_written name (list_of most f)

-- as `listed_in`
unfoldable pub listed_written_in : {A : Type 0} → List ℕ → (Data → A) → Data → List A
listed_written_in name value d = found_list value (get name d)
