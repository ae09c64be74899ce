-- The fields of an object. A field that is `null` is as one that is not written, but for its name, which a strict
-- object has to know all the same.
use Rattle.std.specs.Prelude.{ℕ, List, Option, Some, None, option_and_then, option_map, unwrap_or, if◌then◌else◌}
use Rattle.serde_json.specs.Data.{Data, null, boolean, number, string, array, object, no_members}
use Rattle.serde_json.specs.Find.{get}
use Rattle.mesh_doc.specs.Faults.{Check, Faults, none, ◌⨾◌, fault}
use Rattle.mesh_doc.specs.Kinds.{is_object, object_faults}
use Rattle.mesh_doc.specs.Known.{unknown_faults}
use Rattle.mesh_doc.specs.Places.{Steps, at_key}
use Rattle.mesh_doc.specs.declared.reason.Reason.TheVariants as reason

-- every value but `null`
abbrev pub unless_null : Data → Option Data
unless_null null = None
unless_null (boolean b) = Some (boolean b)
unless_null (number n) = Some (number n)
unless_null (string s) = Some (string s)
unless_null (array ds) = Some (array ds)
unless_null (object ms) = Some (object ms)

-- the field that an object has by this name
unfoldable pub field_in : List ℕ → Data → Option Data
field_in name d = option_and_then unless_null (get name d)

-- ---- objects

-- of a value that is no object no field is read
abbrev pub within : Check → Check
within fields d at = if is_object d then fields d at else none

-- an object with these fields alone: first the unknown ones, then the known ones and the object's own rules
abbrev pub strict : List (List ℕ) → Check → Check
strict known fields = unknown_faults known ⨾ within fields

-- an object with other fields, which are not read
abbrev pub open_object : Check → Check
open_object fields = object_faults ⨾ within fields

-- ---- one field

-- those of the value that was found, or what its absence is
abbrev pub found_faults : Faults → Check → Option Data → Steps → Faults
found_faults absent f None at = absent
found_faults absent f (Some d) at = f d at

-- a field that has to be there: else MissingField at it
unfoldable pub required : List ℕ → Check → Check
required name f d at = found_faults (fault reason.MissingField (at_key name at)) f (field_in name d) (at_key name at)

-- a field that may be absent
unfoldable pub optional : List ℕ → Check → Check
optional name f d at = found_faults none f (field_in name d) (at_key name at)

-- what the field means
unfoldable pub required_in : {A : Type 0} → List ℕ → (Data → A) → Data → A
required_in name value d = value (unwrap_or (field_in name d) null)

-- what the field means, if it is there
unfoldable pub optional_in : {A : Type 0} → List ℕ → (Data → A) → Data → Option A
optional_in name value d = option_map value (field_in name d)

-- ---- one field, where `null` is a value like any other

-- as `required`
unfoldable pub required_written : List ℕ → Check → Check
required_written name f d at = found_faults (fault reason.MissingField (at_key name at)) f (get name d) (at_key name at)

-- as `optional`
unfoldable pub optional_written : List ℕ → Check → Check
optional_written name f d at = found_faults none f (get name d) (at_key name at)

-- as `required_in`
unfoldable pub required_written_in : {A : Type 0} → List ℕ → (Data → A) → Data → A
required_written_in name value d = value (unwrap_or (get name d) null)

-- as `optional_in`
unfoldable pub optional_written_in : {A : Type 0} → List ℕ → (Data → A) → Data → Option A
optional_written_in name value d = option_map value (get name d)

-- ---- one field, which is the empty object where it is absent

-- an object that is not there is the empty one
abbrev pub spec_of : Option Data → Data
spec_of found = unwrap_or found (object no_members)

-- a field with an object
unfoldable pub or_empty : List ℕ → Check → Check
or_empty name f d at = f (spec_of (field_in name d)) (at_key name at)

-- what it means
unfoldable pub or_empty_in : {A : Type 0} → List ℕ → (Data → A) → Data → A
or_empty_in name value d = value (spec_of (field_in name d))
