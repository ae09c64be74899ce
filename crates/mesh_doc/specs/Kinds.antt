-- The kinds of JSON values (RFC 8259 section 3). A value of another kind than its form asks is WrongType at it.
use Rattle.std.specs.Prelude.{ℕ, Bool, false, List, [], Option, is_some, unwrap_or, option_and_then}
use Rattle.serde_json.specs.Data.{Data, Items, no_items, Members, no_members}
use Rattle.serde_json.specs.Events.{items_len}
use Rattle.serde_json.specs.Find.{as_bool, as_number, as_str, as_array, as_object, as_u64}
use Rattle.mesh_doc.specs.Faults.{Check, demands}
use Rattle.mesh_doc.specs.declared.reason.Reason.TheVariants as reason

-- an object (section 4)
abbrev pub is_object : Data → Bool
is_object d = is_some (as_object d)

-- a whole number from 0 to 2 ^ 64 - 1 (section 6)
abbrev pub as_count : Data → Option ℕ
as_count d = option_and_then as_u64 (as_number d)

-- ---- what is wrong with a value that is not of the kind

-- an object
unfoldable pub object_faults : Check
object_faults = demands is_object reason.WrongType

-- an array (section 5)
unfoldable pub list_faults : Check
list_faults = demands (λ d. is_some (as_array d)) reason.WrongType

-- a string (section 7)
unfoldable pub text_faults : Check
text_faults = demands (λ d. is_some (as_str d)) reason.WrongType

-- a whole number from 0 to 2 ^ 64 - 1
unfoldable pub number_faults : Check
number_faults = demands (λ d. is_some (as_count d)) reason.WrongType

-- `true` or `false`
unfoldable pub truth_faults : Check
truth_faults = demands (λ d. is_some (as_bool d)) reason.WrongType

-- ---- what a value is, with any value where it is not of the kind

-- the members of an object
abbrev pub members_of : Data → Members
members_of d = unwrap_or (as_object d) no_members

-- the entries of an array
abbrev pub items_of : Data → Items
items_of d = unwrap_or (as_array d) no_items

-- the number of entries of an array
unfoldable pub length_in : Data → ℕ
length_in d = items_len (items_of d)

-- the bytes of a string
unfoldable pub text_in : Data → List ℕ
text_in d = unwrap_or (as_str d) []

-- the value of a whole number
unfoldable pub number_in : Data → ℕ
number_in d = unwrap_or (as_count d) 0

-- the truth value
unfoldable pub truth_in : Data → Bool
truth_in d = unwrap_or (as_bool d) false
