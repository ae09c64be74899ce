-- The words by which a value is written: an object field by field, and lists. A field that has its default is not written.
use Rattle.std.specs.Prelude.{ℕ, ◌==◌, Bool, true, not, ◌&&◌, List, [], ◌∷◌, map, length, Option, Some, None, if◌then◌else◌}
use Rattle.std.specs.List.{list_any}
use Rattle.std.specs.Option.{option_map}
use Rattle.std.specs.Str.{bytes_eq}
use Rattle.serde_json.specs.Data.{Data, boolean, number, unsigned, string, array, object, Members, no_members, put}
use Rattle.serde_json.specs.View.{items_of}
use Rattle.envoy_types.specs.declared.keys.TheConstants.{NAME, TYPED_CONFIG, TYPE}

-- ---- fields

-- its name, and its value where it is written
abbrev pub Field : Type 0
Field = List ℕ × Option Data

-- one that is always written
abbrev pub field : List ℕ → Data → Field
field name d = (name, Some d)

-- one that is there or not
abbrev pub optional_field : {A : Type 0} → List ℕ → (A → Data) → Option A → Field
optional_field name written found = (name, option_map written found)

-- the names of fields
abbrev pub field_names : List Field → List (List ℕ)
field_names fs = map (λ f. f.0) fs

-- no name stands twice
abbrev pub are_different : List (List ℕ) → Bool
are_different [] = true
are_different (name ∷ names) = not (list_any (bytes_eq name) names) && are_different names

-- a list
unfoldable pub list_written : {A : Type 0} → (A → Data) → List A → Data
list_written written xs = array (items_of (map written xs))

-- a list, unless it is empty
abbrev pub list_field : {A : Type 0} → List ℕ → (A → Data) → List A → Field
list_field name written xs = (name, if length xs == 0 then None else Some (list_written written xs))

-- a text, unless it is empty
abbrev pub text_field : List ℕ → List ℕ → Field
text_field name t = (name, if length t == 0 then None else Some (string t))

-- `true`, unless it is `false`
abbrev pub truth_field : List ℕ → Bool → Field
truth_field name b = (name, if b then Some (boolean true) else None)

-- ---- objects

-- a value at a name, if there is one
abbrev pub put_written : List ℕ → Option Data → Members → Members
put_written name None ms = ms
put_written name (Some d) ms = put name d ms

-- members with one field more
abbrev pub with_field : Members → Field → Members
with_field ms f = put_written f.0 f.1 ms

-- with several: members stand in byte order of their names, in whatever order the fields are told
abbrev pub fields_onto : Members → List Field → Members
fields_onto ms [] = ms
fields_onto ms (f ∷ fs) = fields_onto (with_field ms f) fs

-- an object of these fields
abbrev pub object_of : List Field → Data
object_of fs = object (fields_onto no_members fs)

-- an object of one field
abbrev pub sole_field : List ℕ → Data → Data
sole_field name d = object_of (field name d ∷ [])

-- these, each under its name, put in from the last one on
abbrev pub named_onto : {A : Type 0} → (A → List ℕ) → (A → Data) → Members → List A → Members
named_onto name written ms [] = ms
named_onto name written ms (x ∷ xs) = put (name x) (written x) (named_onto name written ms xs)

-- an object of them
unfoldable pub map_written : {A : Type 0} → (A → List ℕ) → (A → Data) → List A → Data
map_written name written xs = object (named_onto name written no_members xs)

-- a whole number
abbrev pub number_written : ℕ → Data
number_written n = number (unsigned n)

-- ---- configurations (Protocol Buffers, "JSON Mapping": `Any`)

-- a filter, a socket or a matcher by its name, with its configuration
unfoldable pub named_written : List ℕ → Data → Data
named_written name config = object_of (field NAME.now (string name) ∷ field TYPED_CONFIG.now config ∷ [])

-- a configuration: its type URL, and its fields
abbrev pub config_written : List ℕ → List Field → Data
config_written type fs = object_of (field TYPE.now (string type) ∷ fs)
