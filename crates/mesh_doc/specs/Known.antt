-- The fields that an object may have, and no others.
use Rattle.std.specs.Prelude.{ℕ, ◌==◌, Bool, List}
use Rattle.std.specs.List.{list_any, slice_split}
use Rattle.std.specs.Str.{bytes_eq}
use Rattle.serde_json.specs.Data.{Members, no_members, member}
use Rattle.mesh_doc.specs.Faults.{Check, Faults, none, joined, ◌▸◌, unless}
use Rattle.mesh_doc.specs.Kinds.{members_of, object_faults}
use Rattle.mesh_doc.specs.Places.{Steps, at_key}
use Rattle.mesh_text.specs.Bytes.{space}
use Rattle.mesh_doc.specs.declared.reason.Reason.TheVariants as reason

-- the names of a text, which single spaces part
unfoldable pub names_of : List ℕ → List (List ℕ)
names_of text = slice_split (λ c. c == space) text

-- one of the names
unfoldable pub is_known : List (List ℕ) → List ℕ → Bool
is_known known name = list_any (λ word. bytes_eq word name) known

-- UnknownField at each member with another name, in byte order, as the members of an object stand
abbrev pub unknown_in : List (List ℕ) → Members → Steps → Faults
unknown_in known no_members at = none
unknown_in known (member name d ms) at =
    joined (unless (is_known known name) reason.UnknownField (at_key name at)) (unknown_in known ms at)

-- an object that has no other fields than these
unfoldable pub unknown_faults : List (List ℕ) → Check
unknown_faults known = object_faults ▸ λ d at. unknown_in known (members_of d) at
