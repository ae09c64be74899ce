-- Objects whose keys are data, in byte order of the keys.
use Rattle.std.specs.Prelude.{ℕ, List, [], ◌∷◌, if◌then◌else◌}
use Rattle.std.specs.List.{list_any}
use Rattle.std.specs.Str.{bytes_eq}
use Rattle.serde_json.specs.Data.{Data, Members, no_members, member}
use Rattle.mesh_doc.specs.Faults.{Check, Faults, none, joined, ◌▸◌}
use Rattle.mesh_doc.specs.Kinds.{members_of, object_faults}
use Rattle.mesh_doc.specs.Places.{Steps, at_key}

-- the members whose names are none of these, each name once: of members with one name the first counts (RFC 8259
-- section 4: the names within an object are to be unique)
abbrev pub unique_besides : List (List ℕ) → Members → Members
unique_besides seen no_members = no_members
unique_besides seen (member key d ms) =
    if list_any (bytes_eq key) seen
    then unique_besides seen ms
    else member key d (unique_besides (key ∷ seen) ms)

-- the members of an object, each name once
abbrev pub unique_members : Data → Members
unique_members d = unique_besides [] (members_of d)

-- those of the members, by the form of each key
abbrev pub each_member_faults : (List ℕ → Check) → Members → Steps → Faults
each_member_faults f no_members at = none
each_member_faults f (member key d ms) at = joined (f key d (at_key key at)) (each_member_faults f ms at)

-- an object with members of the form
unfoldable pub map_of : (List ℕ → Check) → Check
map_of f = object_faults ▸ λ d at. each_member_faults f (unique_members d) at

-- what the members mean
abbrev pub each_member_in : {A : Type 0} → (List ℕ → Data → A) → Members → List A
each_member_in value no_members = []
each_member_in value (member key d ms) = value key d ∷ each_member_in value ms

-- what the members of an object mean, one entry for each name
unfoldable pub map_in : {A : Type 0} → (List ℕ → Data → A) → Data → List A
map_in value d = each_member_in value (unique_members d)
