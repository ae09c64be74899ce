-- Lists whose entries are read with what the earlier ones left at hand.
use Rattle.std.specs.Prelude.{ℕ, ◌+◌, List, nat_le}
use Rattle.serde_json.specs.Data.{Data, Items, no_items, item}
use Rattle.serde_json.specs.Events.{items_len}
use Rattle.mesh_doc.specs.Faults.{Check, Faults, none, joined, hiding, ◌▸◌, unless}
use Rattle.mesh_doc.specs.Fields.{optional}
use Rattle.mesh_doc.specs.Kinds.{items_of, list_faults}
use Rattle.mesh_doc.specs.Places.{Steps, at_index}
use Rattle.mesh_doc.specs.declared.reason.Reason.TheVariants as reason

-- those of the entries from an index on, behind what was seen before them
abbrev pub each_in_turn : {S : Type 0} → (S → Check) → (S → Data → S) → S → ℕ → Items → Steps → Faults
each_in_turn f after seen index no_items at = none
each_in_turn f after seen index (item d ds) at =
    joined (f seen d (at_index index at)) (each_in_turn f after (after seen d) (index + 1) ds at)

-- of a list over its limit no entry is read
abbrev pub entries_in_turn : {S : Type 0} → ℕ → (S → Check) → (S → Data → S) → S → Items → Steps → Faults
entries_in_turn most f after seen ds at =
    hiding (unless (nat_le (items_len ds) most) reason.TooMany at) (each_in_turn f after seen 0 ds at)

-- a list of at most so many entries
unfoldable pub list_in_turn : {S : Type 0} → ℕ → (S → Check) → (S → Data → S) → S → Check
list_in_turn most f after seen = list_faults ▸ λ d at. entries_in_turn most f after seen (items_of d) at

-- a field with such a list; one that is not there is as an empty one
unfoldable pub listed_in_turn : {S : Type 0} → List ℕ → ℕ → (S → Check) → (S → Data → S) → S → Check
listed_in_turn name most f after seen = optional name (list_in_turn most f after seen)
