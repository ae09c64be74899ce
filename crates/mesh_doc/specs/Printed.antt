-- A fault as it is printed: its place, as `$` and its JSON Pointer (RFC 6901 section 5), on one line whatever the keys
-- hold, and its reason.
use Rattle.std.specs.Prelude.{ℕ, ◌==◌, List, [], ◌∷◌, ◌++◌, codes, nat_lt, if◌then◌else◌}
use Rattle.std.specs.Fmt.{decimal}
use Rattle.std.specs.List.{flat_map}
use Rattle.mesh_doc.specs.Places.{Steps}
use Rattle.mesh_doc.specs.Reason.{name_of}
use Rattle.mesh_text.specs.Bytes.{slash, space, tilde}
use Rattle.mesh_doc.specs.declared.fault.Fault.{Fault}
use Rattle.mesh_doc.specs.declared.place.Step.{Step}
use Rattle.mesh_doc.specs.declared.place.Step.TheVariants as step

-- `~` and `/` are escaped (RFC 6901 section 3), and a control character shows as `?`
abbrev pub shown_byte : ℕ → List ℕ
shown_byte c =
    if c == tilde then codes "~0"
    else (if c == slash then codes "~1"
    else (if nat_lt c space then codes "?"
    else c ∷ []))

-- a key, byte by byte
abbrev pub shown_key : List ℕ → List ℕ
shown_key key = flat_map shown_byte key

-- `/` and the key, or the index in decimal
abbrev pub shown_step : Step → List ℕ
shown_step (step.Key key) = codes "/" ++ shown_key key
shown_step (step.Index index) = codes "/" ++ decimal index

-- `$` and the steps
abbrev pub shown : Steps → List ℕ
shown at = codes "$" ++ flat_map shown_step at

-- PLACE: REASON
abbrev pub fault_text : Fault → List ℕ
fault_text f = shown f.place ++ codes ": " ++ name_of f.reason
