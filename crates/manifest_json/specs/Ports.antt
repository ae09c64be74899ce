-- A port by its number, and the entries that have ports (Kubernetes API reference, ContainerPort and ServicePort).
use Rattle.std.specs.Prelude.{ℕ, Bool, false, not, List, Option, Some, None, option_and_then, if◌then◌else◌}
use Rattle.std.specs.Str.{bytes_eq}
use Rattle.serde_json.specs.Data.{Data}
use Rattle.serde_json.specs.Find.{as_str}
use Rattle.mesh_doc.specs.Faults.{Check, none, ◌▸◌, demands}
use Rattle.mesh_doc.specs.Fields.{field_in}
use Rattle.mesh_doc.specs.Kinds.{number_faults, number_in}
use Rattle.mesh_doc.specs.declared.reason.Reason.TheVariants as reason
use Rattle.mesh_policy.specs.Values.{is_port}
use Rattle.manifest_json.specs.declared.ports.TheConstants.{PROTOCOL, TCP}

-- a number from 1 to 65,535
unfoldable pub port_faults : Check
port_faults = number_faults ▸ demands (λ d. is_port (number_in d)) reason.BadPort

-- a text other than `TCP`
abbrev pub is_other : Option (List ℕ) → Bool
is_other None = false
is_other (Some word) = not (bytes_eq word TCP.now)

-- a `protocol` that is no text is as one that is not there
unfoldable pub has_other_protocol : Data → Bool
has_other_protocol d = is_other (option_and_then as_str (field_in PROTOCOL.now d))

-- an entry that is passed over is not read
abbrev pub unless_passed : (Data → Bool) → Check → Check
unless_passed is_passed f d at = if is_passed d then none else f d at
