-- How a place is told that no listener is built for yet. Checks tell it as a fault. A refusal shows the place alone, so
-- that the fault's reason has no meaning, and is the same for all.
use Rattle.std.specs.Prelude.{ℕ, Bool, List}
use Rattle.serde_json.specs.Data.{Data}
use Rattle.mesh_doc.specs.Faults.{Check, demands, fault}
use Rattle.mesh_doc.specs.Fields.{optional}
use Rattle.mesh_doc.specs.declared.reason.Reason.TheVariants.{UnknownField}
use Rattle.policy_json.specs.TargetRefs.{is_empty_list}

-- no listener is built for the value yet, whatever it is
abbrev pub whole_kept : Check
whole_kept d at = fault UnknownField at

-- one is built for the values that pass the test alone
abbrev pub kept_unless : (Data → Bool) → Check
kept_unless test = demands test UnknownField

-- one is built where a list of the object has no entry: it is absent, `null` or empty
unfoldable pub no_entries : List ℕ → Check
no_entries name = optional name (kept_unless is_empty_list)
