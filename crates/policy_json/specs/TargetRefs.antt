-- The fields that name what a policy holds for by reference (Istio reference, PolicyTargetReference). Policies here
-- hold for Pods by their labels alone, so such a field may only be left out, or be an empty list.
use Rattle.std.specs.Prelude.{Bool, true, false}
use Rattle.serde_json.specs.Data.{Data, null, boolean, number, string, array, object, Items, no_items, item}
use Rattle.mesh_doc.specs.Faults.{Check, ◌⨾◌, demands}
use Rattle.mesh_doc.specs.Fields.{optional}
use Rattle.mesh_doc.specs.declared.reason.Reason.TheVariants as reason
use Rattle.policy_json.specs.declared.target_refs.TheConstants.{TARGET_REFS, TARGET_REF}

-- an array without entries
abbrev pub has_no_entry : Items → Bool
has_no_entry no_items = true
has_no_entry (item d ds) = false

-- the empty array
abbrev pub is_empty_list : Data → Bool
is_empty_list null = false
is_empty_list (boolean b) = false
is_empty_list (number n) = false
is_empty_list (string s) = false
is_empty_list (array ds) = has_no_entry ds
is_empty_list (object ms) = false

-- whatever its kind, another value names a target
unfoldable pub no_target_faults : Check
no_target_faults = demands is_empty_list reason.TargetRefs

-- `targetRefs` and `targetRef`
unfoldable pub targets_faults : Check
targets_faults = optional TARGET_REFS.now no_target_faults ⨾ optional TARGET_REF.now no_target_faults
