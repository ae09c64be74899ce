-- The conditions of a rule (Istio reference, "Authorization Policy": Condition).
use Rattle.std.specs.Prelude.{◌==◌, Bool, ◌&&◌, not, [], ◌∷◌, length}
use Rattle.serde_json.specs.Data.{Data}
use Rattle.mesh_doc.specs.Faults.{Check, ◌⨾◌, ◌▸◌, demands}
use Rattle.mesh_doc.specs.Fields.{strict, required, required_in}
use Rattle.mesh_doc.specs.Kinds.{text_in}
use Rattle.mesh_doc.specs.Lists.{listed_in}
use Rattle.mesh_doc.specs.declared.reason.Reason.TheVariants as reason
use Rattle.mesh_policy.specs.declared.condition.Condition.{Condition}
use Rattle.mesh_policy.specs.declared.condition.Condition.TheVariants as condition
use Rattle.mesh_policy.specs.declared.condition.TextKey.TheVariants as text_key
use Rattle.policy_json.specs.BothListed.{both_listed, both_listed_in}
use Rattle.policy_json.specs.ConditionKeys.{key_faults, key_in}
use Rattle.policy_json.specs.Texts.{short_text_faults}
use Rattle.policy_json.specs.Values.{block_faults, block_in, port_value_faults, port_value_in, request_principal_faults}
use Rattle.policy_json.specs.declared.both_listed.ValueLists.{ValueLists}
use Rattle.policy_json.specs.declared.condition_keys.ConditionKey.{ConditionKey}
use Rattle.policy_json.specs.declared.condition_keys.ConditionKey.TheVariants as key
use Rattle.policy_json.specs.declared.conditions.TheConstants.{KEY, VALUES, NOT_VALUES}

-- one list at least has an entry
abbrev pub has_entries : {A : Type 0} → (Data → A) → Data → Bool
has_entries value d = not ((length (listed_in VALUES.now value d) == 0) && (length (listed_in NOT_VALUES.now value d) == 0))

-- `values` and `notValues`, of entries of one form
unfoldable pub both_faults : {A : Type 0} → Check → (Data → A) → Check
both_faults f value = both_listed VALUES.now NOT_VALUES.now f ⨾ demands (has_entries value) reason.EmptyCondition

-- what both lists mean
abbrev pub both_in : {A : Type 0} → (Data → A) → Data → ValueLists A
both_in value = both_listed_in VALUES.now NOT_VALUES.now value

-- the key says which form the values have
abbrev pub values_faults : ConditionKey → Check
values_faults (key.Words word) = both_faults short_text_faults text_in
values_faults key.Principals = both_faults request_principal_faults text_in
values_faults (key.Blocks address) = both_faults block_faults block_in
values_faults key.Ports = both_faults port_value_faults port_value_in

-- a key with the values of both lists
abbrev pub values_in : ConditionKey → Data → Condition
values_in (key.Words word) d = condition.Words word (listed_in VALUES.now text_in d) (listed_in NOT_VALUES.now text_in d)
values_in key.Principals d =
    condition.Words text_key.AuthPrincipal (listed_in VALUES.now text_in d) (listed_in NOT_VALUES.now text_in d)
values_in (key.Blocks address) d = condition.Blocks address (listed_in VALUES.now block_in d) (listed_in NOT_VALUES.now block_in d)
values_in key.Ports d = condition.Ports (listed_in VALUES.now port_value_in d) (listed_in NOT_VALUES.now port_value_in d)

-- Condition; without a key no value is read
unfoldable pub condition_faults : Check
condition_faults = strict (KEY.now ∷ VALUES.now ∷ NOT_VALUES.now ∷ [])
    (required KEY.now key_faults ▸ λ d at. values_faults (required_in KEY.now key_in d) d at)

-- what a Condition means
unfoldable pub condition_in : Data → Condition
condition_in d = values_in (required_in KEY.now key_in d) d
