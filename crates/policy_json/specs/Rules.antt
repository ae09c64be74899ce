-- The rules of an AuthorizationPolicy (Istio reference, "Authorization Policy": Rule).
use Rattle.std.specs.Prelude.{[], ◌∷◌}
use Rattle.serde_json.specs.Data.{Data}
use Rattle.mesh_doc.specs.Faults.{Check, ◌⨾◌}
use Rattle.mesh_doc.specs.Fields.{or_empty, or_empty_in, strict}
use Rattle.mesh_doc.specs.Lists.{listed, listed_in}
use Rattle.mesh_policy.specs.declared.policy.OperationSpec.{OperationSpec}
use Rattle.mesh_policy.specs.declared.policy.Rule.{Rule}
use Rattle.mesh_policy.specs.declared.policy.SourceSpec.{SourceSpec}
use Rattle.policy_json.specs.Conditions.{condition_faults, condition_in}
use Rattle.policy_json.specs.Operations.{operation_faults, operation_in}
use Rattle.policy_json.specs.Sources.{source_faults, source_in}
use Rattle.policy_json.specs.declared.rules.TheConstants.{FROM, TO, WHEN, SOURCE, OPERATION}

-- Rule.From: a source; one that is not there is as the empty object
unfoldable pub from_faults : Check
from_faults = strict (SOURCE.now ∷ []) (or_empty SOURCE.now source_faults)

-- the source
unfoldable pub from_in : Data → SourceSpec
from_in d = or_empty_in SOURCE.now source_in d

-- Rule.To: an operation, likewise
unfoldable pub to_faults : Check
to_faults = strict (OPERATION.now ∷ []) (or_empty OPERATION.now operation_faults)

-- the operation
unfoldable pub to_in : Data → OperationSpec
to_in d = or_empty_in OPERATION.now operation_in d

-- Rule
unfoldable pub rule_faults : Check
rule_faults = strict (FROM.now ∷ TO.now ∷ WHEN.now ∷ [])
    (listed FROM.now 2048 from_faults
    ⨾ listed TO.now 2048 to_faults
    ⨾ listed WHEN.now 2048 condition_faults)

-- what a Rule means
unfoldable pub rule_in : Data → Rule
rule_in d = record {
  sources = listed_in FROM.now from_in d;
  operations = listed_in TO.now to_in d;
  conditions = listed_in WHEN.now condition_in d;
}
