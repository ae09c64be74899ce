-- What a request asks for (Istio reference, "Authorization Policy": Operation).
use Rattle.std.specs.Prelude.{[], ◌∷◌}
use Rattle.serde_json.specs.Data.{Data}
use Rattle.mesh_doc.specs.Faults.{Check, ◌⨾◌}
use Rattle.mesh_doc.specs.Fields.{strict}
use Rattle.mesh_doc.specs.Kinds.{text_in}
use Rattle.mesh_doc.specs.Lists.{listed_in}
use Rattle.mesh_policy.specs.declared.policy.OperationSpec.{OperationSpec}
use Rattle.policy_json.specs.BothListed.{both_listed}
use Rattle.policy_json.specs.Texts.{short_text_faults}
use Rattle.policy_json.specs.Values.{path_faults, port_value_faults, port_value_in}
use Rattle.policy_json.specs.declared.operations.TheConstants.{HOSTS, NOT_HOSTS, PORTS, NOT_PORTS, METHODS, NOT_METHODS, PATHS, NOT_PATHS}

-- Operation: eight lists of values
unfoldable pub operation_faults : Check
operation_faults =
    strict (HOSTS.now ∷ NOT_HOSTS.now ∷ PORTS.now ∷ NOT_PORTS.now ∷ METHODS.now ∷ NOT_METHODS.now ∷ PATHS.now ∷ NOT_PATHS.now ∷ [])
    (both_listed HOSTS.now NOT_HOSTS.now short_text_faults
    ⨾ both_listed PORTS.now NOT_PORTS.now port_value_faults
    ⨾ both_listed METHODS.now NOT_METHODS.now short_text_faults
    ⨾ both_listed PATHS.now NOT_PATHS.now path_faults)

-- what an Operation means
unfoldable pub operation_in : Data → OperationSpec
operation_in d = record {
  hosts = listed_in HOSTS.now text_in d;
  not_hosts = listed_in NOT_HOSTS.now text_in d;
  ports = listed_in PORTS.now port_value_in d;
  not_ports = listed_in NOT_PORTS.now port_value_in d;
  methods = listed_in METHODS.now text_in d;
  not_methods = listed_in NOT_METHODS.now text_in d;
  paths = listed_in PATHS.now text_in d;
  not_paths = listed_in NOT_PATHS.now text_in d;
}
