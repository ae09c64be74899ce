-- A Service (Kubernetes API reference, Service v1): its selector and its TCP ports.
use Rattle.std.specs.Prelude.{Option, Some, None, is_some, unwrap_or, if◌then◌else◌}
use Rattle.serde_json.specs.Data.{Data}
use Rattle.serde_json.specs.Find.{as_str}
use Rattle.mesh_doc.specs.Faults.{Check, none, ◌⨾◌}
use Rattle.mesh_doc.specs.Fields.{open_object, optional, optional_in, or_empty, or_empty_in, required, required_in}
use Rattle.mesh_doc.specs.Kinds.{number_in, text_faults, text_in}
use Rattle.mesh_doc.specs.Lists.{listed, listed_in}
use Rattle.mesh_policy.specs.declared.service.Service.{Service}
use Rattle.mesh_policy.specs.declared.service.ServicePort.{ServicePort}
use Rattle.mesh_policy.specs.declared.service.Target.{Target}
use Rattle.mesh_policy.specs.declared.service.Target.TheVariants as target
use Rattle.policy_json.specs.Labels.{labels_faults, labels_in}
use Rattle.manifest_json.specs.Flat.{kept}
use Rattle.manifest_json.specs.Metadata.{item_with, names_in, plain_metadata_faults}
use Rattle.manifest_json.specs.Ports.{has_other_protocol, port_faults, unless_passed}
use Rattle.manifest_json.specs.declared.items.TheConstants.{METADATA, SPEC}
use Rattle.manifest_json.specs.declared.metadata.TheConstants.{NAME}
use Rattle.manifest_json.specs.declared.ports.TheConstants.{PORT, PORTS}
use Rattle.manifest_json.specs.declared.service.ServiceSpec.{ServiceSpec}
use Rattle.manifest_json.specs.declared.service.TheConstants.{SELECTOR, TARGET_PORT, APP_PROTOCOL}

-- ---- a port

-- a text is a name, also one of digits; every other value has to be a port by its number
unfoldable pub target_faults : Check
target_faults d at = if is_some (as_str d) then none else port_faults d at

unfoldable pub target_in : Data → Target
target_in d = if is_some (as_str d) then target.Named (text_in d) else target.Number (number_in d)

-- a TCP port
unfoldable pub service_port_faults : Check
service_port_faults = open_object (unless_passed has_other_protocol
    (optional NAME.now text_faults
    ⨾ required PORT.now port_faults
    ⨾ optional TARGET_PORT.now target_faults
    ⨾ optional APP_PROTOCOL.now text_faults))

unfoldable pub service_port_in : Data → Option ServicePort
service_port_in d = if has_other_protocol d then None else Some (record {
  name = optional_in NAME.now text_in d;
  port = required_in PORT.now number_in d;
  target = unwrap_or (optional_in TARGET_PORT.now target_in d) target.Same;
  app_protocol = optional_in APP_PROTOCOL.now text_in d;
})

-- ---- the `spec`

-- labels of Pods, and at most 2,048 ports
unfoldable pub service_spec_faults : Check
service_spec_faults = open_object
    (or_empty SELECTOR.now labels_faults
    ⨾ listed PORTS.now 2048 service_port_faults)

unfoldable pub service_spec_in : Data → ServiceSpec
service_spec_in d = record {
  selector = or_empty_in SELECTOR.now labels_in d;
  ports = kept (listed_in PORTS.now service_port_in d);
}

-- ---- the whole

-- its metadata and its `spec`
unfoldable pub service_faults : Check
service_faults = item_with plain_metadata_faults service_spec_faults

unfoldable pub service_in : Data → Service
service_in d =
    let names = required_in METADATA.now names_in d in
    let spec = or_empty_in SPEC.now service_spec_in d in
    record { name = names.name; namespace = names.namespace; selector = spec.selector; ports = spec.ports }
