-- A Pod (Kubernetes API reference, Pod v1): of its `spec` the named TCP ports of its containers are read.
use Rattle.std.specs.Prelude.{Bool, ◌||◌, List, Option, Some, None, is_none, if◌then◌else◌}
use Rattle.serde_json.specs.Data.{Data}
use Rattle.mesh_doc.specs.Faults.{Check, ◌⨾◌}
use Rattle.mesh_doc.specs.Fields.{field_in, open_object, or_empty_in, required, required_in}
use Rattle.mesh_doc.specs.Kinds.{number_in, text_faults, text_in}
use Rattle.mesh_doc.specs.Lists.{listed, listed_in}
use Rattle.mesh_policy.specs.declared.pod.NamedPort.{NamedPort}
use Rattle.mesh_policy.specs.declared.pod.Pod.{Pod}
use Rattle.manifest_json.specs.Flat.{joined, kept}
use Rattle.manifest_json.specs.Metadata.{item_with, pod_metadata_faults, pod_metadata_in}
use Rattle.manifest_json.specs.Ports.{has_other_protocol, port_faults, unless_passed}
use Rattle.manifest_json.specs.declared.items.TheConstants.{METADATA, SPEC}
use Rattle.manifest_json.specs.declared.metadata.TheConstants.{NAME}
use Rattle.manifest_json.specs.declared.pod.TheConstants.{CONTAINERS, CONTAINER_PORT}
use Rattle.manifest_json.specs.declared.ports.TheConstants.{PORTS}

-- ---- a port of a container

-- one of another protocol, and one without a name
unfoldable pub is_passed : Data → Bool
is_passed d = has_other_protocol d || is_none (field_in NAME.now d)

-- a port by its name, with its number
unfoldable pub named_port_faults : Check
named_port_faults = open_object (unless_passed is_passed
    (required NAME.now text_faults
    ⨾ required CONTAINER_PORT.now port_faults))

unfoldable pub named_port_in : Data → Option NamedPort
named_port_in d = if is_passed d then None else Some (record {
  name = required_in NAME.now text_in d;
  port = required_in CONTAINER_PORT.now number_in d;
})

-- ---- its containers

-- at most 2,048 ports
unfoldable pub container_faults : Check
container_faults = open_object (listed PORTS.now 2048 named_port_faults)

unfoldable pub container_in : Data → List NamedPort
container_in d = kept (listed_in PORTS.now named_port_in d)

-- at most 2,048 containers, whose ports stand one behind the other
unfoldable pub pod_spec_faults : Check
pod_spec_faults = open_object (listed CONTAINERS.now 2048 container_faults)

unfoldable pub pod_spec_in : Data → List NamedPort
pod_spec_in d = joined (listed_in CONTAINERS.now container_in d)

-- ---- the whole

-- its metadata and its `spec`
unfoldable pub pod_faults : Check
pod_faults = item_with pod_metadata_faults pod_spec_faults

unfoldable pub pod_in : Data → Pod
pod_in d = let metadata = required_in METADATA.now pod_metadata_in d in record {
  name = metadata.names.name;
  namespace = metadata.names.namespace;
  labels = metadata.labels;
  ports = or_empty_in SPEC.now pod_spec_in d;
}
