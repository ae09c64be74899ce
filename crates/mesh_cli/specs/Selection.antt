-- What refusals write of the reason why a Pod has no workload.
use Rattle.std.specs.Prelude.{ℕ, List, ◌++◌, Option, Some, None, codes, decimal}
use Rattle.mesh_policy.specs.SelectFault as fault
use Rattle.mesh_policy.specs.SelectFault.{SelectFault}
use Rattle.mesh_policy.specs.declared.service.Protocol.{Protocol}
use Rattle.mesh_policy.specs.declared.service.Protocol.TheVariants.{Http, Tcp}
use Rattle.mesh_select.specs.declared.error.SelectError.{SelectError}
use Rattle.mesh_select.specs.declared.error.SelectError.TheVariants as error
use Rattle.mesh_cli.specs.PodName.{PodName, pod_text}
use Rattle.mesh_cli.specs.Refusal.{Answer, refuses_at}

-- a protocol as refusals write it
abbrev pub protocol_text : Protocol → List ℕ
protocol_text Http = codes "http"
protocol_text Tcp = codes "tcp"

-- the reason, and what it keeps
abbrev pub reason_text : SelectFault → List ℕ
reason_text fault.no_workload = codes "NoWorkload"
reason_text (fault.port_conflict port first second) =
    codes "PortConflict " ++ decimal port ++ codes " " ++ protocol_text first ++ codes " " ++ protocol_text second
reason_text (fault.unknown_provider name) = codes "UnknownProvider " ++ name
reason_text (fault.two_providers name other) = codes "TwoProviders " ++ name ++ codes " " ++ other
reason_text (fault.token_header_tested name) = codes "TokenHeaderTested " ++ name
reason_text (fault.too_many_ports ports) = codes "TooManyPorts " ++ decimal ports
reason_text (fault.too_many_values values entries bytes) =
    codes "TooManyValues " ++ decimal values ++ codes " " ++ decimal entries ++ codes " " ++ decimal bytes

-- `refused: NAMESPACE/NAME: REASON`
abbrev pub refuses_pod : PodName → SelectFault → Answer
refuses_pod name reason = refuses_at (pod_text name) (reason_text reason)

-- the reason that an error is, if it is no want of memory
abbrev pub reason_of : SelectError → Option SelectFault
reason_of error.NoWorkload = Some fault.no_workload
reason_of (error.PortConflict port first second) = Some (fault.port_conflict port first second)
reason_of (error.UnknownProvider name) = Some (fault.unknown_provider name)
reason_of (error.TwoProviders name other) = Some (fault.two_providers name other)
reason_of (error.TokenHeaderTested name) = Some (fault.token_header_tested name)
reason_of (error.TooManyPorts ports) = Some (fault.too_many_ports ports)
reason_of (error.TooManyValues values entries bytes) = Some (fault.too_many_values values entries bytes)
reason_of error.Memory = None
