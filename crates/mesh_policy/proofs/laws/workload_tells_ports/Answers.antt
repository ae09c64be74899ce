use Rattle.mesh_policy.proofs.WorkloadPorts.{tells-ports}
use Rattle.mesh_policy.proofs.laws.workload_tells_ports.Goals as goal

pub returns : goal.returns
returns c = tells-ports
