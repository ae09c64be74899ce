use Rattle.std.proofs.Common.{◌≡◌, ◌==◌, drop, find}
use Rattle.mesh_select.proofs.workload.port_at.Given as goal

abbrev pub invariant-loop-port : goal.invariant-loop-port
invariant-loop-port l =
    find (λ port. port.number == l.number) (drop l.port-index l.ports) ≡ find (λ port. port.number == l.number) l.ports
