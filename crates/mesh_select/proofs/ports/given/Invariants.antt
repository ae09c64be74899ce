use Rattle.std.proofs.Common.{◌≡◌, ◌++◌, drop}
use Rattle.mesh_select.specs.Ports.{given_by_all}
use Rattle.mesh_select.proofs.ports.given.Given as goal

abbrev pub invariant-loop-service : goal.invariant-loop-service
invariant-loop-service l =
    l.given.items ++ given_by_all l.pod (drop l.service-index l.services) ≡ given_by_all l.pod l.services
