use Rattle.std.proofs.Common.{◌≡◌, ◌++◌, drop, map}
use Rattle.mesh_select.specs.Build.{port_with}
use Rattle.mesh_select.proofs.build.listed_ports.Given as goal

abbrev pub invariant-loop-number : goal.invariant-loop-number
invariant-loop-number l =
    l.ports ++ map (port_with l.http.keys l.levels) (drop l.number-index l.listed) ≡ map (port_with l.http.keys l.levels) l.listed
