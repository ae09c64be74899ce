use Rattle.std.proofs.Common.{◌≡◌, ◌++◌, drop, filter_map}
use Rattle.mesh_policy.specs.Ports.{given_by}
use Rattle.mesh_select.proofs.ports.add_given.Given as goal

abbrev pub invariant-loop-entry : goal.invariant-loop-entry
invariant-loop-entry l =
    l.given.items ++ filter_map (given_by l.pod) (drop l.entry-index l.entries)
    ≡ l.fn.given.items ++ filter_map (given_by l.pod) l.entries
