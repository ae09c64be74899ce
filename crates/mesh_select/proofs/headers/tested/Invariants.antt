use Rattle.std.proofs.Common.{◌≡◌, ◌++◌, drop, map}
use Rattle.mesh_policy.specs.SelectFault.{tested_headers}
use Rattle.mesh_select.proofs.headers.tested.Given as goal

abbrev pub invariant-loop-entry : goal.invariant-loop-entry
invariant-loop-entry l =
    map (λ t. t.now) l.names.items ++ tested_headers (drop l.entry-index l.policies) ≡ tested_headers l.policies
