use Rattle.std.proofs.Common.{◌≡◌, ◌++◌, drop, map}
use Rattle.mesh_policy.specs.SelectFault.{changed_headers}
use Rattle.mesh_select.proofs.headers.changed.Given as goal

abbrev pub invariant-loop-rule : goal.invariant-loop-rule
invariant-loop-rule l =
    map (λ t. t.now) l.names.items ++ changed_headers (map (λ r. r.now) (drop l.rule-index l.rules))
    ≡ changed_headers (map (λ r. r.now) l.rules)
