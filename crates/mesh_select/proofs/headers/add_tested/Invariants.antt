use Rattle.std.proofs.Common.{◌≡◌, ◌++◌, drop, map}
use Rattle.mesh_select.specs.Headers.{tested_by_rules}
use Rattle.mesh_select.proofs.headers.add_tested.Given as goal

abbrev pub invariant-loop-rule : goal.invariant-loop-rule
invariant-loop-rule l =
    map (λ t. t.now) l.names.items ++ tested_by_rules (drop l.rule-index l.rules)
    ≡ map (λ t. t.now) l.fn.names.items ++ tested_by_rules l.rules
