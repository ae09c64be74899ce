use Rattle.std.proofs.Common.{◌≡◌, ◌++◌, drop, map}
use Rattle.mesh_select.proofs.selection.add_rules.Given as goal

abbrev pub invariant-loop-rule : goal.invariant-loop-rule
invariant-loop-rule l =
    map (λ rule. rule.now) l.rules.items ++ drop l.rule-index l.more ≡ map (λ rule. rule.now) l.fn.rules.items ++ l.more
