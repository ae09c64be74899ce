use Rattle.std.proofs.Common.{◌≡◌, ◌++◌, drop, map}
use Rattle.mesh_select.proofs.build.copy_rules.Given as goal

abbrev pub invariant-loop-rule : goal.invariant-loop-rule
invariant-loop-rule l =
    l.copies ++ map (λ rule. rule.now) (drop l.rule-index l.rules) ≡ map (λ rule. rule.now) l.rules
