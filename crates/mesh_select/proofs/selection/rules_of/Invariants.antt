use Rattle.std.proofs.Common.{◌≡◌, ◌++◌, drop, flat_map, map}
use Rattle.mesh_select.proofs.selection.rules_of.Given as goal

abbrev pub invariant-loop-entry : goal.invariant-loop-entry
invariant-loop-entry l =
    map (λ rule. rule.now) l.rules.items ++ flat_map (λ request. request.rules) (drop l.entry-index l.requests)
    ≡ flat_map (λ request. request.rules) l.requests
