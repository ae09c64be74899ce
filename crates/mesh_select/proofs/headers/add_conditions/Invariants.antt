use Rattle.std.proofs.Common.{◌≡◌, ◌++◌, drop, flat_map, map}
use Rattle.mesh_policy.specs.SelectFault.{headers_of_condition}
use Rattle.mesh_select.proofs.headers.add_conditions.Given as goal

abbrev pub invariant-loop-condition : goal.invariant-loop-condition
invariant-loop-condition l =
    map (λ t. t.now) l.names.items ++ flat_map headers_of_condition (drop l.condition-index l.conditions)
    ≡ map (λ t. t.now) l.fn.names.items ++ flat_map headers_of_condition l.conditions
