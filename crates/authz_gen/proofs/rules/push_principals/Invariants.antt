-- The parts, with what the conditions left give, are those of all.
use Rattle.std.proofs.Common.{◌≡◌, ◌++◌, drop}
use Rattle.std.specs.List.{flat_map}
use Rattle.authz_gen.specs.Conditions.{principal_by}
use Rattle.authz_gen.specs.Rules.{of_tested}
use Rattle.authz_gen.proofs.rules.push_principals.Given as goal

abbrev pub invariant-loop-condition : goal.invariant-loop-condition
invariant-loop-condition l =
    l.parts ++ flat_map (of_tested principal_by l.protocol) (drop l.condition-index l.conditions)
    ≡ l.fn.parts ++ flat_map (of_tested principal_by l.protocol) l.conditions
