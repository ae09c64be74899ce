-- The trees so far are those of the first values.
use Rattle.std.proofs.Common.{◌≡◌, map, take}
use Rattle.authz_gen.proofs.fields.trees_of.Given as goal

abbrev pub invariant-loop-value : goal.invariant-loop-value
invariant-loop-value g l = l.trees ≡ map (g.F.Field.tree l.field) (take l.value-index l.values)
