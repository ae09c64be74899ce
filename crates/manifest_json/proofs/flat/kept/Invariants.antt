use Rattle.std.proofs.Common.{◌≡◌, ◌++◌}
use Rattle.manifest_json.specs.Flat as flat
use Rattle.manifest_json.proofs.flat.kept.Given as goal

abbrev pub invariant-loop-entry : goal.invariant-loop-entry
invariant-loop-entry g l = flat.kept l.fn.entries ≡ l.all ++ flat.kept l.entry-iterator.rest.items
