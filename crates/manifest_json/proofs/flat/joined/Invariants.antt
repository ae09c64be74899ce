use Rattle.std.proofs.Common.{◌≡◌, ◌++◌}
use Rattle.manifest_json.specs.Flat as flat
use Rattle.manifest_json.proofs.flat.joined.Given as goal

abbrev pub invariant-loop-list : goal.invariant-loop-list
invariant-loop-list g l = flat.joined l.fn.lists ≡ l.all ++ flat.joined l.list-iterator.rest.items
