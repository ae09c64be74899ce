-- The names so far are there.
use Rattle.std.proofs.Common.{◌≡◌, ◌||◌, Some, take}
use Rattle.std.specs.List.{list_any}
use Rattle.listener_reader.specs.Targets.{Kind, has, kind_of, same}
use Rattle.listener_reader.proofs.clashes.put_all.Given as goal

abbrev pub invariant-loop-name : goal.invariant-loop-name
invariant-loop-name l = (kind : Kind) → has l.kinds kind
    ≡ (has l.fn.kinds kind || list_any (λ n. same (kind_of l.matching (Some n)) kind) (take l.name-index l.names))
