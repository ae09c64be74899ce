-- What is left decides.
use Rattle.std.proofs.Common.{◌≡◌, Some, drop}
use Rattle.std.specs.List.{list_any}
use Rattle.listener_reader.specs.Targets.{has, kind_of}
use Rattle.listener_reader.proofs.clashes.has_one.Given as goal

abbrev pub invariant-loop-name : goal.invariant-loop-name
invariant-loop-name l = list_any (λ n. has l.kinds (kind_of l.matching (Some n))) l.names
    ≡ list_any (λ n. has l.kinds (kind_of l.matching (Some n))) (drop l.name-index l.names)
