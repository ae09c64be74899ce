use Rattle.std.proofs.Common.{◌≡◌, drop, filter, map}
use Rattle.std.specs.BTreeSet.{insert_key}
use Rattle.std.specs.List.{fold}
use Rattle.std.specs.Ordering.{nat_cmp}
use Rattle.mesh_select.specs.Ports.{numbers_with, speaks}
use Rattle.mesh_select.proofs.ports.numbers_with.Given as goal

abbrev pub invariant-loop-port : goal.invariant-loop-port
invariant-loop-port l =
    fold (insert_key nat_cmp) l.numbers.keys
    (map (λ entry. entry.number) (filter (λ entry. speaks l.protocol entry.protocol) (drop l.port-index l.given)))
    ≡ numbers_with l.protocol l.given
