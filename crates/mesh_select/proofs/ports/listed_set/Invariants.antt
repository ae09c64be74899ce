use Rattle.std.proofs.Common.{◌≡◌, drop, map}
use Rattle.std.specs.BTreeSet.{insert_key}
use Rattle.std.specs.List.{fold}
use Rattle.std.specs.Ordering.{nat_cmp}
use Rattle.mesh_policy.specs.Lists.{ascending}
use Rattle.mesh_select.proofs.ports.listed_set.Given as goal

abbrev pub invariant-loop-port : goal.invariant-loop-port
invariant-loop-port l =
    fold (insert_key nat_cmp) l.numbers.keys (map (λ entry. entry.number) (drop l.port-index l.given))
    ≡ ascending (map (λ entry. entry.number) l.given)
