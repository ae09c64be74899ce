use Rattle.std.proofs.Common.{◌≡◌, drop, map}
use Rattle.std.specs.BTreeSet.{insert_key}
use Rattle.std.specs.List.{fold}
use Rattle.std.specs.Ordering.{nat_cmp}
use Rattle.mesh_select.proofs.ports.add_ports.Given as goal

abbrev pub invariant-loop-entry : goal.invariant-loop-entry
invariant-loop-entry l =
    fold (insert_key nat_cmp) l.numbers.keys (map (λ entry. entry.port) (drop l.entry-index l.entry-items))
    ≡ fold (insert_key nat_cmp) l.fn.numbers.keys (map (λ entry. entry.port) l.entry-items)
