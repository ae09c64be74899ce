use Rattle.std.proofs.Common.{◌≡◌, ◌&&◌, drop, filter, map, nat_lt}
use Rattle.std.specs.BTreeMap.{is_at}
use Rattle.std.specs.List.{list_any}
use Rattle.std.specs.Ordering.{nat_cmp}
use Rattle.mesh_policy.specs.Lists.{least}
use Rattle.mesh_select.specs.Least.{least_from}
use Rattle.mesh_select.proofs.ports.conflict.Given as goal

abbrev pub invariant-loop-port : goal.invariant-loop-port
invariant-loop-port l =
    least_from nat_lt l.found (filter (λ port. list_any (is_at (nat_cmp port)) l.http.keys && list_any (is_at (nat_cmp port)) l.tcp.keys)
    (map (λ entry. entry.number) (drop l.port-index l.given)))
    ≡ least nat_lt (filter (λ port. list_any (is_at (nat_cmp port)) l.http.keys && list_any (is_at (nat_cmp port)) l.tcp.keys)
    (map (λ entry. entry.number) l.given))
