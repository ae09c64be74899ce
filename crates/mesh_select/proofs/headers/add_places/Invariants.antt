use Rattle.std.proofs.Common.{◌≡◌, ◌++◌, drop, flat_map, map}
use Rattle.mesh_policy.specs.SelectFault.{headers_of_place}
use Rattle.mesh_select.proofs.headers.add_places.Given as goal

abbrev pub invariant-loop-place : goal.invariant-loop-place
invariant-loop-place l =
    map (λ t. t.now) l.names.items ++ flat_map headers_of_place (drop l.place-index l.places)
    ≡ map (λ t. t.now) l.fn.names.items ++ flat_map headers_of_place l.places
