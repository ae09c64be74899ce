use Rattle.std.proofs.Common.{◌≡◌, map}
use Rattle.serde_json.specs.View.{members_view}
use Rattle.mesh_doc.specs.Faults.{first}
use Rattle.mesh_doc.specs.Known.{unknown_in}
use Rattle.mesh_doc.proofs.known.only_known.Given as goal

abbrev pub invariant-loop-name : goal.invariant-loop-name
invariant-loop-name l =
    first (unknown_in (map (λ n. n.now) l.known) (members_view l.members.entries) l.at)
    ≡ first (unknown_in (map (λ n. n.now) l.known) (members_view l.name-iterator) l.at)
