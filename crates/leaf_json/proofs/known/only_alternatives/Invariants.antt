-- The first unknown one of all is the first of those that are left.
use Rattle.std.proofs.Common.{◌≡◌}
use Rattle.serde_json.specs.View.{members_view}
use Rattle.mesh_doc.specs.Faults.{first}
use Rattle.mesh_doc.specs.Known.{unknown_in}
use Rattle.envoy_types.specs.TreeForms.{known_names}
use Rattle.leaf_json.proofs.known.only_alternatives.Given as goal

abbrev pub invariant-loop-name : goal.invariant-loop-name
invariant-loop-name g l =
    first (unknown_in (known_names g.L.Form.form) (members_view l.members.entries) l.at)
    ≡ first (unknown_in (known_names g.L.Form.form) (members_view l.name-iterator) l.at)
