use Rattle.std.proofs.Common.{◌≡◌, ◌++◌}
use Rattle.serde_json.specs.View.{members_view}
use Rattle.mesh_doc.specs.Faults.{first}
use Rattle.mesh_doc.specs.Maps.{each_member_faults, each_member_in}
use Rattle.mesh_doc.proofs.maps.each_member.Given as goal

abbrev pub invariant-loop-key : goal.invariant-loop-key
invariant-loop-key g l = record {
  faults :
      first (each_member_faults g.E.Entry.faults (members_view l.fields.entries) l.at)
      ≡ first (each_member_faults g.E.Entry.faults (members_view l.key-iterator) l.at);
  value :
      each_member_in g.E.Entry.value (members_view l.fields.entries)
      ≡ l.all ++ each_member_in g.E.Entry.value (members_view l.key-iterator);
}
