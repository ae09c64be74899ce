use Rattle.mesh_doc.proofs.Unique.{unique_besides-sorted}
use Rattle.mesh_doc.proofs.maps.unique_members.Goals as goal

pub returns : goal.returns
returns g c = rw (unique_besides-sorted c.args.fields.now.entries c.each_member.ensures.ordered) c.each_member.ensures.reads
