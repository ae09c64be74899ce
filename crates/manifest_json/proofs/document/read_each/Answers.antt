-- The list is not over its limit.
use Rattle.mesh_doc.proofs.NoFault.{ok_ensures}
use Rattle.manifest_json.proofs.Counted.{few_items}
use Rattle.manifest_json.proofs.document.read_each.Goals as goal

pub returns-clause-few : goal.returns-clause-few
returns-clause-few c = ok_ensures (few_items _) _ _ _ c.entries_in_turn.ensures
