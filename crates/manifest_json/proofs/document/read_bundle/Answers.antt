-- A document without fault has a bundle that is accepted.
use Rattle.mesh_doc.proofs.NoFault.{ok_ensures}
use Rattle.manifest_json.proofs.AcceptedItems.{bundle_ensures}
use Rattle.manifest_json.proofs.document.read_bundle.Goals as goal

pub returns-clause-accepted : goal.returns-clause-accepted
returns-clause-accepted c = ok_ensures bundle_ensures _ _ _ c.read_document.ensures
