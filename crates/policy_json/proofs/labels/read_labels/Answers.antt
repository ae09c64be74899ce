use Rattle.mesh_doc.proofs.NoFault.{ok_ensures}
use Rattle.policy_json.proofs.AcceptedSpecs.{labels_ensures}
use Rattle.policy_json.proofs.labels.read_labels.Goals as goal

pub returns-clause-accepted : goal.returns-clause-accepted
returns-clause-accepted c = ok_ensures labels_ensures _ _ _ c.read.ensures
