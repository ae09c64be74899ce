use Rattle.mesh_doc.proofs.NoFault.{ok_ensures}
use Rattle.policy_json.proofs.AcceptedSpecs.{policy_ensures}
use Rattle.policy_json.proofs.authorization.read_authorization_at.Goals as goal

pub returns-clause-accepted : goal.returns-clause-accepted
returns-clause-accepted c named placed = ok_ensures (policy_ensures _ _ named placed) _ _ _ c.read_spec.ensures
