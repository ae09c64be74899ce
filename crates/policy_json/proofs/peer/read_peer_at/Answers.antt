use Rattle.mesh_doc.proofs.NoFault.{ok_ensures}
use Rattle.policy_json.proofs.AcceptedSpecs.{peer_ensures}
use Rattle.policy_json.proofs.peer.read_peer_at.Goals as goal

pub returns-clause-accepted : goal.returns-clause-accepted
returns-clause-accepted c named placed aged = ok_ensures (peer_ensures _ _ _ named placed aged) _ _ _ c.read_spec.ensures
