use Rattle.mesh_policy.proofs.PeerNameLemmas.{names-are-read}
use Rattle.mesh_policy.proofs.laws.peer_names_are_read.Goals as goal

pub returns : goal.returns
returns c = names-are-read
