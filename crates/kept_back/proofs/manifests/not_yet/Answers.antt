-- Where nothing is kept back, the workload of each Pod is one that a listener is built for.
use Rattle.kept_back.proofs.Workloads.{answered}
use Rattle.kept_back.proofs.manifests.not_yet.Goals as goal

pub returns-clause-buildable : goal.returns-clause-buildable
returns-clause-buildable c = answered c.first_place.result _ c.first_place.ensures
