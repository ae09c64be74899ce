use Rattle.mesh_policy.proofs.TokenLemmas.{behind_is}
use Rattle.mesh_policy.proofs.token.behind.Goals as goal

pub returns-in-Some : goal.returns-in-Some
returns-in-Some c = rw c.in-Some.is (behind_is c.args.prefix.now c.in-Some.value.now c.strip_prefix.result c.strip_prefix.ensures.cases)
