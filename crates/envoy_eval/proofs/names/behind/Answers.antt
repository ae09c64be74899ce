use Rattle.envoy_eval.proofs.Keys.{behind-is}
use Rattle.envoy_eval.proofs.names.behind.Goals as goal

pub returns : goal.returns
returns c = behind-is c.args.prefix.now c.args.key.now c.strip_prefix.result c.strip_prefix.ensures.cases
