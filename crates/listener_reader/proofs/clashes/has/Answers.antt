-- The set has the kind where it has an equal one.
use Rattle.std.proofs.Common.{◌∙◌}
use Rattle.listener_reader.proofs.KindSets.{found}
use Rattle.listener_reader.proofs.clashes.has.Goals as goal

pub returns : goal.returns
returns c = c.contains.ensures ∙ found c.args.kinds.now c.args.key.now
