-- One kind more.
use Rattle.listener_reader.proofs.KindSets.{one-more}
use Rattle.listener_reader.proofs.clashes.put.Goals as goal

pub returns : goal.returns
returns c = one-more c.args.kinds.now c.insert.new.self c.args.key.now c.in_ok-insert.ensures.updates.0
