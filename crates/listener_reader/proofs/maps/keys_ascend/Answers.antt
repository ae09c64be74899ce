-- As the iterator of a map promises.
use Rattle.listener_reader.proofs.Rising.{sorted-rises}
use Rattle.listener_reader.proofs.maps.keys_ascend.Goals as goal

pub returns : goal.returns
returns c = sorted-rises c.args.fields.now.entries c.iter.ensures.ordered
