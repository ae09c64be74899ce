use Rattle.std.proofs.Common.{lit<}
use Rattle.std.proofs.lemmas.Iterator.Consumers.{map_from_collect}
use Rattle.std.proofs.lemmas.Iterator.Splits.{YieldsList-from_str_split}
use Rattle.mesh_doc.specs.Known.{names_of}
use Rattle.mesh_doc.proofs.known.names_of.Goals as goal

pub returns : goal.returns
unfolding names_of
returns c =
    let words =
    YieldsList-from_str_split 32 c.args.text.now (lit< tt) c.split.ensures.text c.split.ensures.has_more c.split.ensures.pattern in
    let collected = map_from_collect c.collect.result c.collect.ensures.ran words in
    rw c.in_ok-collect.was at collected
