use Rattle.std.proofs.Common.{rules, lit<, None}
use Rattle.std.proofs.lemmas.Str.Pattern.{split_once_first}
use Rattle.mesh_net.proofs.BlockLemmas.{no_slash}
use Rattle.mesh_net.proofs.block.read.Goals as goal

pub returns-in-None : goal.returns-in-None
returns-in-None c =
    let none = no_slash c.args.s.now (split_once_first 47 c.args.s.now None c.in-None.ensures.cases (lit< tt)) in
    rw none (search rules)
