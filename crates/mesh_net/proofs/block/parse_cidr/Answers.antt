use Rattle.std.proofs.Common.{◌∙◌}
use Rattle.mesh_net.proofs.BlockLemmas.{block_reads, spelled_if_some}
use Rattle.mesh_net.proofs.block.parse_cidr.Goals as goal

pub returns-clause-spelled : goal.returns-clause-spelled
returns-clause-spelled c = spelled_if_some c.args.s.now c.read.result c.read.ensures

pub returns-clause-only : goal.returns-clause-only
returns-clause-only c block spelled = c.read.ensures ∙ block_reads c.args.s.now block spelled
