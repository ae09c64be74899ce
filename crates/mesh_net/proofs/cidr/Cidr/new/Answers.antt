use Rattle.mesh_net.proofs.BlockLemmas.{block_fits}
use Rattle.mesh_net.proofs.cidr.Cidr.new.Goals as goal

pub returns : goal.returns
returns c = block_fits c.args.addr c.args.len _
