use Rattle.std.proofs.Common.{ap, sym, ◌∙◌}
use Rattle.mesh_net.specs.Block.{whole_block}
use Rattle.mesh_net.specs.Cidr.{block_with}
use Rattle.mesh_net.proofs.block.whole.Goals as goal

pub returns-in-Some : goal.returns-in-Some
returns-in-Some c = c.new.ensures ∙ ap (block_with c.in-Some.ip) c.width.ensures ∙ ap whole_block (sym c.in-Some.is)
