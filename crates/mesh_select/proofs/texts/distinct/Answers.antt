use Rattle.std.proofs.Common.{arith}
use Rattle.mesh_select.proofs.Lookups.{text_inserted}
use Rattle.mesh_select.proofs.texts.distinct.Goals as goal

pub loop-text-preserved : goal.loop-text-preserved
loop-text-preserved c =
    text_inserted c.args.texts.now c.loop-text.text-index _ c.loop-text.set.keys c.insert.new.self.keys _
    (omega arith) c.in_ok-insert.ensures.keys c.loop-text.invariant
