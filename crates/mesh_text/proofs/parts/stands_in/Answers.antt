use Rattle.std.proofs.Common.{◌∙◌, sym, arith}
use Rattle.mesh_text.proofs.PartsLemmas.{plain_further, plain_over}
use Rattle.mesh_text.proofs.parts.stands_in.Goals as goal

pub loop-start-preserved : goal.loop-start-preserved
loop-start-preserved c =
    c.loop-start.invariant
    ∙ plain_further _ c.args.whole.now c.loop-start.start (omega arith) (sym c.if-begins_with.ensures)

pub returns : goal.returns
returns c =
    c.is_empty.ensures
    ∙ sym (c.loop-start.invariant ∙ plain_over c.args.part.now c.args.whole.now c.loop-start.start (omega arith))
