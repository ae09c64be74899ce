-- The piece of a write is what is left of the bytes.
use Rattle.std.proofs.Common.{◌∙◌, arith}
use Rattle.std.proofs.lemmas.Grind.{common_steps}
use Rattle.mesh_edge.proofs.Steps.{written_more, NoFewer-trans}
use Rattle.mesh_edge.proofs.transfer.write_all.Goals as goal

pub loop-at-preserved : goal.loop-at-preserved
loop-at-preserved g c = record {
  within = grind (arith, common_steps, c.in-Ok.ensures.bound);
  faultless = c.in-Ok.ensures.cause.passed ∙ c.loop-at.invariant.faultless;
  taken = written_more _ _ _ c.args.bytes.now c.loop-at.at c.in-Ok.count c.loop-at.invariant.taken c.in-Ok.ensures.bytes;
  flushed = NoFewer-trans _ _ _ c.loop-at.invariant.flushed c.in-Ok.ensures.flushed;
  turns = record {
    writes = grind (arith, common_steps, c.in-Ok.ensures.bound, c.loop-at.invariant.turns.writes, c.in-Ok.ensures.turn.writes);
    flushes = omega (arith, c.loop-at.invariant.turns.flushes, c.in-Ok.ensures.turn.flushes);
  };
}
