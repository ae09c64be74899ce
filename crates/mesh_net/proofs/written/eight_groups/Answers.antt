use Rattle.std.proofs.Common.{arith, rules}
use Rattle.mesh_net.proofs.WrittenLemmas.{one_more}
use Rattle.mesh_net.proofs.written.eight_groups.Goals as goal

pub loop-left-preserved : goal.loop-left-preserved
loop-left-preserved c = record {
  within = omega arith;
  so_far = one_more c.args.number c.loop-left.left _ _ _ (omega arith) c.loop-left.invariant.so_far (search rules);
}
