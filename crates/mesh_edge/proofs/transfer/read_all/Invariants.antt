-- The bytes read are those taken, in at most as many reads, none of which failed, and at most one byte is too many.
use Rattle.std.proofs.Common.{length, ◌+◌, ◌-◌, ◌≤◌}
use Rattle.mesh_edge.specs.Source.{NoReadFault, Takes}
use Rattle.mesh_edge.proofs.transfer.read_all.Given as goal

abbrev pub invariant-loop-chunk : goal.invariant-loop-chunk
invariant-loop-chunk g l = let old = g.S.Source.known l.fn.src in let new = g.S.Source.known l.src in record {
  short : length l.bytes.items ≤ l.limit + 1;
  faultless : NoReadFault old new;
  taken : Takes old new l.bytes.items;
  turns : new.reads ≤ old.reads + length l.bytes.items;
}

abbrev pub decreases-loop-chunk : goal.decreases-loop-chunk
decreases-loop-chunk g l = l.limit + 1 - length l.bytes.items
