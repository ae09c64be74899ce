-- The first `at` bytes are taken, in at most as many writes and without a flush, and none of the writes failed.
use Rattle.std.proofs.Common.{length, take, ◌-◌, ◌≤◌}
use Rattle.mesh_edge.specs.Sink.{Adds, KeepsFlushed, NoWriteFault, WritesAtMost}
use Rattle.mesh_edge.proofs.transfer.write_all.Given as goal

abbrev pub invariant-loop-at : goal.invariant-loop-at
invariant-loop-at g l = let old = g.S.Sink.known l.fn.sink in let new = g.S.Sink.known l.sink in record {
  within : l.at ≤ length l.bytes;
  faultless : NoWriteFault old new;
  taken : Adds old new (take l.at l.bytes);
  flushed : KeepsFlushed old new;
  turns : WritesAtMost old new l.at;
}

abbrev pub decreases-loop-at : goal.decreases-loop-at
decreases-loop-at g l = length l.bytes - l.at
