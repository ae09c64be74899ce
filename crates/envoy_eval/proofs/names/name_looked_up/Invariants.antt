-- What is seen, and the name at the key, are those behind the filters that are left.
use Rattle.std.proofs.Common.{◌≡◌, ◌≤◌, length, take}
use Rattle.envoy_types.specs.Run.{name_of}
use Rattle.envoy_types.specs.State.{seen_of}
use Rattle.envoy_eval.specs.Runs.{after, begin}
use Rattle.envoy_eval.proofs.names.name_looked_up.Given as goal

abbrev pub invariant-loop-left : goal.invariant-loop-left
invariant-loop-left g l = record {
  within : l.left ≤ length l.filters;
  seen : seen_of l.case l.now ≡ (after (g.F.Filter.run l.case) (take l.left l.filters) (begin l.case l.start)).seen;
  name : name_of l.key (after (g.F.Filter.run l.case) l.filters (begin l.case l.start)).names
      ≡ name_of l.key (after (g.F.Filter.run l.case) (take l.left l.filters) (begin l.case l.start)).names;
}

abbrev pub decreases-loop-left : goal.decreases-loop-left
decreases-loop-left g l = l.left
