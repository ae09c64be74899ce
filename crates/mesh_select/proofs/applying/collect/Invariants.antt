use Rattle.std.proofs.Common.{◌≡◌, ◌≤◌, drop, filter, length}
use Rattle.mesh_policy.specs.Applying.{applies}
use Rattle.mesh_select.specs.Applying.{pair_order, placed}
use Rattle.mesh_select.proofs.applying.collect.Given as goal

abbrev pub invariant-loop-at : goal.invariant-loop-at
invariant-loop-at g l = record {
  within : l.at ≤ length l.policies;
  keys : l.found.keys ≡ placed (pair_order g.P.Paired.pair)
      (filter (λ p. applies l.root l.pod (g.P.Paired.pair p).0 (g.P.Policy.selector p)) (drop l.at l.policies));
}

abbrev pub decreases-loop-at : goal.decreases-loop-at
decreases-loop-at g l = l.at
