-- The filters that are passed tell nothing at the key.
use Rattle.std.proofs.Common.{◌≡◌, None, take}
use Rattle.mesh_policy.specs.declared.case.Case.{Case}
use Rattle.envoy_types.specs.Run.{name_of}
use Rattle.envoy_types.specs.declared.state.State.{State}
use Rattle.envoy_eval.specs.Runs.{after, begin}
use Rattle.envoy_eval.proofs.names.one_tells.Given as goal

abbrev pub invariant-loop-filter : goal.invariant-loop-filter
invariant-loop-filter g l = record {
  silent : (case : Case) (start : State)
      → name_of l.key (after (g.F.Filter.run case) (take l.filter-index l.filters) (begin case start)).names ≡ None;
}
