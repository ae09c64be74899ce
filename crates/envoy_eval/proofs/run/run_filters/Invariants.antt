-- The filters that are left decide what all do, from what those that are passed leave, and the name at the key is theirs.
use Rattle.std.proofs.Common.{◌≡◌, take, drop}
use Rattle.std.specs.Option.{option_copied}
use Rattle.envoy_types.specs.Run as meaning
use Rattle.envoy_types.specs.Run.{name_of}
use Rattle.envoy_eval.specs.Hits.{first_hits}
use Rattle.envoy_eval.specs.Runs.{after, begin, run_hits}
use Rattle.envoy_eval.specs.Steps.{Stands}
use Rattle.envoy_eval.proofs.run.run_filters.Given as goal

abbrev pub invariant-loop-at : goal.invariant-loop-at
invariant-loop-at g l = record {
  stands : Stands l.case l.now (after (g.F.Filter.run l.case) (take l.at l.filters) (begin l.case l.start));
  told : option_copied l.told.name
      ≡ name_of l.told.key.now (after (g.F.Filter.run l.case) (take l.at l.filters) (begin l.case l.start)).names;
  decides : meaning.run_filters (g.F.Filter.run l.case) l.filters (begin l.case l.start)
      ≡ meaning.run_filters (g.F.Filter.run l.case) (drop l.at l.filters)
      (after (g.F.Filter.run l.case) (take l.at l.filters) (begin l.case l.start));
  tells : run_hits (g.F.Filter.run l.case) (λ at filter seen. g.F.Filter.hits at l.case filter seen) 0 l.filters (begin l.case l.start)
      ≡ first_hits l.hits (run_hits (g.F.Filter.run l.case) (λ at filter seen. g.F.Filter.hits at l.case filter seen) l.at
      (drop l.at l.filters) (after (g.F.Filter.run l.case) (take l.at l.filters) (begin l.case l.start)));
}
