use Rattle.std.proofs.Common.{◌∙◌, ap, sym}
use Rattle.envoy_types.specs.Run.{RunState, name_of}
use Rattle.envoy_eval.specs.Runs.{begin}
use Rattle.envoy_eval.proofs.Runs.{after-one, loop-on}
use Rattle.envoy_eval.proofs.run.run_filters.Goals as goal

pub loop-at-preserved : goal.loop-at-preserved
loop-at-preserved g c =
    let run = g.F.Filter.run c.args.case.now in
    let start = begin c.args.case.now c.args.start in
    let more = loop-on (g.F.Filter.run c.args.case.now) (λ at filter seen. g.F.Filter.hits at c.args.case.now filter seen)
    c.args.filters.now c.loop-at.at c.index-filters-at.result (begin c.args.case.now c.args.start) c.loop-at-test.true
    c.index-filters-at.is c.args.case.now c.loop-at.now c.run_filter-turn.result.ran c.loop-at.hits c.first_hits-hits.result
    c.loop-at.invariant.stands c.loop-at.invariant.decides c.loop-at.invariant.tells c.run_filter-turn.ensures.step
    c.run_filter-turn.ensures.hits c.first_hits-hits.ensures (sym c.is_going.ensures ∙ c.if-not-is_going.false) in
    record {
      stands = more.0;
      told = c.run_filter-turn.ensures.told
          ∙ ap (λ (s : RunState). name_of c.run_filter-turn.result.told.key.now s.names)
          (sym (after-one run c.args.filters.now c.loop-at.at c.index-filters-at.result start c.loop-at-test.true c.index-filters-at.is));
      decides = more.1;
      tells = more.2;
    }
