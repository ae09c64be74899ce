use Rattle.std.proofs.Common.{◌∙◌, ap, take}
use Rattle.envoy_types.specs.Run.{RunState, Step, name_of}
use Rattle.envoy_eval.specs.Runs.{after, begin}
use Rattle.envoy_eval.proofs.Runs.{after-one}
use Rattle.envoy_eval.proofs.names.one_tells.Goals as goal

pub loop-filter-preserved : goal.loop-filter-preserved
loop-filter-preserved g c = record {
  silent = λ case start.
      let run = g.F.Filter.run case in
      let before = after run (take c.loop-filter.filter-index c.args.filters.now) (begin case start) in
      ap (λ (s : RunState). name_of c.args.key.now s.names) (after-one run c.args.filters.now c.loop-filter.filter-index
      c.filter-item.result (begin case start) c.loop-filter-test.true c.filter-item.is)
      ∙ ap (λ (step : Step). name_of c.args.key.now step.state.names) (c.part.ensures.runs case before)
      ∙ c.may_tell.ensures case before c.if-may_tell.false
      ∙ c.loop-filter.invariant.silent case start;
}
