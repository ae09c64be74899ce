use Rattle.std.proofs.Common.{◌∙◌, ap, sym}
use Rattle.envoy_types.specs.Run.{RunState, Step, name_of}
use Rattle.envoy_eval.specs.Runs.{after, begin}
use Rattle.envoy_eval.proofs.Runs.{after-one}
use Rattle.envoy_eval.proofs.names.name_before.Goals as goal
use Rattle.std.proofs.Common.{take}

pub loop-filter-preserved : goal.loop-filter-preserved
loop-filter-preserved g c =
    let run = g.F.Filter.run c.args.case.now in
    let start = begin c.args.case.now c.args.start in
    let before = after run (take c.loop-filter.filter-index c.args.filters.now) start in
    let one = after-one run c.args.filters.now c.loop-filter.filter-index c.filter-item.result start
    c.loop-filter-test.true c.filter-item.is in
    record {
      seen = ap (λ (s : RunState). s.seen) one
          ∙ ap (λ (step : Step). step.state.seen) (c.part-in-loop-filter.ensures.runs c.args.case.now before)
          ∙ sym (c.state_behind-state.ensures before c.loop-filter.invariant.seen);
      name = c.name_behind-name.ensures before c.loop-filter.invariant.seen c.loop-filter.invariant.name
          ∙ ap (λ (step : Step). name_of c.args.key.now step.state.names) (sym (c.part.ensures.runs c.args.case.now before))
          ∙ ap (λ (s : RunState). name_of c.args.key.now s.names) (sym one);
    }
