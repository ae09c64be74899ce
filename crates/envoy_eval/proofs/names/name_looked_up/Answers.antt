-- The last filter of those that are left tells the name, or leaves what those before it have told.
use Rattle.std.proofs.Common.{◌∙◌, arith, sym}
use Rattle.envoy_eval.specs.Runs.{begin}
use Rattle.envoy_eval.proofs.Runs.{looked-back}
use Rattle.envoy_eval.proofs.names.name_looked_up.Goals as goal

pub returns-in-Some : goal.returns-in-Some
returns-in-Some g c =
    let back = looked-back (g.F.Filter.run c.args.case.now) c.args.filters.now c.loop-left.left (begin c.args.case.now c.args.start)
    c.loop-left.invariant.within c.loop-left-test.true c.index-filters-at.result c.index-filters-at-in-loop-left.result
    c.index-filters-at.is c.index-filters-at-in-loop-left.is _ _ (c.part.ensures.runs c.args.case.now)
    (c.part-in-loop-left.ensures.runs c.args.case.now)
    (λ before. c.is_token_filter.ensures c.args.case.now before c.if-is_token_filter.false)
    c.args.key.now _ _ c.loop-left.invariant.seen c.loop-left.invariant.name in
    sym (back.1 ∙ c.in-Some.ensures _ (sym back.0))

pub loop-left-preserved : goal.loop-left-preserved
loop-left-preserved g c =
    let back = looked-back (g.F.Filter.run c.args.case.now) c.args.filters.now c.loop-left.left (begin c.args.case.now c.args.start)
    c.loop-left.invariant.within c.loop-left-test.true c.index-filters-at.result c.index-filters-at-in-loop-left.result
    c.index-filters-at.is c.index-filters-at-in-loop-left.is _ _ (c.part.ensures.runs c.args.case.now)
    (c.part-in-loop-left.ensures.runs c.args.case.now)
    (λ before. c.is_token_filter.ensures c.args.case.now before c.if-is_token_filter.false)
    c.args.key.now _ _ c.loop-left.invariant.seen c.loop-left.invariant.name in
    record { within = omega arith; seen = back.0; name = back.1 ∙ c.in_default.ensures _ (sym back.0) }
