use Rattle.std.proofs.Common.{sym, ◌∙◌, rules}
use Rattle.mesh_policy.proofs.TemplateLemmas.{last_at_end, last_goes_on, last_stops}
use Rattle.mesh_policy.proofs.template.any_is_last.Goals as goal

pub returns-then-eq : goal.returns-then-eq
returns-then-eq c =
    sym (c.segments.invariant.value
    ∙ last_stops c.args.one.now c.args.any.now c.segments.rest.now (c.in-Some.segment, c.in-Some.more)
    c.has_operator.result c.in-Some.ensures.cases c.if-eq.ensures c.has_operator.ensures)

pub segments-preserved : goal.segments-preserved
segments-preserved c = record {
  is_text = search rules;
  value = c.segments.invariant.value
      ∙ last_goes_on c.args.one.now c.args.any.now c.segments.rest.now (c.in-Some.segment, c.in-Some.more)
      c.in-Some.ensures.cases c.if-eq.ensures;
}

pub returns : goal.returns
returns c = last_at_end c.args.one.now c.args.any.now c.segments.rest.now c.in_default.ensures.cases ∙ sym c.segments.invariant.value
