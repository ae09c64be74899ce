use Rattle.std.proofs.Common.{sym, ◌∙◌, ap, rules, Bool, ◌||◌, ◌-◌, List, ℕ, length, take, drop}
use Rattle.std.specs.List.{ends_with}
use lib.Dec.{eqb}
use Rattle.mesh_policy.proofs.TemplateLemmas.{end_is, ends_here, goes_on, stops_apart, stops_at_any, stops_short}
use Rattle.mesh_policy.specs.Template.{stands_for}
use Rattle.mesh_policy.proofs.template.segments_hold.Goals as goal

pub returns-then-eq : goal.returns-then-eq
returns-then-eq c =
    let at = length c.in-Some.segment.now in
    let rest = c.segments.rest.now in
    c.ends_with.ensures.value
    ∙ ap (λ (t : List ℕ). ends_with eqb t (take (length c.as_bytes.result.now - at) (drop at c.as_bytes.result.now)))
    c.as_bytes-then-eq.ensures.value
    ∙ ap (λ (s : List ℕ). ends_with eqb rest (take (length s - at) (drop at s))) c.as_bytes.ensures.value
    ∙ ap (ends_with eqb rest) (end_is c.segments.segments.now (c.in-Some.segment, c.in-Some.more) c.in-Some.ensures.cases)
    ∙ stops_at_any c.segments.segments.now rest (c.in-Some.segment, c.in-Some.more) c.in-Some.ensures.cases (sym c.if-eq.ensures)
    ∙ sym c.segments.invariant.value

pub returns-in_default-split_once : goal.returns-in_default-split_once
returns-in_default-split_once c =
    stops_short c.segments.segments.now c.segments.rest.now (c.in-Some.segment, c.in-Some.more)
    c.in-Some.ensures.cases (sym c.if-eq.ensures) c.in_default-split_once.ensures.cases
    ∙ sym c.segments.invariant.value

pub returns-then-not-stands_for : goal.returns-then-not-stands_for
returns-then-not-stands_for c =
    stops_apart c.segments.segments.now c.segments.rest.now (c.in-Some.segment, c.in-Some.more)
    (c.in-Some-split_once.part, c.in-Some-split_once.after)
    c.in-Some.ensures.cases (sym c.if-eq.ensures) c.in-Some-split_once.ensures.cases (sym c.if-not-stands_for.ensures)
    ∙ sym c.segments.invariant.value

pub segments-preserved : goal.segments-preserved
segments-preserved c = record {
  segments_are_text = search rules;
  rest_is_text = search rules;
  value = c.segments.invariant.value
      ∙ goes_on c.segments.segments.now c.segments.rest.now (c.in-Some.segment, c.in-Some.more)
      (c.in-Some-split_once.part, c.in-Some-split_once.after)
      c.in-Some.ensures.cases (sym c.if-eq.ensures) c.in-Some-split_once.ensures.cases (sym c.if-not-stands_for.ensures);
}

pub returns-else-eq-2 : goal.returns-else-eq-2
returns-else-eq-2 c =
    c.stands_for-else-eq-2.ensures
    ∙ ap (λ (b : Bool). b || stands_for c.segments.segments.now c.segments.rest.now) c.if-eq-2.ensures
    ∙ sym (ends_here c.segments.segments.now c.segments.rest.now c.in_default.ensures.cases) ∙ sym c.segments.invariant.value
