use Rattle.std.proofs.Common.{sym, ◌∙◌, ap, rules, List, ℕ, ◌∷◌, ◌++◌, string_bytes}
use Rattle.mesh_policy.proofs.UriLemmas.{pushed, uri_at_cut, uri_at_end}
use Rattle.mesh_policy.specs.Template.{uri_of}
use Rattle.mesh_policy.proofs.template.uri_of.Goals as goal

pub segments-preserved : goal.segments-preserved
segments-preserved c = record {
  is_text = search rules;
  value = pushed _ (string_bytes c.segments.uri) (uri_of c.segments.rest.now) c.uri_segment.result.now
      (uri_of c.in-Some.more.now) (string_bytes c.push_str.new.self) _
      c.segments.invariant.value
      (uri_at_cut c.segments.rest.now (c.in-Some.segment, c.in-Some.more) c.in-Some.ensures.cases
      ∙ ap (λ (z : List ℕ). z ++ 47 ∷ uri_of c.in-Some.more.now) (sym c.uri_segment.ensures))
      c.in_ok-push_str.ensures.bytes c.in_ok-push_str-2.ensures.bytes;
}

pub returns : goal.returns
returns c =
    c.from_string.ensures ∙ c.in_ok-push_str-3.ensures.bytes
    ∙ sym (c.segments.invariant.value
    ∙ ap (λ (z : List ℕ). string_bytes c.segments.uri ++ z) (uri_at_end c.segments.rest.now c.in_default.ensures.cases
    ∙ sym c.uri_segment-2.ensures))
