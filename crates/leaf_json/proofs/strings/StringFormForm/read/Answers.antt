-- Nothing is at fault, and the matcher is that of the texts.
use Rattle.std.proofs.Common.{arith}
use Rattle.std.proofs.lemmas.Grind.{common_steps}
use Rattle.serde_json.specs.View.{view}
use Rattle.envoy_types.specs.StringForms.{string_faults}
use Rattle.leaf_json.proofs.StringLemmas.{matcher_of_texts}
use Rattle.leaf_json.proofs.strings.StringFormForm.read.Goals as goal

pub returns : goal.returns
unfolding string_faults
returns c = (
  grind (arith, common_steps),
  rw (
    c.alternative.ensures,
    c.in_ok-contains.ensures.1,
    c.in_ok-exact.ensures.1,
    c.in_ok-prefix.ensures.1,
    c.unwrap_or.ensures,
    c.in_ok-suffix.ensures.1,
    c.from_string-no_text.ensures,
    c.new.ensures.bytes,
    c.unwrap_or-ignore_case.ensures,
    c.in_ok-ignore_case.ensures.1,
  )
      (matcher_of_texts (view c.args.v.now)),
)
