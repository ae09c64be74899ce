use Rattle.std.proofs.Common.{None, ap, ◌∙◌, lit<}
use Rattle.std.proofs.lemmas.Str.Pattern.{strip_suffix_char}
use Rattle.mesh_policy.proofs.PatternLemmas.{no_star_at_end}
use Rattle.mesh_policy.specs.declared.pattern.Pattern.TheVariants.{Exact}
use Rattle.mesh_policy.proofs.pattern.parse_unstarred.Goals as goal

pub returns-in_ok-of-in-None-clause-value : goal.returns-in_ok-of-in-None-clause-value
returns-in_ok-of-in-None-clause-value c =
    ap Exact c.in_ok-of-in-None.ensures
    ∙ no_star_at_end c.args.s.now c.requires.written (strip_suffix_char 42 c.args.s.now None c.in-None.ensures.cases (lit< tt))
