use Rattle.std.proofs.Common.{None, lit<}
use Rattle.std.proofs.lemmas.Str.Pattern.{strip_prefix_char}
use Rattle.mesh_policy.proofs.PatternLemmas.{no_star_in_front, pattern_unstarred}
use Rattle.mesh_policy.proofs.pattern.Pattern.parse.Goals as goal

pub parse_unstarred-requires-clause-unstarred : goal.parse_unstarred-requires-clause-unstarred
parse_unstarred-requires-clause-unstarred c =
    no_star_in_front c.args.s.now (strip_prefix_char 42 c.args.s.now None c.in-None.ensures.cases (lit< tt))

pub returns-in-None-clause-value : goal.returns-in-None-clause-value
returns-in-None-clause-value c =
    let unstarred = no_star_in_front c.args.s.now (strip_prefix_char 42 c.args.s.now None c.in-None.ensures.cases (lit< tt)) in
    let same = pattern_unstarred c.args.s.now unstarred in
    rw (← same) c.parse_unstarred.ensures.value
