use Rattle.std.proofs.Common.{rules, lit<}
use Rattle.std.proofs.lemmas.Iterator.Search.{all_from_yields_List}
use Rattle.std.proofs.lemmas.Iterator.Splits.{YieldsList-from_str_split}
use Rattle.mesh_policy.specs.Template.{is_segment}
use Rattle.mesh_policy.proofs.template.all_segments.Goals as goal

pub returns : goal.returns
returns c =
    all_from_yields_List (is_segment c.args.one.now c.args.any.now) _ _ c.all.result c.all.ensures.ran
    (YieldsList-from_str_split 47 c.args.s.now (lit< tt) c.split.ensures.text c.split.ensures.has_more c.split.ensures.pattern)
    (search rules)
