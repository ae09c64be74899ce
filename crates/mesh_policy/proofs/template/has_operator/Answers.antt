use Rattle.std.proofs.Common.{rules, lit<}
use Rattle.std.proofs.lemmas.Iterator.Search.{any_from_yields_List}
use Rattle.std.proofs.lemmas.Iterator.Splits.{YieldsList-from_str_split}
use Rattle.mesh_policy.specs.Template.{is_operator}
use Rattle.mesh_policy.proofs.template.has_operator.Goals as goal

pub returns : goal.returns
returns c =
    any_from_yields_List (is_operator c.args.one.now c.args.any.now) _ _ c.any.result c.any.ensures.ran
    (YieldsList-from_str_split 47 c.args.s.now (lit< tt) c.split.ensures.text c.split.ensures.has_more c.split.ensures.pattern)
    (search rules)
