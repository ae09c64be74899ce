use Rattle.std.proofs.Common.{rules, lit<}
use Rattle.std.proofs.lemmas.Iterator.Search.{all_from_yields_List}
use Rattle.std.proofs.lemmas.Iterator.Splits.{YieldsList-from_str_split}
use Rattle.policy_json.specs.ConditionKeys.{is_closed}
use Rattle.policy_json.proofs.condition_keys.all_closed.Goals as goal

pub returns : goal.returns
returns c =
    all_from_yields_List is_closed _ _ c.all.result c.all.ensures.ran
    (YieldsList-from_str_split 91 c.args.text.now (lit< tt) c.split.ensures.text c.split.ensures.has_more c.split.ensures.pattern)
    (search rules)
