use Rattle.std.proofs.Common.{rules, lit<}
use Rattle.std.proofs.lemmas.Iterator.Search.{find_from_yields_List}
use Rattle.std.proofs.lemmas.Iterator.Splits.{YieldsList-from_str_split}
use Rattle.mesh_policy.proofs.TokenLemmas.{no_piece, one_piece}
use Rattle.mesh_policy.specs.Token.{is_named}
use Rattle.mesh_policy.proofs.token.parameter.Goals as goal

pub returns-in-None : goal.returns-in-None
returns-in-None c =
    no_piece _ _
    (find_from_yields_List (is_named c.args.name.now) _ _ c.find.result c.find.ensures.ran
    (YieldsList-from_str_split 38 c.args.query.now (lit< tt) c.split.ensures.text c.split.ensures.has_more c.split.ensures.pattern)
    (search rules))
    c.in-None.is

pub returns-in-Some : goal.returns-in-Some
returns-in-Some c =
    one_piece _ _ _ _
    (find_from_yields_List (is_named c.args.name.now) _ _ c.find.result c.find.ensures.ran
    (YieldsList-from_str_split 38 c.args.query.now (lit< tt) c.split.ensures.text c.split.ensures.has_more c.split.ensures.pattern)
    (search rules))
    c.in-Some.is c.value_in.ensures
