-- The word is one of those between the spaces.
use Rattle.std.proofs.Common.{bytes_eq, lit<, rules, ◌∙◌, ap}
use Rattle.std.specs.List.{list_any}
use Rattle.std.proofs.lemmas.Iterator.Search.{any_from_yields_List}
use Rattle.std.proofs.lemmas.Iterator.Splits.{YieldsList-from_str_split}
use Rattle.mesh_doc.specs.Known.{is_known, names_of}
use Rattle.leaf_json.proofs.known.is_alternative.Goals as goal

pub returns : goal.returns
unfolding is_known names_of
returns g c =
    let words =
    YieldsList-from_str_split 32 c.known.result.now (lit< tt) c.split.ensures.text c.split.ensures.has_more c.split.ensures.pattern in
    any_from_yields_List (λ word. bytes_eq word c.args.name.now) _ _ c.any.result c.any.ensures.ran words (search rules)
    ∙ ap (list_any (λ word. bytes_eq word c.args.name.now)) c.known.ensures
