use Rattle.std.proofs.Common.{arith, rules, lit<}
use Rattle.std.proofs.lemmas.Iterator.Search.{all_from_yields_List}
use Rattle.std.proofs.lemmas.Iterator.Splits.{YieldsList-from_str_split}
use Rattle.mesh_text.specs.Dns.{is_piece}
use Rattle.mesh_text.proofs.dns.is_dns_subdomain.Goals as goal

pub returns-then-s-le253 : goal.returns-then-s-le253
returns-then-s-le253 c =
    let pieces = all_from_yields_List is_piece _ _ c.all.result c.all.ensures.ran
    (YieldsList-from_str_split 46 c.args.s.now (lit< tt) c.split.ensures.text c.split.ensures.has_more c.split.ensures.pattern)
    (search rules) in
    grind (arith, pieces)
