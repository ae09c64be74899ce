use Rattle.std.proofs.Common.{None, arith, lit<}
use Rattle.std.proofs.lemmas.Str.Pattern.{split_parts}
use Rattle.mesh_policy.proofs.TokenLemmas.{lacks_byte}
use Rattle.mesh_policy.proofs.token.is_named.Goals as goal

pub returns-in-None : goal.returns-in-None
returns-in-None c =
    let none = lacks_byte 61 c.args.piece.now (split_parts 61 c.args.piece.now None c.in-None.ensures.cases (lit< tt)) in
    grind (arith, none)
