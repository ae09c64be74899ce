-- The tree of the matcher is that of the definition, which holds where the form matches.
use Rattle.str_match.proofs.ServerNameHolds.{made-holds, made-is}
use Rattle.str_match.proofs.server_name.sni_tree.Goals as goal

pub returns-in_ok-of-in_default : goal.returns-in_ok-of-in_default
returns-in_ok-of-in_default c =
    let shape = made-is c.args.p.now c.in_ok-of-in_default.field-0 c.leaf.result c.in_ok-of-in_default.ensures.value c.leaf.ensures.shape in
    record { shape = shape; means = made-holds c.args.p.now c.leaf.result c.requires shape }
