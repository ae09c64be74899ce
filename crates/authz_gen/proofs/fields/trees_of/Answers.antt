-- Each value is accepted.
use Rattle.authz_gen.proofs.Items.{item-is}
use Rattle.authz_gen.proofs.fields.trees_of.Goals as goal

pub make-requires : goal.make-requires
make-requires g c =
    item-is (g.F.Field.accepted c.args.field.now) _ c.loop-value.value-index c.value-item.result c.requires c.loop-value-test.true
    c.value-item.is
