use Rattle.std.proofs.Common.{arith}
use Rattle.mesh_select.proofs.Lookups.{few}
use Rattle.mesh_select.proofs.ports.few.Goals as goal

pub returns : goal.returns
returns c = few c.args.numbers.now c.requires (λ i _. omega (arith, c.type_inv.numbers i))
