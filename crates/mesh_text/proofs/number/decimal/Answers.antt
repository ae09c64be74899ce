use Rattle.std.proofs.Common.{rules}
use Rattle.mesh_text.proofs.NumberLemmas.{stops}
use Rattle.mesh_text.proofs.number.decimal.Goals as goal

pub returns-then-number-gt65535 : goal.returns-then-number-gt65535
returns-then-number-gt65535 c = search (rules, stops)
