use Rattle.std.proofs.Common.{◌∙◌}
use Rattle.mesh_select.proofs.Lookups.{text-found}
use Rattle.mesh_select.proofs.texts.has.Goals as goal

pub returns : goal.returns
returns c = c.contains.ensures ∙ text-found c.args.text.now c.args.set.now.keys
