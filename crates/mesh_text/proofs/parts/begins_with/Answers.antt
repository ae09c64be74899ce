use Rattle.std.proofs.Common.{◌∙◌}
use Rattle.mesh_text.proofs.PartsLemmas.{starts_with-is_prefix}
use Rattle.mesh_text.proofs.parts.begins_with.Goals as goal

pub returns : goal.returns
returns c = c.starts_with.ensures.value ∙ starts_with-is_prefix c.args.front.now c.args.whole.now
