use Rattle.std.proofs.Common.{rules}
use Rattle.std.proofs.lemmas.Bool.Decides.{Decides-at}
use Rattle.mesh_text.proofs.PartsLemmas.{is_part-Decides}
use Rattle.mesh_text.proofs.parts.contains.Goals as goal

pub returns-clause-means : goal.returns-clause-means
returns-clause-means c = Decides-at _ _ (search rules) (is_part-Decides _ _)
