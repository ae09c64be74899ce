use Rattle.std.proofs.Common.{rules}
use Rattle.std.proofs.lemmas.Bool.Decides.{Decides-at}
use Rattle.mesh_text.proofs.PartsLemmas.{is_prefix-Decides}
use Rattle.mesh_text.proofs.parts.is_prefix.Goals as goal

pub returns-clause-means : goal.returns-clause-means
returns-clause-means c = Decides-at _ _ (search rules) (is_prefix-Decides _ _)
