use Rattle.std.proofs.Common.{rules}
use Rattle.std.proofs.lemmas.Bool.Decides.{Decides-at}
use Rattle.mesh_text.proofs.PartsLemmas.{ends_with-is_suffix, is_suffix-Decides}
use Rattle.mesh_text.proofs.parts.is_suffix.Goals as goal

pub returns-clause-value : goal.returns-clause-value
returns-clause-value c = rw (← ends_with-is_suffix c.args.end.now c.args.whole.now) (search rules)

pub returns-clause-means : goal.returns-clause-means
returns-clause-means c =
    Decides-at _ _ (rw (← ends_with-is_suffix c.args.end.now c.args.whole.now) (search rules)) (is_suffix-Decides _ _)
