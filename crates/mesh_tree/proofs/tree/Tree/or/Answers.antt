use Rattle.mesh_tree.proofs.FullLemmas.{or_full}
use Rattle.mesh_tree.proofs.JudgeLemmas.{or_meaning}
use Rattle.mesh_tree.proofs.tree.Tree.or.Goals as goal

pub returns-clause-meaning : goal.returns-clause-meaning
returns-clause-meaning g c = or_meaning c.args.parts c.requires c.or_tree.result c.or_tree.ensures

pub returns-clause-full : goal.returns-clause-full
returns-clause-full g c = or_full c.args.parts c.requires c.or_tree.result c.or_tree.ensures
