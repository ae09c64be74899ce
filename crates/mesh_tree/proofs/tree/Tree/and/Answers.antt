use Rattle.mesh_tree.proofs.FullLemmas.{and_full}
use Rattle.mesh_tree.proofs.JudgeLemmas.{and_meaning}
use Rattle.mesh_tree.proofs.tree.Tree.and.Goals as goal

pub returns-clause-meaning : goal.returns-clause-meaning
returns-clause-meaning g c = and_meaning c.args.parts c.requires c.and_tree.result c.and_tree.ensures

pub returns-clause-full : goal.returns-clause-full
returns-clause-full g c = and_full c.args.parts c.requires c.and_tree.result c.and_tree.ensures
