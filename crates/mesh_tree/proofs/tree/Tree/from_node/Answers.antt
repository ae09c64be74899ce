use Rattle.mesh_tree.proofs.FullLemmas.{full-tree_of}
use Rattle.mesh_tree.proofs.tree.Tree.from_node.Goals as goal

pub returns-clause-full : goal.returns-clause-full
returns-clause-full g c = full-tree_of c.args.node c.requires
