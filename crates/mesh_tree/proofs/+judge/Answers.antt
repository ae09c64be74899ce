use Rattle.mesh_tree.proofs.JudgeLemmas.{holds_And, holds_Or}
use Rattle.mesh_tree.proofs.+judge.Goals as goal

pub tree::Tree::judge-returns-in-And : goal.tree::Tree::judge-returns-in-And
tree::Tree::judge-returns-in-And g t c =
    holds_And (λ l. g.L.Leaf.holds l c.args.scene.now c.args.state.now) c.args.self.now c.in-And.parts c.deref.result.now
    c.all_hold.result c.in-And.is c.deref.ensures c.all_hold.ensures

pub tree::Tree::judge-returns-in-Or : goal.tree::Tree::judge-returns-in-Or
tree::Tree::judge-returns-in-Or g t c =
    holds_Or (λ l. g.L.Leaf.holds l c.args.scene.now c.args.state.now) c.args.self.now c.in-Or.parts c.deref-in-Or.result.now
    c.one_holds.result c.in-Or.is c.deref-in-Or.ensures c.one_holds.ensures
