use Rattle.std.proofs.Common.{◌≡◌, drop}
use Rattle.std.specs.List.{list_all, list_any}
use Rattle.mesh_tree.specs.Judge.{tree_holds}
use Rattle.mesh_tree.proofs.+judge.Given as goal

abbrev pub invariant-judge::all_hold-loop-part : goal.invariant-judge::all_hold-loop-part
invariant-judge::all_hold-loop-part g l =
    list_all (tree_holds (λ x. g.L.Leaf.holds x l.scene l.state)) l.parts
    ≡ list_all (tree_holds (λ x. g.L.Leaf.holds x l.scene l.state)) (drop l.part-index l.parts)

abbrev pub invariant-judge::one_holds-loop-part : goal.invariant-judge::one_holds-loop-part
invariant-judge::one_holds-loop-part g l =
    list_any (tree_holds (λ x. g.L.Leaf.holds x l.scene l.state)) l.parts
    ≡ list_any (tree_holds (λ x. g.L.Leaf.holds x l.scene l.state)) (drop l.part-index l.parts)
