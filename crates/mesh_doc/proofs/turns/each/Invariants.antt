use Rattle.std.proofs.Common.{◌≡◌, ◌++◌, drop}
use Rattle.serde_json.specs.View.{items_view}
use Rattle.mesh_doc.specs.Faults.{first}
use Rattle.mesh_doc.specs.Lists.{each_in}
use Rattle.mesh_doc.specs.Turns.{each_in_turn}
use Rattle.mesh_doc.proofs.turns.each.Given as goal

abbrev pub invariant-loop-i : goal.invariant-loop-i
invariant-loop-i g l = record {
  faults :
      first (each_in_turn g.F.InTurn.faults g.F.InTurn.after l.fn.seen 0 (items_view l.items) l.at)
      ≡ first (each_in_turn g.F.InTurn.faults g.F.InTurn.after l.seen l.i (items_view (drop l.i l.items)) l.at);
  value :
      each_in g.F.InTurn.value (items_view l.items)
      ≡ l.all ++ each_in g.F.InTurn.value (items_view (drop l.i l.items));
}
