-- The entries that are left have the first fault, and stand behind those that were read.
use Rattle.std.proofs.Common.{◌≡◌, ◌++◌, drop}
use Rattle.serde_json.specs.View.{items_view}
use Rattle.mesh_doc.specs.Faults.{first}
use Rattle.mesh_doc.specs.Lists.{each_in}
use Rattle.mesh_doc.specs.Turns.{each_in_turn}
use Rattle.listener_reader.proofs.lists.each_with.Given as goal

abbrev pub invariant-loop-i : goal.invariant-loop-i
invariant-loop-i g l = record {
  faults :
      first (each_in_turn {S = Unit {0}} (λ _. g.F.FormWith.faults l.given) (λ seen _. seen) tt 0 (items_view l.items) l.at)
      ≡ first (each_in_turn {S = Unit {0}} (λ _. g.F.FormWith.faults l.given) (λ seen _. seen) tt l.i (items_view (drop l.i l.items)) l.at);
  value :
      each_in g.F.FormWith.value (items_view l.items)
      ≡ l.all ++ each_in g.F.FormWith.value (items_view (drop l.i l.items));
}
