use Rattle.std.proofs.Common.{◌∙◌, arith}
use Rattle.std.proofs.lemmas.Map.Text.{btree_map_updates_str}
use Rattle.mesh_select.proofs.Steps.{named-before}
use Rattle.mesh_select.proofs.labels.by_name.Goals as goal

pub loop-at-preserved : goal.loop-at-preserved
loop-at-preserved c = record {
  within = omega arith;
  has = λ name.
      btree_map_updates_str c.as_str.result.now c.loop-at.map c.insert.new.self _ c.in_ok-insert.ensures.updates name
      ∙ named-before name c.args.ports.now c.loop-at.at c.index-ports-at.result c.as_str.result.now _
      (omega arith) (omega arith) c.index-ports-at.is c.as_str.ensures (c.loop-at.invariant.has name);
}
