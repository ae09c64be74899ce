use Rattle.std.proofs.Common.{arith}
use Rattle.std.specs.Ordering.{nat_cmp}
use Rattle.mesh_policy.specs.declared.peer.PortMode.{PortMode}
use Rattle.mesh_select.proofs.Lookups.{inserted_more}
use Rattle.mesh_select.proofs.ports.add_ports.Goals as goal

pub loop-entry-preserved : goal.loop-entry-preserved
loop-entry-preserved c =
    inserted_more nat_cmp (λ (entry : PortMode). entry.port) c.as_slice-entry-items.result.now c.loop-entry.entry-index _
    c.loop-entry.numbers.keys c.insert.new.self.keys _ (omega arith) c.in_ok-insert.ensures.keys c.loop-entry.invariant
