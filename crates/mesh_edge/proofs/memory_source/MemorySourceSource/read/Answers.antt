-- A read gives the next bytes, and none only where none is left.
use Rattle.std.proofs.Common.{◌≤◌, ◌+◌, ◌-◌, length, sym, ap, ◌∙◌, arith}
use Rattle.std.proofs.lemmas.Grind.{common_steps}
use Rattle.std.proofs.lemmas.List.{drop_all}
use Rattle.mesh_edge.specs.MemorySource.{MemorySourceState}
use Rattle.mesh_edge.proofs.Steps.{read_next}
use Rattle.mesh_edge.proofs.memory_source.MemorySourceSource.read.Goals as goal

pub returns-clause-bytes : goal.returns-clause-bytes
returns-clause-bytes c =
    let xs = c.self.inside.bytes.items in
    let n = c.min-count.result in
    let fits : n ≤ length xs - c.self.inside.at = grind (arith, common_steps) in
    let filled = rw c.deref-2.ensures.value at c.copy_front.ensures in (
      sym (ap (λ (s : MemorySourceState). s.left) c.self.view_is) ∙ read_next xs _ _ c.self.inside.at n fits filled,
      λ z _. let all : length xs ≤ c.self.inside.at + n = grind (arith, common_steps) in drop_all _ _ all,
    )
