use Rattle.std.proofs.Common.{◌≡◌, ◌==◌, drop, find}
use Rattle.mesh_select.proofs.modes.written_mode.Given as goal

abbrev pub invariant-loop-entry : goal.invariant-loop-entry
invariant-loop-entry l =
    find (λ entry. entry.port == l.port) (drop l.entry-index l.policy.ports) ≡ find (λ entry. entry.port == l.port) l.policy.ports
