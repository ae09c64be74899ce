use Rattle.std.proofs.Common.{◌≡◌, drop}
use Rattle.mesh_text.specs.Parts.{is_part}
use Rattle.mesh_text.proofs.parts.stands_in.Given as goal

abbrev pub invariant-loop-start : goal.invariant-loop-start
invariant-loop-start l = is_part l.part l.whole ≡ is_part l.part (drop l.start l.whole)
