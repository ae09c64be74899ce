use Rattle.std.proofs.Common.{◌≡◌, drop}
use Rattle.std.specs.Str.{str_to_ascii_lowercase}
use Rattle.mesh_text.specs.Parts.{is_part}
use Rattle.mesh_text.proofs.folded.stands_in.Given as goal

abbrev pub invariant-loop-start : goal.invariant-loop-start
invariant-loop-start l =
    is_part (str_to_ascii_lowercase l.part) (str_to_ascii_lowercase l.whole)
    ≡ is_part (str_to_ascii_lowercase l.part) (str_to_ascii_lowercase (drop l.start l.whole))
