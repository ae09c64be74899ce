-- What the notes take.
use Rattle.std.specs.Prelude.{ℕ, List, codes}
use Rattle.mesh_edge.specs.Sink.{KnownSink, Adds, AddsFront, WriteFaulted}

-- the whole line, where their count of faults didn't rise, and else a front of it
pub record Notes (old new : KnownSink) (line : List ℕ) : Type 0 where
  pub whole : ¬ WriteFaulted old new → Adds old new line
  pub front : AddsFront old new line

abbrev pub usage_line : List ℕ
usage_line = codes "usage: mesh translate|decide|explain|size NS/POD, mesh eval|check, mesh sample N\n"

abbrev pub read_fault_line : List ℕ
read_fault_line = codes "read fault\n"

abbrev pub write_fault_line : List ℕ
write_fault_line = codes "write fault\n"

abbrev pub memory_line : List ℕ
memory_line = codes "out of memory\n"
