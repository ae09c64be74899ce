-- A sink in memory, whose writes fail by their number and where it is full.
use Rattle.std.specs.Prelude.{ℕ, ◌-◌, ◌==◌, ◌||◌, Bool, List, ◌++◌, length, take, min, Some, Result, Ok, Err, if◌then◌else◌}
use Rattle.std.specs.List.{list_any}
use Rattle.mesh_edge.specs.Faults.{next_count}
use Rattle.mesh_edge.specs.Sink.{KnownSink}
use Rattle.mesh_edge.specs.declared.error.Failed.{Failed}

pub record MemorySinkState : Type 0 where
  pub taken : List ℕ
  -- how many of the bytes taken are flushed
  pub flushed : ℕ
  -- how many bytes it takes in all
  pub room : ℕ
  -- the numbers of the writes that fail
  pub fails : List ℕ
  -- how many bytes a write takes at most
  pub most : ℕ
  pub flush_fails : Bool
  -- the number of the next write
  pub number : ℕ
  -- how many flushes there were
  pub flushes : ℕ
  pub faults : ℕ

abbrev pub known_sink : MemorySinkState → KnownSink
known_sink s = record { taken = Some s.taken; flushed = Some s.flushed; faults = s.faults; writes = s.number; flushes = s.flushes }

abbrev pub room_left : MemorySinkState → ℕ
room_left s = s.room - length s.taken

abbrev pub write_fails : MemorySinkState → Bool
write_fails s = room_left s == 0 || list_any (λ k. k == s.number) s.fails

-- how many bytes of a piece a write takes, where it doesn't fail
abbrev pub write_count : MemorySinkState → List ℕ → ℕ
write_count s piece = min (min s.most (length piece)) (room_left s)

abbrev pub write_answer : MemorySinkState → List ℕ → Result ℕ Failed
write_answer s piece = if write_fails s then Err (record {}) else Ok (write_count s piece)

abbrev pub after_write : MemorySinkState → List ℕ → MemorySinkState
after_write s piece =
    if write_fails s
    then record s { number = next_count s.number; faults = next_count s.faults }
    else record s { number = next_count s.number; taken = s.taken ++ take (write_count s piece) piece }

abbrev pub flush_answer : MemorySinkState → Result (Unit {0}) Failed
flush_answer s = if s.flush_fails then Err (record {}) else Ok tt

abbrev pub after_flush : MemorySinkState → MemorySinkState
after_flush s =
    if s.flush_fails
    then record s { flushes = next_count s.flushes; faults = next_count s.faults }
    else record s { flushes = next_count s.flushes; flushed = length s.taken }
