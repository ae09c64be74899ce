-- A source in memory, whose reads fail by their number.
use Rattle.std.specs.Prelude.{ℕ, ◌==◌, Bool, List, length, drop, min, Some, Result, Ok, Err, if◌then◌else◌}
use Rattle.std.specs.List.{list_any}
use Rattle.mesh_edge.specs.Faults.{next_count}
use Rattle.mesh_edge.specs.Source.{KnownSource}
use Rattle.mesh_edge.specs.declared.error.Failed.{Failed}

pub record MemorySourceState : Type 0 where
  -- the bytes that are left
  pub left : List ℕ
  -- the numbers of the reads that fail
  pub fails : List ℕ
  -- how many bytes a read moves at most
  pub most : ℕ
  -- the number of the next read
  pub number : ℕ
  pub faults : ℕ

abbrev pub known_source : MemorySourceState → KnownSource
known_source s = record { left = Some s.left; faults = s.faults; reads = s.number }

abbrev pub read_fails : MemorySourceState → Bool
read_fails s = list_any (λ k. k == s.number) s.fails

-- how many bytes a read into this much room moves, where it doesn't fail
abbrev pub read_count : MemorySourceState → ℕ → ℕ
read_count s room = min (min s.most room) (length s.left)

abbrev pub read_answer : MemorySourceState → ℕ → Result ℕ Failed
read_answer s room = if read_fails s then Err (record {}) else Ok (read_count s room)

abbrev pub after_read : MemorySourceState → ℕ → MemorySourceState
after_read s room =
    if read_fails s
    then record s { number = next_count s.number; faults = next_count s.faults }
    else record s { number = next_count s.number; left = drop (read_count s room) s.left }
