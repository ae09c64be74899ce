-- What is known of a sink, and what writes and flushes do to it. Each fact speaks of the sink before and after.
use Rattle.std.specs.Prelude.{ℕ, ◌≡◌, ◌+◌, ◌≤◌, List, length, take, Option, Some, None, Result, ⊤}
use Rattle.std.specs.Io.KnownBytes.{Appends, Keeps, WriteAppends}
use Rattle.mesh_edge.specs.Faults.{HasCause, Rose}

pub record KnownSink : Type 0 where
  -- the bytes taken so far, or None where the sink doesn't tell
  pub taken : Option (List ℕ)
  -- how many of the bytes taken are flushed, or None where the sink doesn't tell
  pub flushed : Option ℕ
  -- how often a write or a flush has failed: it doesn't fall, and stops at 2^64 - 1
  pub faults : ℕ
  -- a number that a write raises by one at most, and nothing else raises
  pub writes : ℕ
  -- a number that a flush raises by one at most, and nothing else raises
  pub flushes : ℕ

-- these bytes were taken
abbrev pub Adds : KnownSink → KnownSink → List ℕ → Type 0
Adds old new bytes = Appends old.taken new.taken bytes

-- a front of these bytes was taken
abbrev pub AddsFront : KnownSink → KnownSink → List ℕ → Type 0
AddsFront old new bytes = (count : ℕ) × (count ≤ length bytes) × Adds old new (take count bytes)

-- no byte was taken
abbrev pub AddsNone : KnownSink → KnownSink → Type 0
AddsNone old new = Keeps old.taken new.taken

-- a write took as many bytes of a piece as it answers, and none where it failed
abbrev pub WriteAdds : {E : Type 0} → KnownSink → KnownSink → Result ℕ E → List ℕ → Type 0
WriteAdds old new result piece = WriteAppends old.taken new.taken result piece

-- a count that is told is told again, and is no less
abbrev pub NoFewer : Option ℕ → Option ℕ → Type 0
NoFewer None new = ⊤
NoFewer (Some n) None = ⊥
NoFewer (Some n) (Some m) = n ≤ m

-- bytes that were flushed stay so
abbrev pub KeepsFlushed : KnownSink → KnownSink → Type 0
KeepsFlushed old new = NoFewer old.flushed new.flushed

abbrev pub AllFlushed : Option (List ℕ) → Option ℕ → Type 0
AllFlushed (Some bytes) (Some count) = count ≡ length bytes
AllFlushed _ _ = ⊤

-- all bytes taken are flushed
abbrev pub IsFlushed : KnownSink → Type 0
IsFlushed now = AllFlushed now.taken now.flushed

-- there were at most so many writes, and no flush
pub record WritesAtMost (old new : KnownSink) (count : ℕ) : Type 0 where
  pub writes : new.writes ≤ old.writes + count
  pub flushes : new.flushes ≤ old.flushes

-- there was at most one flush, and no write
pub record FlushesOnce (old new : KnownSink) : Type 0 where
  pub writes : new.writes ≤ old.writes
  pub flushes : new.flushes ≤ old.flushes + 1

-- the count of faults rose
abbrev pub WriteFaulted : KnownSink → KnownSink → Type 0
WriteFaulted old new = Rose old.faults new.faults

-- the count of faults is the same
abbrev pub NoWriteFault : KnownSink → KnownSink → Type 0
NoWriteFault old new = new.faults ≡ old.faults

-- an error comes only where the count of faults rose, and a success leaves it as it was
abbrev pub WriteHasCause : {T E : Type 0} → KnownSink → KnownSink → Result T E → Type 0
WriteHasCause old new result = HasCause old.faults new.faults result
