-- What is known of a source, and what reads do to it. Each fact speaks of the source before and after.
use Rattle.std.specs.Prelude.{ℕ, ◌≡◌, List, length, Option, Result}
use Rattle.std.specs.Io.KnownBytes.{Consumes, IsAtEnd, Keeps, ReadConsumes}
use Rattle.mesh_edge.specs.Faults.{HasCause, Rose}

pub record KnownSource : Type 0 where
  -- the bytes that reads will still give, or None where the source doesn't tell
  pub left : Option (List ℕ)
  -- how often a read has failed: it doesn't fall, and stops at 2^64 - 1
  pub faults : ℕ
  -- a number that a read raises by one at most, and nothing else changes
  pub reads : ℕ

-- these bytes were taken from the front of those left
abbrev pub Takes : KnownSource → KnownSource → List ℕ → Type 0
Takes old new bytes = Consumes old.left new.left bytes

-- some bytes were taken from the front of those left
abbrev pub TakesSome : KnownSource → KnownSource → Type 0
TakesSome old new = (bytes : List ℕ) × Takes old new bytes

-- so many bytes were taken from the front of those left
abbrev pub TakesCount : KnownSource → KnownSource → ℕ → Type 0
TakesCount old new count = (bytes : List ℕ) × Takes old new bytes × (length bytes ≡ count)

-- the bytes left are the same
abbrev pub TakesNone : KnownSource → KnownSource → Type 0
TakesNone old new = Keeps old.left new.left

-- no byte is left
abbrev pub IsSpent : KnownSource → Type 0
IsSpent now = IsAtEnd now.left

-- a read took the bytes that it gave: none only at the end, and none where it failed
abbrev pub ReadTakes : {E : Type 0} → KnownSource → KnownSource → Result ℕ E → List ℕ → Type 0
ReadTakes old new result buf = ReadConsumes old.left new.left result buf

-- the count of faults rose
abbrev pub ReadFaulted : KnownSource → KnownSource → Type 0
ReadFaulted old new = Rose old.faults new.faults

-- the count of faults is the same
abbrev pub NoReadFault : KnownSource → KnownSource → Type 0
NoReadFault old new = new.faults ≡ old.faults

-- an error comes only where the count of faults rose, and a success leaves it as it was
abbrev pub ReadHasCause : {T E : Type 0} → KnownSource → KnownSource → Result T E → Type 0
ReadHasCause old new result = HasCause old.faults new.faults result
