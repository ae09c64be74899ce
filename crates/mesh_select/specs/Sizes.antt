-- Counts that grow by a size.
use Rattle.std.specs.Prelude.{◌≡◌, ◌+◌, ◌^◌, ◌<◌, Bool, ◌||◌, nat_lt}
use Rattle.mesh_policy.specs.Sizes.{Size}
use Rattle.mesh_select.specs.declared.sizes.Counts.{Counts}

-- the counts with one more size
pub record Adds (old new : Counts) (size : Size) : Type 0 where
  pub values : new.values ≡ old.values + size.values
  pub entries : new.entries ≡ old.entries + size.entries
  pub bytes : new.bytes ≡ old.bytes + size.bytes

-- they have room for it
pub record Fits (counts : Counts) (size : Size) : Type 0 where
  pub values : counts.values + size.values < 2 ^ 64
  pub entries : counts.entries + size.entries < 2 ^ 64
  pub bytes : counts.bytes + size.bytes < 2 ^ 64

-- more than 2,048 values, 1,024 entries or 65,536 bytes
abbrev pub is_over_limit : Counts → Bool
is_over_limit counts = nat_lt 2048 counts.values || nat_lt 1024 counts.entries || nat_lt 65536 counts.bytes
