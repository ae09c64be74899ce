-- A port in decimal text (RFC 6335, section 6: ports are 16-bit numbers, and 0 is reserved).
use Rattle.std.specs.Prelude.{ℕ, ◌==◌, List, Option, Some, None, option_and_then, if◌then◌else◌}
use Rattle.mesh_text.specs.Number.{decimal_of}

-- a number other than 0
abbrev pub unless_zero : ℕ → Option ℕ
unless_zero n = if n == 0 then None else Some n

-- the port from 1 to 65,535 that a text spells in decimal without leading zeros
abbrev pub port_of : List ℕ → Option ℕ
port_of text = option_and_then unless_zero (decimal_of text)
