-- Addresses and the texts that spell them.
use Rattle.std.specs.Prelude.{◌≡◌, ℕ, List, Option, Some, None, option_map}
use Rattle.std.specs.Int.Digits.{number_from_digits}
use Rattle.std.specs.Net.Grammar.{IsColonHex, IsDotted}
use Rattle.std.specs.Net.Reader.{read_ipv4, read_ipv6, whole_value}
use Rattle.mesh_net.specs.declared.address.IpAddr.{IpAddr}
use Rattle.mesh_net.specs.declared.address.IpAddr.TheVariants.{V4, V6}

-- the bits of an address
abbrev pub width : IpAddr → ℕ
width (V4 n) = 32
width (V6 n) = 128

-- The grammar. IPv4: four decimals up to 255 without leading zeros, joined by dots. IPv6 (RFC 4291, section
-- 2.2): eight groups of one to four hexadecimal digits joined by colons; the last two may be written as an
-- IPv4 address, and one `::` at most stands for one group of zero or more. There is no zone.
abbrev pub Spells : List ℕ → IpAddr → Type 0
Spells text (V4 n) = (octets : List ℕ) × IsDotted text octets × (n ≡ number_from_digits 256 octets)
Spells text (V6 n) = (groups : List ℕ) × IsColonHex text groups × (n ≡ number_from_digits 65536 groups)

-- the address of four octets
abbrev pub v4_of : List ℕ → IpAddr
v4_of octets = V4 (number_from_digits 256 octets)

-- the address of eight groups of 16 bits
abbrev pub v6_of : List ℕ → IpAddr
v6_of groups = V6 (number_from_digits 65536 groups)

-- the first of two that is there
abbrev pub one_of : Option IpAddr → Option IpAddr → Option IpAddr
one_of (Some ip) other = Some ip
one_of None other = other

-- the one address that a text spells, if it spells any
unfoldable pub ip_of : List ℕ → Option IpAddr
ip_of text = one_of (option_map v4_of (whole_value (read_ipv4 text))) (option_map v6_of (whole_value (read_ipv6 text)))
