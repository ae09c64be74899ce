-- How an address is written.
use Rattle.std.specs.Prelude.{ℕ, zero, suc, ◌*◌, ◌/◌, ◌%◌, ◌^◌, false, List, [], ◌++◌, codes}
use Rattle.std.specs.Fmt.{digits}
use Rattle.std.specs.Net.Text.{dotted_text}
use Rattle.mesh_net.specs.declared.address.IpAddr.{IpAddr}
use Rattle.mesh_net.specs.declared.address.IpAddr.TheVariants.{V4, V6}

-- the group of 16 bits above this many groups
abbrev pub group_at : ℕ → ℕ → ℕ
group_at n place = n / 2 ^ (16 * place) % 65536

-- a group in lower-case hexadecimal digits without leading zeros
abbrev pub hex_text : ℕ → List ℕ
hex_text group = digits 16 false group

-- this many of the lowest groups, each after a colon
abbrev pub lower_groups : ℕ → ℕ → List ℕ
lower_groups n zero = []
lower_groups n (suc place) = (codes ":" ++ hex_text (group_at n place)) ++ lower_groups n place

-- IPv4 as four decimals, IPv6 as eight groups, none left out
abbrev pub ip_text : IpAddr → List ℕ
ip_text (V4 n) = dotted_text (n / 2 ^ 24) (n / 2 ^ 16 % 256) (n / 2 ^ 8 % 256) (n % 256)
ip_text (V6 n) = hex_text (group_at n 7) ++ lower_groups n 7
