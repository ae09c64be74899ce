-- Address blocks (RFC 4632, section 3.1): an address and the length of its prefix.
use Rattle.std.specs.Prelude.{◌≡◌, ℕ, ◌-◌, ◌/◌, ◌^◌, ◌==◌, nat_le, Bool, true, false, Option, Some, None, refl}
use Rattle.mesh_net.specs.declared.address.IpAddr.{IpAddr}
use Rattle.mesh_net.specs.declared.address.IpAddr.TheVariants.{V4, V6}
use Rattle.mesh_net.specs.declared.cidr.Cidr.{Cidr}
use Rattle.mesh_net.specs.Address.{width}

-- the same family, and the same quotient by 2 ^ (width - length)
abbrev pub in_network : IpAddr → ℕ → IpAddr → Bool
in_network (V4 block) len (V4 ip) = block / 2 ^ (32 - len) == ip / 2 ^ (32 - len)
in_network (V6 block) len (V6 ip) = block / 2 ^ (128 - len) == ip / 2 ^ (128 - len)
in_network (V4 block) len (V6 ip) = false
in_network (V6 block) len (V4 ip) = false

-- the block of this address and length, by whether the length fits the family
abbrev pub block_where : (ip : IpAddr) (len : ℕ) (b : Bool) → nat_le len (width ip) ≡ b → Option Cidr
block_where ip len true fits = Some (record { addr = ip; len = len; fits = fits })
block_where ip len false longer = None

-- the block of this address and length, where the length is at most 32 or 128
abbrev pub block_with : IpAddr → ℕ → Option Cidr
block_with ip len = block_where ip len (nat_le len (width ip)) refl
