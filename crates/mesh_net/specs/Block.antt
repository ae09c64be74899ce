-- The texts of address blocks (RFC 4632, section 3.1).
use Rattle.std.specs.Prelude.{◌≡◌, ℕ, ◌==◌, Bool, List, ◌++◌, codes, ◌⊎◌, Option, Some, None, if◌then◌else◌}
use Rattle.std.specs.List.{list_any, before_first, after_first}
use Rattle.mesh_text.specs.Bytes.{slash}
use Rattle.mesh_text.specs.Number.{decimal_of}
use Rattle.mesh_net.specs.declared.address.IpAddr.{IpAddr}
use Rattle.mesh_net.specs.declared.cidr.Cidr.{Cidr}
use Rattle.mesh_net.specs.Address.{ip_of, width, Spells}
use Rattle.mesh_net.specs.Cidr.{block_with}

-- The grammar: an address alone, which has its full length, or an address, `/` and a decimal without leading
-- zeros. That the length fits the family is part of what a block is.
abbrev pub SpellsBlock : List ℕ → Cidr → Type 0
SpellsBlock text block =
    (Spells text block.addr × (block.len ≡ width block.addr))
    ⊎ ((addr len : List ℕ) × (text ≡ addr ++ codes "/" ++ len) × Spells addr block.addr × (decimal_of len ≡ Some block.len))

-- the block of an address alone
abbrev pub whole_block : Option IpAddr → Option Cidr
whole_block None = None
whole_block (Some ip) = block_with ip (width ip)

-- the block of an address and a length, where both were read
abbrev pub cut_block : Option IpAddr → Option ℕ → Option Cidr
cut_block None len = None
cut_block (Some ip) None = None
cut_block (Some ip) (Some len) = block_with ip len

-- the byte that stands between address and length
abbrev pub is_slash : ℕ → Bool
is_slash c = c == slash

-- the one block that a text spells, if it spells any
abbrev pub block_of : List ℕ → Option Cidr
block_of text =
    if list_any is_slash text
    then cut_block (ip_of (before_first is_slash text)) (decimal_of (after_first is_slash text))
    else whole_block (ip_of text)
