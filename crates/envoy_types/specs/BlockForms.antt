-- The JSON of address blocks (Envoy v3 API reference, `config.core.v3.CidrRange`).
use Rattle.std.specs.Prelude.{ℕ, Bool, true, nat_le, [], ◌∷◌, Option, Some, None, is_some, unwrap_or, refl}
use Rattle.std.specs.Option.{option_and_then}
use Rattle.serde_json.specs.Data.{Data, string}
use Rattle.mesh_doc.specs.Faults.{Check, ◌⨾◌, ◌▸◌, demands}
use Rattle.mesh_doc.specs.Fields.{strict, required_written, required_written_in}
use Rattle.mesh_doc.specs.Kinds.{number_faults, number_in, text_in}
use Rattle.mesh_doc.specs.Tested.{tested}
use Rattle.mesh_doc.specs.declared.reason.Reason.TheVariants as reason
use Rattle.mesh_net.specs.Address.{ip_of, width}
use Rattle.mesh_net.specs.Cidr.{block_with}
use Rattle.mesh_net.specs.Written.{ip_text}
use Rattle.mesh_net.specs.declared.address.IpAddr.{IpAddr}
use Rattle.mesh_net.specs.declared.address.IpAddr.TheVariants.{V4}
use Rattle.mesh_net.specs.declared.cidr.Cidr.{Cidr}
use Rattle.mesh_policy.specs.Values.{is_address}
use Rattle.envoy_types.specs.SmallForms.{given}
use Rattle.envoy_types.specs.WrittenFields.{field, number_written, object_of}
use Rattle.envoy_types.specs.declared.keys.TheConstants.{ADDRESS_PREFIX, PREFIX_LEN}

-- `address_prefix`: the text of an address
abbrev pub address_prefix_faults : Check
address_prefix_faults = tested (λ t. is_some (ip_of t)) reason.BadForm

-- the address of the block, where its text spells one
abbrev pub address_in : Data → Option IpAddr
address_in d = ip_of (required_written_in ADDRESS_PREFIX.now text_in d)

-- the length is at most the bits of the address; beside a text that is none every length goes
abbrev pub length_fits : Option IpAddr → ℕ → Bool
length_fits None len = true
length_fits (Some ip) len = nat_le len (width ip)

-- `prefix_len`, beside this address
unfoldable pub prefix_len_faults : Option IpAddr → Check
prefix_len_faults ip = number_faults ▸ demands (λ d. length_fits ip (number_in d)) reason.BadForm

-- `CidrRange`: the address, and then the length that it bounds
unfoldable pub block_faults : Check
block_faults =
    strict (ADDRESS_PREFIX.now ∷ PREFIX_LEN.now ∷ [])
    (required_written ADDRESS_PREFIX.now address_prefix_faults
    ⨾ given (λ d. required_written PREFIX_LEN.now (prefix_len_faults (address_in d))))

-- a value with a fault stands for any block
abbrev pub any_block : Cidr
any_block = record { addr = V4 0; len = 0; fits = refl }

-- the block of the address and the length
unfoldable pub block_in : Data → Cidr
block_in d =
    unwrap_or (option_and_then (λ ip. block_with ip (required_written_in PREFIX_LEN.now number_in d)) (address_in d)) any_block

-- the address in the one text that it is written in
unfoldable pub block_written : Cidr → Data
block_written block = object_of
    (field ADDRESS_PREFIX.now (string (ip_text block.addr))
    ∷ field PREFIX_LEN.now (number_written block.len)
    ∷ [])

-- The address is one of its family. That the length fits is part of a block.
unfoldable pub block_is_printable : Cidr → Bool
block_is_printable block = is_address block.addr
