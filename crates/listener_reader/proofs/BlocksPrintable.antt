-- A value means a block that can be written.
use Rattle.std.proofs.Common.{◌≡◌, ℕ, Bool, true, false, nat_le, List, Option, Some, None, option_and_then, unwrap_or, refl}
use Rattle.mesh_doc.proofs.NoFault.{Ensures}
use Rattle.mesh_doc.specs.Fields.{required_written_in}
use Rattle.mesh_doc.specs.Kinds.{number_in, text_in}
use Rattle.mesh_net.proofs.AddressLemmas.{spells}
use Rattle.mesh_net.specs.Address.{ip_of, width}
use Rattle.mesh_net.specs.Cidr.{block_where, block_with}
use Rattle.mesh_net.specs.declared.address.IpAddr.{IpAddr}
use Rattle.mesh_policy.proofs.Addresses.{spelled-address}
use Rattle.mesh_policy.specs.Values.{is_address}
use Rattle.envoy_types.specs.BlockForms.{address_in, any_block, block_faults, block_in, block_is_printable}
use Rattle.envoy_types.specs.declared.keys.TheConstants.{ADDRESS_PREFIX, PREFIX_LEN}

any-printable : block_is_printable any_block ≡ true
unfolding block_is_printable
any-printable = refl

where-printable : (ip : IpAddr) (len : ℕ) (b : Bool) (is : nat_le len (width ip) ≡ b) → is_address ip ≡ true
    → block_is_printable (unwrap_or (block_where ip len b is) any_block) ≡ true
unfolding block_is_printable
where-printable ip len true is h = h
where-printable ip len false is h = any-printable

-- the block of the address, if there is one
found-printable : (found : Option IpAddr) (len : ℕ) → ((ip : IpAddr) → found ≡ Some ip → is_address ip ≡ true)
    → block_is_printable (unwrap_or (option_and_then (λ ip. block_with ip len) found) any_block) ≡ true
found-printable None len h = any-printable
found-printable (Some ip) len h = where-printable ip len (nat_le len (width ip)) refl (h ip refl)

-- an address that is read is one of its family
address-fits : (text : List ℕ) (ip : IpAddr) → ip_of text ≡ Some ip → is_address ip ≡ true
address-fits text ip read = spelled-address text ip (spells text ip read)

pub block-printable : Ensures block_faults block_in (λ block. block_is_printable block ≡ true)
unfolding block_in
block-printable = record {
  holds = λ d at h. found-printable (address_in d) (required_written_in PREFIX_LEN.now number_in d)
      (address-fits (required_written_in ADDRESS_PREFIX.now text_in d));
}
