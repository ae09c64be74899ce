-- A printable address block is written as a value that has no fault and means that block.
use Rattle.std.proofs.Common.{◌≡◌, ◌^◌, true, List, [], ◌∷◌, Some, unwrap_or, refl, sym, ap, subst, ◌∙◌}
use Rattle.std.proofs.lemmas.Bool.{ltb-true}
use Rattle.std.specs.List.{list_all}
use Rattle.serde_json.specs.Data.{string}
use Rattle.serde_json.specs.Find.{get}
use Rattle.mesh_doc.specs.Fields.{required_written, required_written_in}
use Rattle.mesh_doc.specs.Kinds.{number_faults, number_in, text_faults, text_in}
use Rattle.mesh_doc.specs.Known.{is_known}
use Rattle.mesh_doc.specs.Tested.{tested}
use Rattle.mesh_net.specs.Address.{ip_of}
use Rattle.mesh_net.specs.Cidr.{block_with}
use Rattle.mesh_net.specs.Written.{ip_text}
use Rattle.mesh_net.specs.declared.address.IpAddr.{IpAddr}
use Rattle.mesh_net.specs.declared.address.IpAddr.TheVariants.{V4, V6}
use Rattle.mesh_net.specs.declared.cidr.Cidr.{Cidr}
use Rattle.mesh_net.proofs.BlockLemmas.{block_fits}
use Rattle.mesh_net.proofs.WrittenLemmas.{v4_back, v6_back}
use Rattle.mesh_policy.specs.Values.{is_address}
use Rattle.envoy_types.specs.SmallForms.{given}
use Rattle.envoy_types.specs.WrittenFields.{Field, field, number_written, object_of}
use Rattle.envoy_types.specs.declared.keys.TheConstants.{ADDRESS_PREFIX, PREFIX_LEN}
use Rattle.envoy_types.specs.BlockForms.{address_in, address_prefix_faults, any_block, block_faults, block_in}
use Rattle.envoy_types.specs.BlockForms.{block_is_printable, block_written, prefix_len_faults}
use Rattle.envoy_types.proofs.FieldsBack.{Passes, both, get-object, required-back, required-passes, strict-object}
use Rattle.envoy_types.proofs.PartsBack.{Back}

-- the text of an address spells it
pub address-back : (ip : IpAddr) → is_address ip ≡ true → ip_of (ip_text ip) ≡ Some ip
address-back (V4 n) fits = v4_back n (ltb-true n (2 ^ 32) fits)
address-back (V6 n) fits = v6_back n (ltb-true n (2 ^ 128) fits)

module _ (block : Cidr) (printable : is_address block.addr ≡ true) where
  abbrev fields : List Field
  fields = field ADDRESS_PREFIX.now (string (ip_text block.addr)) ∷ field PREFIX_LEN.now (number_written block.len) ∷ []

  known-fields : list_all (λ (f : Field). is_known (ADDRESS_PREFIX.now ∷ PREFIX_LEN.now ∷ []) f.0) fields ≡ true
  unfolding is_known
  known-fields = refl

  prefix-there : get ADDRESS_PREFIX.now (object_of fields) ≡ Some (string (ip_text block.addr))
  prefix-there = get-object ADDRESS_PREFIX.now fields refl

  length-there : get PREFIX_LEN.now (object_of fields) ≡ Some (number_written block.len)
  length-there = get-object PREFIX_LEN.now fields refl

  address-there : address_in (object_of fields) ≡ Some block.addr
  unfolding text_in
  address-there =
      ap ip_of (required-back ADDRESS_PREFIX.now text_in (object_of fields) (string (ip_text block.addr)) prefix-there)
      ∙ address-back block.addr printable

  prefix-passes : Passes address_prefix_faults (string (ip_text block.addr))
  unfolding tested text_faults text_in
  prefix-passes = record { clean = λ at. rw (address-back block.addr printable) refl }

  length-passes : Passes (prefix_len_faults (Some block.addr)) (number_written block.len)
  unfolding prefix_len_faults number_faults number_in
  length-passes = record { clean = λ at. rw block.fits refl }

  length-passes-there : Passes (prefix_len_faults (address_in (object_of fields))) (number_written block.len)
  length-passes-there =
      subst (λ ip. Passes (prefix_len_faults ip) (number_written block.len)) (sym address-there) length-passes

  length-clean : Passes (given (λ d. required_written PREFIX_LEN.now (prefix_len_faults (address_in d)))) (object_of fields)
  length-clean = record {
    clean = (required-passes PREFIX_LEN.now (prefix_len_faults (address_in (object_of fields))) (object_of fields)
        (number_written block.len) length-there length-passes-there).clean;
  }

  length-back : required_written_in PREFIX_LEN.now number_in (object_of fields) ≡ block.len
  unfolding number_in
  length-back = required-back PREFIX_LEN.now number_in (object_of fields) (number_written block.len) length-there

  whole-back : unwrap_or (block_with block.addr block.len) any_block ≡ block
  whole-back = ap (λ found. unwrap_or found any_block) (sym (block_fits block.addr block.len block.fits))

pub block-back : (block : Cidr) → block_is_printable block ≡ true → Back block_faults block_in (block_written block) block
unfolding block_faults block_in block_written block_is_printable
block-back block printable = record {
  passes = strict-object (ADDRESS_PREFIX.now ∷ PREFIX_LEN.now ∷ []) _ (fields block printable) (known-fields block printable)
      (both (required-passes ADDRESS_PREFIX.now address_prefix_faults _ _ (prefix-there block printable) (prefix-passes block printable))
      (length-clean block printable));
  back = rw (address-there block printable, length-back block printable) (whole-back block printable);
}
