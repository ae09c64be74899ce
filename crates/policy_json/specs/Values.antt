-- The values of the lists of an AuthorizationPolicy (Istio reference, "Authorization Policy": Source, Operation,
-- Condition). Each is a text of 1 to 1,024 bytes. What is kept of it is the text as written, a port or a block.
use Rattle.std.specs.Prelude.{ℕ, is_some, unwrap_or, refl}
use Rattle.serde_json.specs.Data.{Data}
use Rattle.mesh_doc.specs.Faults.{Check, ◌▸◌, demands}
use Rattle.mesh_doc.specs.Kinds.{text_in}
use Rattle.mesh_doc.specs.declared.reason.Reason.TheVariants as reason
use Rattle.mesh_net.specs.Block.{block_of}
use Rattle.mesh_net.specs.declared.address.IpAddr.TheVariants as address
use Rattle.mesh_net.specs.declared.cidr.Cidr.{Cidr}
use Rattle.mesh_policy.specs.Values.{has_few_slashes, is_path}
use Rattle.policy_json.specs.Ports.{port_of}
use Rattle.policy_json.specs.Texts.{short_text_faults}

-- `ports`: a port from 1 to 65,535 in decimal
unfoldable pub port_value_faults : Check
port_value_faults = short_text_faults ▸ demands (λ d. is_some (port_of (text_in d))) reason.BadPort

-- the port that the text spells
unfoldable pub port_value_in : Data → ℕ
port_value_in d = unwrap_or (port_of (text_in d)) 0

-- `ipBlocks`: an address, alone or with the length of a prefix (RFC 4632, section 3.1)
unfoldable pub block_faults : Check
block_faults = short_text_faults ▸ demands (λ d. is_some (block_of (text_in d))) reason.BadCidr

-- where a value is faulty it stands for any block
abbrev pub any_block : Cidr
any_block = record { addr = address.V4 0; len = 0; fits = refl }

-- the block that the text spells
unfoldable pub block_in : Data → Cidr
block_in d = unwrap_or (block_of (text_in d)) any_block

-- `requestPrincipals`: issuer and subject of a token, joined by a slash
unfoldable pub request_principal_faults : Check
request_principal_faults = short_text_faults ▸ demands (λ d. has_few_slashes (text_in d)) reason.TooManySlashes

-- `paths`: a template, or a plain pattern
unfoldable pub path_faults : Check
path_faults = short_text_faults ▸ demands (λ d. is_path (text_in d)) reason.BadTemplate
