-- Who a request comes from (Istio reference, "Authorization Policy": Source).
use Rattle.std.specs.Prelude.{[], ◌∷◌}
use Rattle.serde_json.specs.Data.{Data}
use Rattle.mesh_doc.specs.Faults.{Check, ◌⨾◌}
use Rattle.mesh_doc.specs.Fields.{strict}
use Rattle.mesh_doc.specs.Kinds.{text_in}
use Rattle.mesh_doc.specs.Lists.{listed_in}
use Rattle.mesh_policy.specs.declared.policy.SourceSpec.{SourceSpec}
use Rattle.policy_json.specs.BothListed.{both_listed}
use Rattle.policy_json.specs.Texts.{short_text_faults}
use Rattle.policy_json.specs.Values.{block_faults, block_in, request_principal_faults}
use Rattle.policy_json.specs.declared.sources.TheConstants.{PRINCIPALS, NOT_PRINCIPALS, REQUEST_PRINCIPALS, NOT_REQUEST_PRINCIPALS}
use Rattle.policy_json.specs.declared.sources.TheConstants.{NAMESPACES, NOT_NAMESPACES}
use Rattle.policy_json.specs.declared.sources.TheConstants.{IP_BLOCKS, NOT_IP_BLOCKS, REMOTE_IP_BLOCKS, NOT_REMOTE_IP_BLOCKS}

-- Source: ten lists of values
unfoldable pub source_faults : Check
source_faults =
    strict (PRINCIPALS.now ∷ NOT_PRINCIPALS.now ∷ REQUEST_PRINCIPALS.now ∷ NOT_REQUEST_PRINCIPALS.now
    ∷ NAMESPACES.now ∷ NOT_NAMESPACES.now
    ∷ IP_BLOCKS.now ∷ NOT_IP_BLOCKS.now ∷ REMOTE_IP_BLOCKS.now ∷ NOT_REMOTE_IP_BLOCKS.now ∷ [])
    (both_listed PRINCIPALS.now NOT_PRINCIPALS.now short_text_faults
    ⨾ both_listed REQUEST_PRINCIPALS.now NOT_REQUEST_PRINCIPALS.now request_principal_faults
    ⨾ both_listed NAMESPACES.now NOT_NAMESPACES.now short_text_faults
    ⨾ both_listed IP_BLOCKS.now NOT_IP_BLOCKS.now block_faults
    ⨾ both_listed REMOTE_IP_BLOCKS.now NOT_REMOTE_IP_BLOCKS.now block_faults)

-- what a Source means
unfoldable pub source_in : Data → SourceSpec
source_in d = record {
  principals = listed_in PRINCIPALS.now text_in d;
  not_principals = listed_in NOT_PRINCIPALS.now text_in d;
  request_principals = listed_in REQUEST_PRINCIPALS.now text_in d;
  not_request_principals = listed_in NOT_REQUEST_PRINCIPALS.now text_in d;
  namespaces = listed_in NAMESPACES.now text_in d;
  not_namespaces = listed_in NOT_NAMESPACES.now text_in d;
  ip_blocks = listed_in IP_BLOCKS.now block_in d;
  not_ip_blocks = listed_in NOT_IP_BLOCKS.now block_in d;
  remote_ip_blocks = listed_in REMOTE_IP_BLOCKS.now block_in d;
  not_remote_ip_blocks = listed_in NOT_REMOTE_IP_BLOCKS.now block_in d;
}
