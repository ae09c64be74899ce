-- Chains without fault are within their limit.
use Rattle.std.proofs.Common.{◌≡◌, ◌≤◌, None, length}
use Rattle.std.specs.Bool.{⊤}
use Rattle.serde_json.specs.Data.{Data}
use Rattle.mesh_doc.proofs.NoFault.{Ensures, IsListOf, anything, later, list_of, required_written}
use Rattle.mesh_doc.specs.Faults.{first}
use Rattle.mesh_doc.specs.Fields as fields
use Rattle.mesh_doc.specs.Fields.{required_written_in}
use Rattle.mesh_doc.specs.Lists.{list_in}
use Rattle.mesh_doc.specs.Places.{Steps}
use Rattle.envoy_types.specs.ChainForms.{chain_faults, chain_in}
use Rattle.envoy_types.specs.ListenerForms.{chains_faults}
use Rattle.envoy_types.specs.SmallForms.{list_that}
use Rattle.envoy_types.specs.declared.keys.TheConstants.{FILTER_CHAINS}

few : Ensures chains_faults (list_in chain_in) (IsListOf 2048 (λ _. ⊤))
unfolding chains_faults list_that
few = record { holds = λ d at h. (list_of 2048 (anything {f = chain_faults} {value = chain_in})).holds d at (later _ _ (later _ _ h)) }

pub few-chains : (d : Data) (at : Steps) → first (fields.required_written FILTER_CHAINS.now chains_faults d at) ≡ None
    → length (required_written_in FILTER_CHAINS.now (list_in chain_in) d) ≤ 2048
few-chains d at h = ((required_written FILTER_CHAINS.now few).holds d at h).few
