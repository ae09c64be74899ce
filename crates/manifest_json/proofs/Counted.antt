-- How many items a document has at most.
use Rattle.std.proofs.Common.{◌≤◌, List, length}
use Rattle.std.specs.Bool.{⊤}
use Rattle.mesh_doc.specs.Lists.{list_in}
use Rattle.mesh_doc.specs.Turns.{list_in_turn}
use Rattle.mesh_doc.proofs.NoFault as no_fault
use Rattle.mesh_doc.proofs.NoFault.{Ensures, IsListOf, anything}
use Rattle.manifest_json.specs.Items.{after_item, item_in, next_faults}
use Rattle.manifest_json.specs.declared.key.ItemKey.{ItemKey}

within_limit : (seen : List ItemKey) → Ensures (list_in_turn 4096 next_faults after_item seen) (list_in item_in) (IsListOf 4096 (λ _. ⊤))
within_limit seen = no_fault.list_in_turn after_item (λ _. anything) 4096 seen

pub few_items : (seen : List ItemKey) → Ensures (list_in_turn 4096 next_faults after_item seen) (list_in item_in) (λ items. length items ≤ 4096)
few_items seen = record { holds = λ d at h. ((within_limit seen).holds d at h).few }
