-- Which manifests no listener is built for yet, and the first place where it shows. It is asked of a document without
-- fault.
use Rattle.std.specs.Prelude.{[], Option, option_map, if◌then◌else◌}
use Rattle.serde_json.specs.Data.{Data}
use Rattle.mesh_doc.specs.Faults.{Check, first}
use Rattle.mesh_doc.specs.Lists.{listed}
use Rattle.mesh_doc.specs.Places.{Steps}
use Rattle.manifest_json.specs.Document.{is_list}
use Rattle.kept_back.specs.Items.{item_kept}
use Rattle.kept_back.specs.declared.manifests.TheConstants.{ITEMS}

-- the places, item by item
unfoldable pub document_kept : Check
document_kept d at = if is_list d then listed ITEMS.now 4096 item_kept d at else item_kept d at

-- the first of them in reading order; None where a listener is built
unfoldable pub not_yet : Data → Option Steps
not_yet d = option_map (λ fault. fault.place) (first (document_kept d []))
