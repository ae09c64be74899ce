-- A document: a List of items, or one item alone (Kubernetes API Conventions, "Types (Kinds)").
use Rattle.std.specs.Prelude.{Bool, List, [], ◌∷◌, is_some, if◌then◌else◌}
use Rattle.std.specs.Str.{bytes_eq}
use Rattle.serde_json.specs.Data.{Data}
use Rattle.serde_json.specs.Find.{as_array}
use Rattle.mesh_doc.specs.Faults.{Check, ◌▸◌, demands}
use Rattle.mesh_doc.specs.Fields.{optional, required_in}
use Rattle.mesh_doc.specs.Kinds.{is_object, text_in}
use Rattle.mesh_doc.specs.Lists.{listed_in}
use Rattle.mesh_doc.specs.Turns.{list_in_turn}
use Rattle.mesh_doc.specs.declared.reason.Reason.TheVariants as reason
use Rattle.mesh_policy.specs.declared.bundle.Bundle.{Bundle}
use Rattle.manifest_json.specs.Gather.{bundle_of}
use Rattle.manifest_json.specs.Items.{after_item, item_faults, item_in, next_faults}
use Rattle.manifest_json.specs.declared.document.TheConstants.{ITEMS, LIST}
use Rattle.manifest_json.specs.declared.items.Item.{Item}
use Rattle.manifest_json.specs.declared.items.TheConstants.{KIND}

-- its `kind` is `List`
unfoldable pub is_list : Data → Bool
is_list d = bytes_eq (required_in KIND.now text_in d) LIST.now

-- a list of at most 4,096 items, each read behind the earlier ones
unfoldable pub items_faults : Check
items_faults = demands (λ d. is_some (as_array d)) reason.NotAList ▸ list_in_turn 4096 next_faults after_item []

-- a List without items is as one with none
abbrev pub document_faults : Check
document_faults d at = if is_list d then optional ITEMS.now items_faults d at else item_faults d at

-- what can be wrong with a document
unfoldable pub bundle_faults : Check
bundle_faults = demands is_object reason.NotAList ▸ document_faults

-- the items of a List, or the one that the document is
unfoldable pub items_in : Data → List Item
items_in d = if is_list d then listed_in ITEMS.now item_in d else item_in d ∷ []

-- the manifests of the document
unfoldable pub bundle_in : Data → Bundle
bundle_in d = bundle_of (items_in d)
