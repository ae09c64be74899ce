-- One item of a document, and the items behind it.
use Rattle.std.specs.Prelude.{Bool, true, not, List, [], ◌∷◌, ◌++◌, Option, Some, None}
use Rattle.std.specs.List.{list_any}
use Rattle.serde_json.specs.Data.{Data}
use Rattle.mesh_doc.specs.Faults.{Check, ◌⨾◌, ◌▸◌, at_field, demands, fault, none}
use Rattle.mesh_doc.specs.Fields.{open_object, required, required_in}
use Rattle.mesh_doc.specs.Kinds.{text_faults, text_in}
use Rattle.mesh_doc.specs.declared.reason.Reason.TheVariants as reason
use Rattle.manifest_json.specs.Key.{same_key}
use Rattle.manifest_json.specs.KindTable.{kind_of}
use Rattle.manifest_json.specs.MeshConfig.{mesh_item_faults, mesh_item_in}
use Rattle.manifest_json.specs.Pod.{pod_faults, pod_in}
use Rattle.manifest_json.specs.PolicyItems.{authorization_item_faults, authorization_item_in, peer_item_faults, peer_item_in, request_item_faults, request_item_in}
use Rattle.manifest_json.specs.Service.{service_faults, service_in}
use Rattle.manifest_json.specs.declared.items.Item.{Item}
use Rattle.manifest_json.specs.declared.items.Item.TheVariants as item
use Rattle.manifest_json.specs.declared.items.TheConstants.{API_VERSION, KIND}
use Rattle.manifest_json.specs.declared.key.ItemKey.{ItemKey}
use Rattle.manifest_json.specs.declared.key.Kind.{Kind}
use Rattle.manifest_json.specs.declared.key.Kind.TheVariants as kind

-- ---- one item

-- the texts that say what an item is (Kubernetes API Conventions, "Types (Kinds)")
unfoldable pub heading_faults : Check
heading_faults = open_object (required API_VERSION.now text_faults ⨾ required KIND.now text_faults)

-- the kind that they give
unfoldable pub kind_in : Data → Option Kind
kind_in d = kind_of (required_in API_VERSION.now text_in d) (required_in KIND.now text_in d)

-- what is read of an item of each kind
unfoldable pub kind_faults : Kind → Check
kind_faults kind.Pod = pod_faults
kind_faults kind.Service = service_faults
kind_faults kind.Authorization = authorization_item_faults
kind_faults kind.Peer = peer_item_faults
kind_faults kind.Request = request_item_faults
kind_faults kind.Mesh = mesh_item_faults
kind_faults kind.Other = λ d at. none

-- an item of a known group and of no known kind is told at its `kind`
abbrev pub known_faults : Option Kind → Check
known_faults None = at_field KIND.now (λ d at. fault reason.WrongKind at)
known_faults (Some k) = kind_faults k

-- what can be wrong with an item
unfoldable pub item_faults : Check
item_faults = heading_faults ▸ λ d at. known_faults (kind_in d) d at

-- what an item of each kind means
unfoldable pub kind_value : Kind → Data → Item
kind_value kind.Pod d = item.Pod (pod_in d)
kind_value kind.Service d = item.Service (service_in d)
kind_value kind.Authorization d = item.Authorization (authorization_item_in d)
kind_value kind.Peer d = item.Peer (peer_item_in d)
kind_value kind.Request d = item.Request (request_item_in d)
kind_value kind.Mesh d = item.Mesh (mesh_item_in d)
kind_value kind.Other d = item.Other

-- any value where there is none
abbrev pub known_value : Option Kind → Data → Item
known_value None d = item.Other
known_value (Some k) d = kind_value k d

-- what an item means
unfoldable pub item_in : Data → Item
item_in d = known_value (kind_in d) d

-- ---- an item behind others

-- of one namespace and name a kind has one item, and a document has one MeshConfig. Items that are passed over are not
-- compared
unfoldable pub key_of : Item → Option ItemKey
key_of (item.Pod p) = Some (record { kind = kind.Pod; namespace = p.namespace; name = p.name })
key_of (item.Service s) = Some (record { kind = kind.Service; namespace = s.namespace; name = s.name })
key_of (item.Authorization p) = Some (record { kind = kind.Authorization; namespace = p.namespace; name = p.name })
key_of (item.Peer p) = Some (record { kind = kind.Peer; namespace = p.namespace; name = p.name })
key_of (item.Request r) = Some (record { kind = kind.Request; namespace = r.namespace; name = r.name })
key_of (item.Mesh m) = Some (record { kind = kind.Mesh; namespace = []; name = [] })
key_of item.Other = None

-- no earlier item has the key
abbrev pub is_new : List ItemKey → Option ItemKey → Bool
is_new seen None = true
is_new seen (Some key) = not (list_any (same_key key) seen)

-- the keys with that of one item more
abbrev pub seen_with : List ItemKey → Option ItemKey → List ItemKey
seen_with seen None = seen
seen_with seen (Some key) = seen ++ key ∷ []

-- what can be wrong with an item behind others
unfoldable pub next_faults : List ItemKey → Check
next_faults seen = item_faults ▸ demands (λ d. is_new seen (key_of (item_in d))) reason.DuplicateItem

-- the keys behind it
unfoldable pub after_item : List ItemKey → Data → List ItemKey
after_item seen d = seen_with seen (key_of (item_in d))
