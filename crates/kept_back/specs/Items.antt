-- The items that no listener is built for yet, and their places (Istio reference).
use Rattle.std.specs.Prelude.{Option, Some, None}
use Rattle.mesh_doc.specs.Faults.{Check, none}
use Rattle.manifest_json.specs.Items.{kind_in}
use Rattle.manifest_json.specs.declared.key.Kind.{Kind}
use Rattle.manifest_json.specs.declared.key.Kind.TheVariants as kind
use Rattle.kept_back.specs.Policies.{policy_kept}
use Rattle.kept_back.specs.Fields.{whole_kept}

-- by its kind: a RequestAuthentication as a whole, and places of AuthorizationPolicies
abbrev pub kind_kept : Option Kind → Check
kind_kept (Some kind.Authorization) = policy_kept
kind_kept (Some kind.Request) = whole_kept
kind_kept (Some kind.Pod) = λ d at. none
kind_kept (Some kind.Service) = λ d at. none
kind_kept (Some kind.Peer) = λ d at. none
kind_kept (Some kind.Mesh) = λ d at. none
kind_kept (Some kind.Other) = λ d at. none
kind_kept None = λ d at. none

-- an item of a document
unfoldable pub item_kept : Check
item_kept d at = kind_kept (kind_in d) d at
