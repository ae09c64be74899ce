-- The `metadata` of an item (Kubernetes API reference, ObjectMeta).
use Rattle.std.specs.Prelude.{ℕ, Bool, not, List, unwrap_or}
use Rattle.std.specs.Str.{bytes_eq}
use Rattle.serde_json.specs.Data.{Data}
use Rattle.mesh_doc.specs.Faults.{Check, ◌⨾◌, demands}
use Rattle.mesh_doc.specs.Fields.{open_object, optional, optional_in, or_empty, or_empty_in, required, required_in}
use Rattle.mesh_doc.specs.Kinds.{text_in}
use Rattle.mesh_doc.specs.Tested.{tested}
use Rattle.mesh_doc.specs.declared.reason.Reason.TheVariants as reason
use Rattle.mesh_policy.specs.declared.names.TheConstants.{DEFAULT_NAMESPACE}
use Rattle.mesh_text.specs.Dns.{is_label, is_subdomain}
use Rattle.mesh_text.specs.Time.{is_time}
use Rattle.policy_json.specs.Labels.{labels_faults, labels_in}
use Rattle.manifest_json.specs.declared.items.TheConstants.{METADATA, SPEC}
use Rattle.manifest_json.specs.declared.metadata.Names.{Names}
use Rattle.manifest_json.specs.declared.metadata.PeerMetadata.{PeerMetadata}
use Rattle.manifest_json.specs.declared.metadata.PodMetadata.{PodMetadata}
use Rattle.manifest_json.specs.declared.metadata.TheConstants.{NAME, NAMESPACE, LABELS, CREATION_TIMESTAMP, ANNOTATIONS, DRY_RUN, TRUE_WORD}

-- ---- the name and the namespace, which every kind has

-- a DNS subdomain (RFC 1123, section 2.1)
abbrev pub name_faults : Check
name_faults = tested is_subdomain reason.BadName

-- a DNS label
abbrev pub namespace_faults : Check
namespace_faults = tested is_label reason.BadName

-- both of them
unfoldable pub names_faults : Check
names_faults = required NAME.now name_faults ⨾ optional NAMESPACE.now namespace_faults

unfoldable pub names_in : Data → Names
names_in d = record {
  name = required_in NAME.now text_in d;
  namespace = unwrap_or (optional_in NAMESPACE.now text_in d) DEFAULT_NAMESPACE.now;
}

-- ---- the whole, kind by kind

-- a Service and a RequestAuthentication: names alone
unfoldable pub plain_metadata_faults : Check
plain_metadata_faults = open_object names_faults

-- a Pod: its labels too
unfoldable pub pod_metadata_faults : Check
pod_metadata_faults = open_object (names_faults ⨾ or_empty LABELS.now labels_faults)

unfoldable pub pod_metadata_in : Data → PodMetadata
pod_metadata_in d = record {
  names = names_in d;
  labels = or_empty_in LABELS.now labels_in d;
}

-- a PeerAuthentication: the time at which it was made
unfoldable pub is_timestamp : List ℕ → Bool
is_timestamp t = is_time t

abbrev pub time_faults : Check
time_faults = tested is_timestamp reason.BadTime

unfoldable pub peer_metadata_faults : Check
peer_metadata_faults = open_object (names_faults ⨾ optional CREATION_TIMESTAMP.now time_faults)

unfoldable pub peer_metadata_in : Data → PeerMetadata
peer_metadata_in d = record {
  names = names_in d;
  age = optional_in CREATION_TIMESTAMP.now text_in d;
}

-- the text `true`
unfoldable pub is_true_word : Data → Bool
is_true_word d = bytes_eq (text_in d) TRUE_WORD.now

-- an AuthorizationPolicy: no annotation that makes it a dry run. Of that one the text `true` alone counts
unfoldable pub dry_run_faults : Check
dry_run_faults = demands (λ d. not (is_true_word d)) reason.DryRun

unfoldable pub annotations_faults : Check
annotations_faults = open_object (optional DRY_RUN.now dry_run_faults)

unfoldable pub authorization_metadata_faults : Check
authorization_metadata_faults = open_object (names_faults ⨾ or_empty ANNOTATIONS.now annotations_faults)

-- ---- the item around it

-- the metadata, and then a `spec`; one that is not there is the empty object
abbrev pub item_with : Check → Check → Check
item_with metadata spec = open_object (required METADATA.now metadata ⨾ or_empty SPEC.now spec)
