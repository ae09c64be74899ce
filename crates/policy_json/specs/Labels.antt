-- Labels, and the selector that asks for them (Istio reference, WorkloadSelector; Kubernetes, "Labels and Selectors").
use Rattle.std.specs.Prelude.{ℕ, List, [], ◌∷◌, unwrap_or}
use Rattle.serde_json.specs.Data.{Data}
use Rattle.mesh_doc.specs.Faults.{Check}
use Rattle.mesh_doc.specs.Fields.{strict, optional, optional_in}
use Rattle.mesh_doc.specs.Kinds.{text_faults, text_in}
use Rattle.mesh_doc.specs.Maps.{map_of, map_in}
use Rattle.mesh_policy.specs.declared.pod.Label.{Label}
use Rattle.policy_json.specs.declared.labels.TheConstants.{MATCH_LABELS}

-- a label: its key, and a text
unfoldable pub label_faults : List ℕ → Check
label_faults key = text_faults

-- the label of the key and the text
unfoldable pub label_in : List ℕ → Data → Label
label_in key d = record { key = key; value = text_in d }

-- labels: an object of texts
unfoldable pub labels_faults : Check
labels_faults = map_of label_faults

-- the labels of the object, each key once
unfoldable pub labels_in : Data → List Label
labels_in = map_in label_in

-- WorkloadSelector: the labels in `matchLabels`
unfoldable pub selector_faults : Check
selector_faults = strict (MATCH_LABELS.now ∷ []) (optional MATCH_LABELS.now labels_faults)

-- the labels that the selector asks for: none where it has no `matchLabels`
unfoldable pub selector_in : Data → List Label
selector_in d = unwrap_or (optional_in MATCH_LABELS.now labels_in d) []
