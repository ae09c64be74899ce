-- What is looked up of a Pod.
use Rattle.std.specs.Prelude.{◌≡◌, ℕ, List, [], find}
use Rattle.std.specs.BTreeMap.{BTreeMap, get_by}
use Rattle.std.specs.BTreeSet.{BTreeSet, insert_key}
use Rattle.std.specs.Cmp.Lexicographic.{slice_cmp}
use Rattle.std.specs.List.{fold}
use Rattle.std.specs.Option.{option_map}
use Rattle.std.specs.Ordering.{nat_cmp, on, then_cmp}
use Rattle.std.specs.Str.{bytes_eq}
use Rattle.std.specs.declared.cmp.Ordering.{Ordering}
use Rattle.mesh_policy.specs.Lists.{text_cmp}
use Rattle.mesh_policy.specs.declared.pod.Label.{Label}
use Rattle.mesh_policy.specs.declared.pod.NamedPort.{NamedPort}
use Rattle.mesh_policy.specs.declared.pod.Pod.{Pod}
use denote.Ref.{Bor}

-- by key, then by value, in byte order
abbrev pub label_cmp : Label → Label → Ordering
label_cmp = then_cmp (on (λ label. label.key) (slice_cmp nat_cmp)) (on (λ label. label.value) (slice_cmp nat_cmp))

-- the labels, each once
abbrev pub inserted : List Label → List Label
inserted labels = fold (insert_key label_cmp) [] labels

-- a label is found where it is one of these
abbrev pub HasLabelsOf : BTreeSet Label → Pod → Type 0
HasLabelsOf found pod = found.keys ≡ inserted pod.labels

-- under each name the port of the first entry of that name
abbrev pub HasPorts : BTreeMap (Bor (List ℕ)) ℕ → List NamedPort → Type 0
HasPorts found ports =
    (name : List ℕ) → get_by (λ key. text_cmp name key.now) found
    ≡ option_map (λ entry. entry.port) (find (λ entry. bytes_eq entry.name name) ports)

-- the container ports of the Pod by name (Kubernetes API reference, Container: `ports`)
abbrev pub HasPortsOf : BTreeMap (Bor (List ℕ)) ℕ → Pod → Type 0
HasPortsOf found pod = HasPorts found pod.ports
