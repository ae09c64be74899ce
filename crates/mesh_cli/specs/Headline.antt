-- What it means that a text enforces the policies of a Pod, and that an input was served.
use Rattle.std.specs.Prelude.{◌≡◌, ℕ, List, [], Some, None}
use Rattle.serde_json.specs.Data.{Data}
use Rattle.mesh_doc.specs.Faults.{first}
use Rattle.manifest_json.specs.Document.{bundle_faults, bundle_in}
use Rattle.mesh_policy.specs.declared.pod.Pod.{Pod}
use Rattle.mesh_policy.specs.declared.case.Case.{Case}
use Rattle.mesh_policy.specs.SelectFault.{pod_named, select_fault}
use Rattle.mesh_policy.specs.Verdicts.{verdict_of}
use Rattle.mesh_policy.specs.WellFormedCase.{WellFormedCase}
use Rattle.mesh_policy.specs.Workload.{Workload, workload_of}
use Rattle.envoy_types.specs.declared.chains.Listener.{Listener}
use Rattle.envoy_types.specs.ListenerForms.{Spells}
use Rattle.envoy_types.specs.ListenerVerdict.{envoy_verdict}
use Rattle.kept_back.specs.Manifests.{not_yet}
use Rattle.mesh_cli.specs.declared.words.Command.{Command}
use Rattle.mesh_cli.specs.declared.words.Command.TheVariants.{Translate}
use Rattle.mesh_cli.specs.Answer.{document_of}
use Rattle.mesh_cli.specs.PodName.{PodName}

-- The text is JSON, its value spells one listener and no other, and that listener gives every well-formed connection
-- the verdict of the policies: the outcome and the audit mark.
pub record Enforces (workload : Workload) (text : List ℕ) : Type 0 where
  pub value : Data
  pub reads : document_of text ≡ Some value
  pub listener : Listener
  pub spells : Spells value listener
  pub only : (other : Listener) → Spells value other → other ≡ listener
  pub verdicts : (case : Case) → WellFormedCase case workload.jwt_rules → envoy_verdict listener case ≡ verdict_of workload case

-- The input spells manifests without a fault, which a listener is built for so far, one of their Pods has that name, and
-- selection has no reason against it. The manifests are `bundle_in` of the document.
pub record Accepted (name : PodName) (bytes : List ℕ) : Type 0 where
  pub document : Data
  pub reads : document_of bytes ≡ Some document
  pub faultless : first (bundle_faults document []) ≡ None
  pub buildable : not_yet document ≡ None
  pub pod : Pod
  pub named : pod_named name.namespace name.name (bundle_in document) ≡ Some pod
  pub selected : select_fault (bundle_in document) name.namespace name.name ≡ None

-- The text enforces the policies, where the command asks for the listener of a Pod and the bytes are accepted for it.
abbrev pub EnforcesFor : Command → List ℕ → List ℕ → Type 0
EnforcesFor command bytes text =
    (name : PodName) → command ≡ Translate name → (accepted : Accepted name bytes)
    → Enforces (workload_of (bundle_in accepted.document) accepted.pod) text
