-- What a command answers to the bytes of its input: the first refusal that holds, or its text.
use Rattle.std.specs.Prelude.{ℕ, List, [], length, Option, Some, None, codes, nat_lt, if◌then◌else◌}
use Rattle.std.specs.Option.{option_map}
use Rattle.std.specs.Str.{is_utf8}
use Rattle.serde_json.specs.Data.{Data}
use Rattle.serde_json.specs.Read.{read}
use Rattle.mesh_doc.specs.Faults.{first}
use Rattle.mesh_doc.specs.Places.{Steps}
use Rattle.mesh_doc.specs.Printed.{shown}
use Rattle.mesh_doc.specs.declared.fault.Fault.{Fault}
use Rattle.mesh_policy.specs.declared.bundle.Bundle.{Bundle}
use Rattle.mesh_policy.specs.SelectFault.{SelectFault, no_workload, pod_named, select_fault}
use Rattle.mesh_policy.specs.Workload.{Workload, workload_of}
use Rattle.manifest_json.specs.Document.{bundle_faults, bundle_in}
use Rattle.kept_back.specs.Manifests.{not_yet}
use Rattle.mesh_cli.specs.declared.words.Command.{Command}
use Rattle.mesh_cli.specs.declared.words.Command.TheVariants.{Translate, Check}
use Rattle.mesh_cli.specs.Counts.{counts_text}
use Rattle.mesh_cli.specs.PodName.{PodName}
use Rattle.mesh_cli.specs.Refusal.{Answer, writes, refuses_at, refuses_fault, whole_input}
use Rattle.mesh_cli.specs.Selection.{refuses_pod}
use Rattle.mesh_cli.specs.Text.{listener_text}

-- the most bytes of an input
abbrev pub max_input : ℕ
max_input = 8388608

-- the value that the bytes are as JSON (RFC 8259): those of a UTF-8 text that `serde_json` reads
unfoldable pub document_of : List ℕ → Option Data
document_of bytes = if is_utf8 bytes then read bytes else None

-- the reason that selection has, or the listener of the workload; without a Pod there is a reason
abbrev pub answer_for : PodName → Option SelectFault → Option Workload → Answer
answer_for name (Some reason) workload = refuses_pod name reason
answer_for name None None = refuses_pod name no_workload
answer_for name None (Some workload) = writes (listener_text workload)

-- the workload of the Pod of that name
abbrev pub workload_named : PodName → Bundle → Option Workload
workload_named name bundle = option_map (workload_of bundle) (pod_named name.namespace name.name bundle)

-- what selection answers for the Pod of that name
abbrev pub selection : PodName → Bundle → Answer
selection name bundle = answer_for name (select_fault bundle name.namespace name.name) (workload_named name bundle)

-- NotYet at the first place that no listener is built for, or what selection answers
unfoldable pub translation : PodName → Bundle → Option Steps → Answer
translation name bundle (Some place) = refuses_at (shown place) (codes "NotYet")
translation name bundle None = selection name bundle

-- of manifests without fault
abbrev pub answer_with : Command → Data → Bundle → Answer
answer_with Check document bundle = writes (counts_text bundle)
answer_with (Translate name) document bundle = translation name bundle (not_yet document)

abbrev pub answer_unless : Option Fault → Answer → Answer
answer_unless (Some fault) answer = refuses_fault fault
answer_unless None answer = answer

abbrev pub answer_to : Command → Option Data → Answer
answer_to command None = refuses_at whole_input (codes "NotJson")
answer_to command (Some document) = answer_unless (first (bundle_faults document [])) (answer_with command document (bundle_in document))

abbrev pub too_long : Answer
too_long = refuses_at whole_input (codes "TooLong")

-- the first refusal that holds, in this order, or the text
unfoldable pub answer_of : Command → List ℕ → Answer
answer_of command bytes = if nat_lt max_input (length bytes) then too_long else answer_to command (document_of bytes)
