-- An input that a command answers with a text is not refused, and that text is the one.
use Rattle.std.proofs.Common.{◌≡◌, ℕ, ◌<◌, ◌≤◌, Bool, true, false, cond, List, length, nat_lt, Option, Some, None, IfSome}
use Rattle.std.proofs.Common.{refl, sym, subst, ◌∙◌, ap, arith}
use Rattle.std.proofs.lemmas.Bool.{ltb-true}
use Rattle.std.specs.Option.{option_map}
use Rattle.mesh_edge.specs.Source.{KnownSource}
use Rattle.manifest_json.specs.Document.{bundle_in}
use Rattle.mesh_policy.specs.Workload.{workload_of}
use Rattle.mesh_cli.specs.declared.words.Command.{Command}
use Rattle.mesh_cli.specs.declared.words.Command.TheVariants.{Translate}
use Rattle.mesh_cli.specs.Answer.{too_long, answer_of, answer_to, answer_unless, answer_with, answer_for, translation}
use Rattle.mesh_cli.specs.Answer.{workload_named, document_of, max_input}
use Rattle.mesh_cli.specs.Headline.{Accepted}
use Rattle.mesh_cli.specs.PodName.{PodName}
use Rattle.mesh_cli.specs.Program.{Answers, IsAccepted, IsAnswered}
use Rattle.mesh_cli.specs.Refusal.{Answer, writes, refuses}
use Rattle.mesh_cli.specs.Text.{listener_text}
use Rattle.mesh_cli.specs.Words.{command_of}
use Rattle.mesh_cli.proofs.Options.{some-same}

of-told : (P : List ℕ → Type 0) (left : Option (List ℕ)) (bytes : List ℕ) → left ≡ Some bytes → IfSome left P → P bytes
of-told P None bytes told h = cc
of-told P (Some all) bytes told h = subst P (some-same all bytes told) h

-- what was answered is what the bytes that are told have as their answer
same-answer : (words : List (List ℕ)) (old new : KnownSource) (given asked : Command) (bytes : List ℕ) (answer : Answer)
    → command_of words ≡ Some given → Answers given old new answer
    → command_of words ≡ Some asked → old.left ≡ Some bytes → answer_of asked bytes ≡ answer
same-answer words old new given asked bytes answer command answers also told =
    let same : given ≡ asked = some-same given asked (sym command ∙ also) in
    let P : Command → Type 0 = λ c. answer_of c bytes ≡ answer in
    let Q : List ℕ → Type 0 = λ all. answer_of given all ≡ answer in
    subst P same (of-told Q old.left bytes told answers.whole)

-- an input that is answered with a text has no other answer
pub sole-text : (words : List (List ℕ)) (old new : KnownSource) (given : Command) (text written : List ℕ)
    → command_of words ≡ Some given → Answers given old new (writes written) → IsAnswered words old text → written ≡ text
sole-text words old new given text written command answers asked =
    let same : writes written ≡ writes text =
    sym (same-answer words old new given asked.command asked.bytes (writes written) command answers asked.given asked.told)
    ∙ asked.answer in
    cc

-- and is not refused
pub no-refusal : (words : List (List ℕ)) (old new : KnownSource) (given : Command) (line text : List ℕ)
    → command_of words ≡ Some given → Answers given old new (refuses line) → IsAnswered words old text → ⊥
no-refusal words old new given line text command answers asked =
    let same : refuses line ≡ writes text =
    sym (same-answer words old new given asked.command asked.bytes (refuses line) command answers asked.given asked.told) ∙ asked.answer in
    cc

-- manifests that a listener is built of, with the Pod that is named, are answered with a text
accepted-writes : (name : PodName) (bytes : List ℕ) → length bytes ≤ max_input → (accepted : Accepted name bytes)
    → answer_of (Translate name) bytes ≡ writes (listener_text (workload_of (bundle_in accepted.document) accepted.pod))
unfolding answer_of translation
accepted-writes name bytes fits accepted = at (nat_lt max_input (length bytes)) refl where
  at : (above : Bool) → nat_lt max_input (length bytes) ≡ above
      → cond above too_long (answer_to (Translate name) (document_of bytes))
      ≡ writes (listener_text (workload_of (bundle_in accepted.document) accepted.pod))
  at true e = let more : max_input < length bytes = ltb-true max_input (length bytes) e in absurd (omega arith)
  at false e = ap (answer_to (Translate name)) accepted.reads
      ∙ ap (λ fault. answer_unless fault (answer_with (Translate name) accepted.document (bundle_in accepted.document))) accepted.faultless
      ∙ ap (translation name (bundle_in accepted.document)) accepted.buildable
      ∙ ap (λ reason. answer_for name reason (workload_named name (bundle_in accepted.document))) accepted.selected
      ∙ ap (λ pod. answer_for name None (option_map (workload_of (bundle_in accepted.document)) pod)) accepted.named

pub accepted-answered : (words : List (List ℕ)) (input : KnownSource) → (asked : IsAccepted words input)
    → IsAnswered words input (listener_text (workload_of (bundle_in asked.accepted.document) asked.accepted.pod))
accepted-answered words input asked = record {
  command = Translate asked.name;
  given = asked.given;
  bytes = asked.bytes;
  told = asked.told;
  answer = accepted-writes asked.name asked.bytes asked.fits asked.accepted;
}
