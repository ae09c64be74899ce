-- What a run has done where it ends with each status, and which runs are done.
use Rattle.std.specs.Prelude.{◌≡◌, ℕ, ◌<◌, ◌≤◌, List, ◌++◌, length, Some, None, IfSome}
use Rattle.mesh_edge.specs.Sink.{KnownSink, Adds, AddsFront, IsFlushed, NoWriteFault, WriteFaulted}
use Rattle.mesh_edge.specs.Source.{KnownSource, IsSpent, NoReadFault, ReadFaulted, Takes, TakesSome}
use Rattle.mesh_policy.specs.Workload.{Workload, workload_of}
use Rattle.manifest_json.specs.Document.{bundle_in}
use Rattle.mesh_cli.specs.declared.refusal.Status.{Status}
use Rattle.mesh_cli.specs.declared.refusal.Status.TheVariants as status
use Rattle.mesh_cli.specs.declared.refusal.Stop.{Stop}
use Rattle.mesh_cli.specs.declared.refusal.Stop.TheVariants as no_text
use Rattle.mesh_cli.specs.declared.program.InputStop.{InputStop}
use Rattle.mesh_cli.specs.declared.program.InputStop.TheVariants as stop
use Rattle.mesh_cli.specs.declared.words.Command.{Command}
use Rattle.mesh_cli.specs.declared.words.Command.TheVariants.{Translate}
use Rattle.mesh_cli.specs.Answer.{answer_of, max_input}
use Rattle.mesh_cli.specs.Headline.{Accepted, Enforces}
use Rattle.mesh_cli.specs.Notes.{Notes, usage_line, read_fault_line, write_fault_line, memory_line}
use Rattle.mesh_cli.specs.PodName.{PodName}
use Rattle.mesh_cli.specs.Refusal.{Answer, writes, refuses, newline}
use Rattle.mesh_cli.specs.Streams.{Streams}
use Rattle.mesh_cli.specs.Words.{command_of}

-- ---- the parts of a run

-- the input was read without a fault, and has that answer
pub record Answers (command : Command) (old new : KnownSource) (answer : Answer) : Type 0 where
  -- the bytes that were read
  pub bytes : List ℕ
  pub taken : Takes old new bytes
  pub gives : answer_of command bytes ≡ answer
  -- all bytes that were left have the same answer
  pub whole : IfSome old.left (λ all. answer_of command all ≡ answer)
  pub faultless : NoReadFault old new

-- why the input gives no text
abbrev pub StopsInput : Command → KnownSource → KnownSource → InputStop → Type 0
StopsInput command old new stop.ReadFault = ReadFaulted old new × TakesSome old new
StopsInput command old new (stop.Refused line) = Answers command old new (refuses line)
StopsInput command old new stop.Memory = NoReadFault old new × TakesSome old new

-- the same reason, of the input
abbrev pub input_stop_of : Stop → InputStop
input_stop_of (no_text.Refused line) = stop.Refused line
input_stop_of no_text.Memory = stop.Memory

-- the count of faults rose, and a front of the bytes was taken; all of them before a flush was tried
pub record BreaksOff (bytes : List ℕ) (old new : KnownSink) : Type 0 where
  pub rose : WriteFaulted old new
  pub front : AddsFront old new bytes
  pub flushed_last : old.flushes < new.flushes → Adds old new bytes

-- the text and a newline were written, and nothing else; all of it is flushed, and the input was read to its end
pub record Delivers (text : List ℕ) (old new : Streams) : Type 0 where
  pub written : Adds old.output new.output (text ++ newline)
  pub flushed : IsFlushed new.output
  pub at_end : IsSpent new.input

-- ---- what each status tells

-- the text was delivered, and no stream failed
pub record IsDone (words : List (List ℕ)) (old new : Streams) : Type 0 where
  pub command : Command
  pub given : command_of words ≡ Some command
  pub text : List ℕ
  pub answers : Answers command old.input new.input (writes text)
  pub delivers : Delivers text old new
  pub faultless : NoWriteFault old.output new.output
  pub silent : new.notes ≡ old.notes

-- the input is refused; the output is as it was, and the notes tell the refusal
pub record IsRefused (words : List (List ℕ)) (old new : Streams) : Type 0 where
  pub command : Command
  pub given : command_of words ≡ Some command
  pub line : List ℕ
  pub answers : Answers command old.input new.input (refuses line)
  pub untouched : new.output ≡ old.output
  pub notes : Notes old.notes new.notes line

-- the words are no command; the input and the output are as they were
pub record IsUsage (words : List (List ℕ)) (old new : Streams) : Type 0 where
  pub none : command_of words ≡ None
  pub unread : new.input ≡ old.input
  pub untouched : new.output ≡ old.output
  pub notes : Notes old.notes new.notes usage_line

-- the input's count of faults rose; the output is as it was
pub record IsReadFault (old new : Streams) : Type 0 where
  pub rose : ReadFaulted old.input new.input
  pub front : TakesSome old.input new.input
  pub untouched : new.output ≡ old.output
  pub notes : Notes old.notes new.notes read_fault_line

-- the input is answered with a text; the output's count of faults rose before all of it was written and flushed
pub record IsWriteFault (words : List (List ℕ)) (old new : Streams) : Type 0 where
  pub command : Command
  pub given : command_of words ≡ Some command
  pub text : List ℕ
  pub answers : Answers command old.input new.input (writes text)
  pub at_end : IsSpent new.input
  pub breaks : BreaksOff (text ++ newline) old.output new.output
  pub notes : Notes old.notes new.notes write_fault_line

-- no read failed; the output is as it was
pub record IsMemory (old new : Streams) : Type 0 where
  pub faultless : NoReadFault old.input new.input
  pub front : TakesSome old.input new.input
  pub untouched : new.output ≡ old.output
  pub notes : Notes old.notes new.notes memory_line

abbrev pub Ends : Status → List (List ℕ) → Streams → Streams → Type 0
Ends status.Done words old new = IsDone words old new
Ends status.Refused words old new = IsRefused words old new
Ends status.Words words old new = IsUsage words old new
Ends status.ReadFault words old new = IsReadFault old new
Ends status.WriteFault words old new = IsWriteFault words old new
Ends status.Memory words old new = IsMemory old new

-- ---- which runs are done

-- the run is done and that holds, unless memory, a read or a write failed
abbrev pub Finishes : Status → Streams → Streams → (done : Type 0) → Type 0
Finishes status.Done old new done = done
Finishes status.Memory old new done = Unit {0}
Finishes status.ReadFault old new done = ReadFaulted old.input new.input
Finishes status.WriteFault old new done = WriteFaulted old.output new.output
Finishes status.Refused old new done = ⊥
Finishes status.Words old new done = ⊥

-- the words are a command, and the input tells its bytes, which that command answers with this text
pub record IsAnswered (words : List (List ℕ)) (input : KnownSource) (text : List ℕ) : Type 0 where
  pub command : Command
  pub given : command_of words ≡ Some command
  pub bytes : List ℕ
  pub told : input.left ≡ Some bytes
  pub answer : answer_of command bytes ≡ writes text

-- the words ask for the listener of a Pod, and the input tells its bytes, which spell manifests that a listener is built
-- for; selection accepts the Pod
pub record IsAccepted (words : List (List ℕ)) (input : KnownSource) : Type 0 where
  pub name : PodName
  pub given : command_of words ≡ Some (Translate name)
  pub bytes : List ℕ
  pub told : input.left ≡ Some bytes
  pub fits : length bytes ≤ max_input
  pub accepted : Accepted name bytes

-- that text is delivered
abbrev pub Completes : Status → List ℕ → Streams → Streams → Type 0
Completes status text old new = Finishes status old new (Delivers text old new)

-- one listener was written, which enforces the policies of the workload
pub record WritesListener (workload : Workload) (old new : Streams) : Type 0 where
  pub text : List ℕ
  pub delivers : Delivers text old new
  pub enforces : Enforces workload text

-- one listener is written, which enforces the policies of the Pod that is asked for
abbrev pub Serves : Status → {words : List (List ℕ)} {input : KnownSource} → IsAccepted words input → Streams → Streams → Type 0
Serves status asked old new =
    Finishes status old new (WritesListener (workload_of (bundle_in asked.accepted.document) asked.accepted.pod) old new)
