-- What is known of an input by what was read of it.
use Rattle.std.proofs.Common.{◌≡◌, ℕ, ◌+◌, ◌<◌, Bool, cond, List, ◌++◌, length, Option, Some, None, IfSome, sym, subst, ◌∙◌, ap, arith}
use Rattle.std.proofs.lemmas.Bool.{lt-ltb}
use Rattle.std.proofs.lemmas.List.{append-nil, length-append}
use Rattle.std.specs.Io.KnownBytes.{Consumes, IsAtEnd}
use Rattle.mesh_edge.specs.Source.{KnownSource, NoReadFault, TakesCount}
use Rattle.mesh_cli.specs.declared.words.Command.{Command}
use Rattle.mesh_cli.specs.Answer.{answer_of, answer_to, document_of, max_input, too_long}
use Rattle.mesh_cli.specs.declared.program.InputStop.{InputStop}
use Rattle.mesh_cli.specs.declared.refusal.Stop.{Stop}
use Rattle.mesh_cli.specs.declared.refusal.Stop.TheVariants as no_text
use Rattle.mesh_cli.specs.Program.{Answers, StopsInput, input_stop_of}
use Rattle.mesh_cli.specs.Refusal.{Answer, Stops}

long : (command : Command) (bytes : List ℕ) → max_input < length bytes → answer_of command bytes ≡ too_long
unfolding answer_of
long command bytes h = ap (λ (above : Bool). cond above too_long (answer_to command (document_of bytes)))
    (lt-ltb max_input (length bytes) h)

whole-long : (command : Command) (left left' : Option (List ℕ)) (bytes : List ℕ) → Consumes left left' bytes → max_input < length bytes
    → IfSome left (λ all. answer_of command all ≡ too_long)
whole-long command None left' bytes taken h = tt
whole-long command (Some all) None bytes taken h = absurd taken
whole-long command (Some all) (Some rest) bytes taken h =
    let more : max_input < length all = omega (arith, ap length taken, length-append bytes rest) in
    long command all more

-- more than the limit was left
pub too-long : (command : Command) (old new : KnownSource) → TakesCount old new (max_input + 1) → NoReadFault old new
    → Answers command old new too_long
too-long command old new (bytes, taken, count) faultless =
    let above : max_input < length bytes = omega arith in
    record {
      bytes = bytes;
      taken = taken;
      gives = long command bytes above;
      whole = whole-long command old.left new.left bytes taken above;
      faultless = faultless;
    }

-- the bytes that are told are those that were read to the end
pub same-bytes : (left left' : Option (List ℕ)) (read bytes : List ℕ) → left ≡ Some bytes → Consumes left left' read
    → IsAtEnd left' → read ≡ bytes
same-bytes None left' read bytes told taken end = cc
same-bytes (Some all) None read bytes told taken end = absurd taken
same-bytes (Some all) (Some rest) read bytes told taken end =
    let same : all ≡ bytes = cc in
    sym (append-nil read) ∙ ap (λ (xs : List ℕ). read ++ xs) (sym end) ∙ sym taken ∙ same

-- the input gives no text for the reason that its answer is a refusal, or for want of memory
pub stops-input : (command : Command) (old new : KnownSource) (answer : Answer) (reason : Stop) (why : InputStop)
    → why ≡ input_stop_of reason → Stops reason answer → Answers command old new answer → StopsInput command old new why
stops-input command old new answer (no_text.Refused line) why same stops answers =
    let P : InputStop → Type 0 = StopsInput command old new in
    let Q : Answer → Type 0 = Answers command old new in
    subst P (sym same) (subst Q stops answers)
stops-input command old new answer no_text.Memory why same stops answers =
    let P : InputStop → Type 0 = StopsInput command old new in
    subst P (sym same) (answers.faultless, (answers.bytes, answers.taken))
