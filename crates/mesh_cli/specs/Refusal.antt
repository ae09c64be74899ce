-- What a command answers: its text, or the refusal of its input with the line of the notes.
use Rattle.std.specs.Prelude.{ℕ, ◌≡◌, List, [], ◌∷◌, ◌++◌, codes}
use Rattle.mesh_text.specs.Bytes as byte
use Rattle.mesh_doc.specs.Printed.{fault_text}
use Rattle.mesh_doc.specs.declared.fault.Fault.{Fault}
use Rattle.mesh_cli.specs.declared.refusal.Stop.{Stop}
use Rattle.mesh_cli.specs.declared.refusal.Stop.TheVariants as stop

-- the text without its newline; or the line of the notes
pub data Answer : Type 0 where
  writes : List ℕ → Answer
  refuses : List ℕ → Answer

abbrev pub newline : List ℕ
newline = byte.newline ∷ []

-- `refused: PLACE: REASON`
abbrev pub refusal_line : List ℕ → List ℕ
refusal_line told = codes "refused: " ++ told ++ newline

abbrev pub refuses_at : List ℕ → List ℕ → Answer
refuses_at place reason = refuses (refusal_line (place ++ codes ": " ++ reason))

abbrev pub refuses_fault : Fault → Answer
refuses_fault fault = refuses (refusal_line (fault_text fault))

-- the input as a whole
abbrev pub whole_input : List ℕ
whole_input = codes "input"

-- why there is no text
abbrev pub Stops : Stop → Answer → Type 0
Stops (stop.Refused line) answer = answer ≡ refuses line
Stops stop.Memory answer = Unit {0}
