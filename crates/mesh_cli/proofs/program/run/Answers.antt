-- The headline where the input is answered: it isn't refused, and the text enforces the policies.
use Rattle.std.proofs.Common.{◌≡◌, ℕ, List, ◌++◌, Some, map, string_bytes, subst, sym, ◌∙◌}
use Rattle.mesh_edge.specs.Sink.{Adds}
use Rattle.mesh_cli.specs.Refusal.{newline}
use Rattle.mesh_cli.specs.Words.{command_of}
use Rattle.mesh_cli.proofs.Options.{some-same}
use Rattle.mesh_cli.proofs.Served.{no-refusal, accepted-answered}
use Rattle.mesh_cli.proofs.program.run.Goals as goal

pub returns-in-Err-Refused-clause-headline : goal.returns-in-Err-Refused-clause-headline
returns-in-Err-Refused-clause-headline g c = λ asked.
    let command : command_of (map string_bytes c.args.words.now.items) ≡ Some c.in-Some.command =
    rw (← c.as_slice.ensures.value) (sym c.in-Some.ensures) in
    no-refusal (map string_bytes c.args.words.now.items) (g.I.Source.known c.args.input.now) (g.I.Source.known c.answer_input.new.input)
    c.in-Some.command c.in-Err-Refused.line _ command (rw c.in-Err-Refused.field-0-is at c.in-Err-Refused.ensures.err)
    (accepted-answered _ _ asked)

pub returns-in-Ok-deliver-clause-headline : goal.returns-in-Ok-deliver-clause-headline
returns-in-Ok-deliver-clause-headline g c = λ asked.
    let command : command_of (map string_bytes c.args.words.now.items) ≡ Some c.in-Some.command =
    rw (← c.as_slice.ensures.value) (sym c.in-Some.ensures) in
    let Q : List ℕ → Type 0 = λ text. Adds (g.O.Sink.known c.args.output.now) (g.O.Sink.known c.deliver.new.output) (text ++ newline) in
    record {
      text = string_bytes c.in-Ok.text;
      delivers = record {
        written = subst Q c.as_str-2.ensures.value c.in-Ok-deliver.ensures.written;
        flushed = c.in-Ok-deliver.ensures.flushed;
        at_end = c.in-Ok.ensures.at_end;
      };
      enforces = c.in-Ok.ensures.enforces asked.bytes asked.told asked.name (some-same _ _ (sym command ∙ asked.given)) asked.accepted;
    }
