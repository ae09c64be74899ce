-- An input that is too long was read without a fault; the bytes of any other are those that were read.
use Rattle.std.proofs.Common.{ℕ, List, Err, string_bytes, subst, ap, ◌∙◌}
use Rattle.mesh_cli.specs.Headline.{EnforcesFor}
use Rattle.mesh_cli.proofs.Inputs.{too-long, same-bytes, stops-input}
use Rattle.mesh_cli.proofs.program.answer_input.Goals as goal

pub returns-in-Err-TooLong-clause-err : goal.returns-in-Err-TooLong-clause-err
returns-in-Err-TooLong-clause-err g c =
    stops-input _ _ _ _ c.refuse.result c.from.result c.from.ensures c.refuse.ensures
    (too-long c.args.command.now (g.I.Source.known c.args.input.now) (g.I.Source.known c.read_all.new.src)
    (c.in-Err-TooLong.ensures.too_long (ap (λ e. Err e) c.in-Err-TooLong.field-0-is))
    (c.in-Err-TooLong.ensures.faultless (λ fault. let known = c.in-Err-TooLong.field-0-is in cc)))

pub returns-clause-enforces : goal.returns-clause-enforces
returns-clause-enforces g c = λ bytes told.
    let P : List ℕ → Type 0 = λ all. EnforcesFor c.args.command.now all (string_bytes c.in_ok-respond.field-0) in
    let old = g.I.Source.known c.args.input.now in
    let new = g.I.Source.known c.read_all.new.src in
    subst P (c.as_slice.ensures.value
    ∙ same-bytes old.left new.left c.in-Ok.bytes.items bytes told c.in-Ok.ensures.bytes.0 c.in-Ok.ensures.bytes.1)
    c.in_ok-respond.ensures.enforces
