-- The bytes have that reading, or none, by what the reader of JSON promises.
use Rattle.std.proofs.Common.{◌≡◌, true, Option, sym, subst}
use Rattle.serde_json.specs.Data.{Data}
use Rattle.mesh_cli.specs.Answer.{answer_to}
use Rattle.mesh_cli.specs.Refusal.{Stops}
use Rattle.mesh_cli.proofs.Readings.{document-read, document-none}
use Rattle.mesh_cli.proofs.answer.read_document.Goals as goal

pub returns-in-Ok-clause-ok : goal.returns-in-Ok-clause-ok
returns-in-Ok-clause-ok c = document-read _ _ c.in-Ok.ensures.ok.0 c.in-Ok.ensures.ok.1

pub returns-else-is_memory-clause-err : goal.returns-else-is_memory-clause-err
returns-else-is_memory-clause-err c = λ asked.
    let P : Option Data → Type 0 = λ reading. Stops c.refuse.result (answer_to asked reading) in
    subst P (sym (document-none c.args.bytes.now (c.in-Err.ensures.err (λ memory. let yes : c.is_memory.result ≡ true =
    c.is_memory.ensures.1 memory in cc)))) c.refuse.ensures
