use Rattle.mesh_text.proofs.TimeLemmas.{not_as_long}
use Rattle.mesh_text.proofs.time.is_like.Goals as goal

pub returns-then-form-s-clause-value : goal.returns-then-form-s-clause-value
returns-then-form-s-clause-value c = not_as_long c.args.form.now c.args.s.now c.if-form-s.true
