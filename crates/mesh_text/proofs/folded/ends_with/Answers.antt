use Rattle.mesh_text.proofs.PartsLemmas.{lower_end, too_long_suffix}
use Rattle.mesh_text.proofs.folded.ends_with.Goals as goal

pub returns-then-whole-end : goal.returns-then-whole-end
returns-then-whole-end c = too_long_suffix c.args.end.now c.args.whole.now c.if-whole-end.true

pub returns : goal.returns
returns c = lower_end c.equal.result c.args.end.now c.args.whole.now c.if-whole-end.false c.equal.ensures
