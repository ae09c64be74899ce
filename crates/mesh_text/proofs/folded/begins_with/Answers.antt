use Rattle.std.proofs.Common.{rules}
use Rattle.mesh_text.proofs.PartsLemmas.{lower_prefix, too_long_prefix}
use Rattle.mesh_text.proofs.folded.begins_with.Goals as goal

pub returns-then-whole-front : goal.returns-then-whole-front
returns-then-whole-front c = too_long_prefix c.args.front.now c.args.whole.now c.if-whole-front.true

pub returns : goal.returns
returns c = let same = lower_prefix c.args.front.now c.args.whole.now c.if-whole-front.false in rw (← same) (search rules)
