-- One name more is there.
use Rattle.std.proofs.Common.{◌||◌, Some, ap, ◌∙◌}
use Rattle.listener_reader.proofs.KindSets.{one-name-more}
use Rattle.listener_reader.specs.Targets.{has, kind_of, same}
use Rattle.listener_reader.proofs.clashes.put_all.Goals as goal

pub loop-name-preserved : goal.loop-name-preserved
loop-name-preserved c =
    one-name-more c.args.kinds.now c.loop-name.kinds c.put.new.kinds (λ n. kind_of c.args.matching.now (Some n)) c.args.names.now
    c.loop-name.name-index c.name-item.result c.loop-name-test.true c.name-item.is c.loop-name.invariant
    (λ kind. c.in_ok-put.ensures kind
    ∙ ap (λ k. has c.loop-name.kinds kind || same k kind)
    (c.key_of.ensures ∙ ap (λ n. kind_of c.args.matching.now (Some n)) c.as_str.ensures))
