-- With no names one kind is put in, else those of the names.
use Rattle.std.proofs.Common.{sym, ◌∙◌}
use Rattle.std.proofs.lemmas.Result.{on_ok_weaker}
use Rattle.listener_reader.proofs.KindSets.{kinds-more, one-kind-more}
use Rattle.listener_reader.proofs.clashes.keep.Goals as goal

pub returns-then-is_empty : goal.returns-then-is_empty
returns-then-is_empty c =
    on_ok_weaker c.put.result
    (one-kind-more c.args.kinds.now c.put.new.kinds c.args.matching.now c.key_of.result (sym c.is_empty.ensures ∙ c.if-is_empty.true)
    c.key_of.ensures)
    c.put.ensures

pub returns : goal.returns
returns c =
    on_ok_weaker c.put_all.result
    (kinds-more c.args.kinds.now c.put_all.new.kinds c.args.matching.now c.deref.result.now c.deref.ensures
    (sym c.is_empty.ensures ∙ c.if-is_empty.false))
    c.put_all.ensures
