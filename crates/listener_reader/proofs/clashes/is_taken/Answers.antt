-- With no names one kind is looked up, else those of the names.
use Rattle.std.proofs.Common.{Some, ap, sym, ◌∙◌}
use Rattle.std.specs.List.{list_any}
use Rattle.listener_reader.proofs.LookedUp.{named-kinds, sole-kind}
use Rattle.listener_reader.specs.Targets.{has, kind_of}
use Rattle.listener_reader.proofs.clashes.is_taken.Goals as goal

pub returns-then-is_empty : goal.returns-then-is_empty
returns-then-is_empty c =
    c.has.ensures ∙ ap (λ kind. has c.args.kinds.now kind) c.key_of.ensures
    ∙ sym (sole-kind (λ kind. has c.args.kinds.now kind) c.args.matching.now (sym c.is_empty.ensures ∙ c.if-is_empty.true))

pub returns : goal.returns
returns c =
    c.has_one.ensures
    ∙ ap (λ names. list_any (λ n. has c.args.kinds.now (kind_of c.args.matching.now (Some n))) names) c.deref.ensures
    ∙ sym (named-kinds (λ kind. has c.args.kinds.now kind) c.args.matching.now (sym c.is_empty.ensures ∙ c.if-is_empty.false))
