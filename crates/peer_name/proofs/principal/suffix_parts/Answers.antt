use Rattle.peer_name.specs.Principal.{all_but_shorter}
use Rattle.peer_name.proofs.SuffixParts.{one-more}
use Rattle.peer_name.proofs.principal.suffix_parts.Goals as goal

pub loop-end-preserved : goal.loop-end-preserved
loop-end-preserved c = one-more (all_but_shorter c.args.suffix.now) _ c.loop-end.end-index _ _ _ _
    c.loop-end-test.true c.loop-end.invariant c.in_ok-push_but_shorter.ensures
