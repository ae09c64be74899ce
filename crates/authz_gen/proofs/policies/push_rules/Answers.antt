-- A rule that has a policy is taken in, and any other passed over.
use Rattle.std.proofs.Common.{◌∙◌}
use Rattle.authz_gen.proofs.Kept.{passed-on, taken-in}
use Rattle.authz_gen.proofs.policies.push_rules.Goals as goal
use Rattle.authz_gen.proofs.policies.push_rules.Goals.{then-has_policy+in_ok-rule_policy+in_ok-push, else-has_policy}

pub loop-index-preserved : goal.loop-index-preserved
loop-index-preserved c =
    elim c.if-has_policy.branch [
      | then-has_policy+in_ok-rule_policy+in_ok-push w ↦
          taken-in c.args.protocol c.args.policy.now c.deref-rule-items.result.now c.deref-rule-items.ensures c.loop-index.index
          c.rule-item.result c.loop-index-test.true c.rule-item.is c.has_policy.result (c.has_policy.ensures c.loop-index.index)
          c.loop-index.found _ c.loop-index.invariant
          c.if-has_policy.found _ w.if-has_policy.true w.in_ok-rule_policy.ensures (w.found-is ∙ w.in_ok-push.ensures.ok)
      | else-has_policy w ↦
          passed-on c.args.protocol c.args.policy.now c.deref-rule-items.result.now c.deref-rule-items.ensures c.loop-index.index
          c.rule-item.result c.loop-index-test.true c.rule-item.is c.has_policy.result (c.has_policy.ensures c.loop-index.index)
          c.loop-index.found _ c.loop-index.invariant
          c.if-has_policy.found w.if-has_policy.false w.found-is
    ]
