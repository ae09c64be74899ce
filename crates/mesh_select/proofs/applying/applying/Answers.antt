use Rattle.std.proofs.Common.{◌∙◌, sym}
use Rattle.mesh_policy.specs.Applying.{applies}
use Rattle.mesh_select.proofs.Order.{applying-placed}
use Rattle.mesh_select.proofs.applying.applying.Goals as goal

pub returns : goal.returns
returns g c =
    c.in_ok-list.ensures ∙ c.in_ok-found.ensures
    ∙ sym (applying-placed g.P.Paired.pair (λ p. applies c.args.root.now c.args.pod.now (g.P.Paired.pair p).0 (g.P.Policy.selector p)) c.args.policies.now c.requires)
