use Rattle.std.proofs.Common.{◌∙◌, ap}
use Rattle.envoy_types.specs.Access.{Rules}
use Rattle.envoy_types.specs.State.{seen_of}
use Rattle.envoy_eval.proofs.Held.{effective-by}
use Rattle.envoy_eval.proofs.access.effective.Goals as goal

pub returns : goal.returns
returns c =
    effective-by c.args.rules.now c.args.case.now (seen_of c.args.case.now c.args.state.now) c.deref.result.now c.first_held.result
    (c.deref.ensures ∙ ap (λ (r : Rules). r.policies) c.rules.view_is) c.first_held.ensures
