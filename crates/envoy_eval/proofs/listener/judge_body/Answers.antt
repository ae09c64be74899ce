use Rattle.std.proofs.Common.{◌∙◌, List, ap, sym}
use Rattle.envoy_types.specs.ListenerVerdict.{body_verdict}
use Rattle.envoy_types.specs.declared.chains.ChainBody.{ChainBody}
use Rattle.envoy_types.specs.declared.chains.ChainBody.TheVariants.{Http}
use Rattle.envoy_types.specs.declared.chains.HttpFilter.{HttpFilter}
use Rattle.envoy_eval.proofs.listener.judge_body.Goals as goal

pub returns-in-Http-clause-verdict : goal.returns-in-Http-clause-verdict
returns-in-Http-clause-verdict c =
    c.judge_http.ensures.verdict c.in-Http.cluster
    ∙ ap (λ (filters : List HttpFilter). body_verdict c.args.mutual_tls (Http filters c.in-Http.cluster) c.args.case.now)
    c.as_slice-in-Http.ensures
    ∙ ap (λ (body : ChainBody). body_verdict c.args.mutual_tls body c.args.case.now) (sym c.in-Http.is)
