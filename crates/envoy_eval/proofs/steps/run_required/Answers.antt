use Rattle.std.proofs.Common.{◌∙◌, if◌then◌else◌, ap, refl}
use Rattle.envoy_types.specs.Run.{goes_on, unauthenticated}
use Rattle.envoy_eval.proofs.Verdicts.{held, not_held}
use Rattle.envoy_eval.proofs.steps.run_required.Goals as goal

pub returns-in-Some-clause-step : goal.returns-in-Some-clause-step
returns-in-Some-clause-step c names =
    held c.args.jwt.now c.args.requirement.now c.args.case.now c.args.now names c.in-Some.at
    c.in-Some.ensures _ refl c.with_verdict.ensures.state c.with_verdict.ensures.audited

pub returns-in-None-clause-step : goal.returns-in-None-clause-step
returns-in-None-clause-step c names =
    not_held c.args.jwt.now c.args.requirement.now c.args.case.now c.args.now names
    c.in-None.ensures _ (c.without_verdict.ensures ∙ ap (λ missing. if missing then goes_on else unauthenticated) c.may_miss.ensures)
    refl
