use Rattle.std.proofs.Common.{◌∙◌, ap, sym}
use Rattle.envoy_types.specs.Run as meaning
use Rattle.envoy_types.specs.Run.{Names, Step, name_of}
use Rattle.envoy_eval.specs.Runs.{after, begin}
use Rattle.envoy_eval.proofs.Keys.{name-behind-hit}
use Rattle.envoy_eval.proofs.Runs.{jwt-names, step-from}
use Rattle.envoy_eval.proofs.run.run_filter.Goals as goal

pub returns-in-Jwt-clause-step : goal.returns-in-Jwt-clause-step
returns-in-Jwt-clause-step g c =
    let before = after (g.F.Filter.run c.args.case.now) c.args.before.now (begin c.args.case.now c.args.start) in
    step-from c.args.case.now c.args.now before c.run_jwt.result (meaning.run_jwt c.in-Jwt.jwt.now c.args.case.now) _ c.requires.stands
    (c.in-Jwt.ensures.runs c.args.case.now before) (c.run_jwt.ensures.step before.names)

pub returns-in-Rbac-clause-step : goal.returns-in-Rbac-clause-step
returns-in-Rbac-clause-step g c =
    let before = after (g.F.Filter.run c.args.case.now) c.args.before.now (begin c.args.case.now c.args.start) in
    step-from c.args.case.now c.args.now before c.run_rbac-ran.result (meaning.run_rbac c.in-Rbac.rbac.now c.args.case.now) _
    c.requires.stands
    (c.in-Rbac.ensures.runs c.args.case.now before) (c.run_rbac-ran.ensures.step before.names)

pub returns-in-Jwt-clause-told : goal.returns-in-Jwt-clause-told
returns-in-Jwt-clause-told g c =
    let before = after (g.F.Filter.run c.args.case.now) c.args.before.now (begin c.args.case.now c.args.start) in
    c.requires.told
    ∙ ap (λ (names : Names). name_of c.args.told.key.now names) (sym (jwt-names c.in-Jwt.jwt.now c.args.case.now before))
    ∙ ap (λ (step : Step). name_of c.args.told.key.now step.state.names) (sym (c.in-Jwt.ensures.runs c.args.case.now before))

pub returns-in-Rbac-clause-told : goal.returns-in-Rbac-clause-told
returns-in-Rbac-clause-told g c =
    let before = after (g.F.Filter.run c.args.case.now) c.args.before.now (begin c.args.case.now c.args.start) in
    c.told_behind-told.ensures.name
    ∙ name-behind-hit c.args.told.key.now c.args.at c.in-Rbac.rbac.now c.args.case.now _ before c.run_rbac-ran.result.hits _
    c.run_rbac-ran.ensures.hits c.requires.stands.seen c.requires.told
    ∙ ap (λ (step : Step). name_of c.args.told.key.now step.state.names) (sym (c.in-Rbac.ensures.runs c.args.case.now before))
    ∙ ap (λ key. name_of key (g.F.Filter.run c.args.case.now c.args.filter.now before).state.names) (sym c.told_behind-told.ensures.key)
