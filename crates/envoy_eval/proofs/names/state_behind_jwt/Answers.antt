use Rattle.envoy_eval.proofs.Runs.{jwt-after}
use Rattle.envoy_eval.proofs.names.state_behind_jwt.Goals as goal
use Rattle.std.proofs.Common.{false}

pub returns : goal.returns
returns c before e =
    jwt-after c.args.jwt.now c.args.case.now (record { state = c.args.state; audited = false }) before
    c.run_jwt.result e c.run_jwt.ensures.step
