-- What the evaluator knows of what stands before and behind a filter.
use Rattle.std.specs.Prelude.{◌≡◌}
use Rattle.mesh_policy.specs.declared.case.Case.{Case}
use Rattle.envoy_types.specs.Run as run
use Rattle.envoy_types.specs.Run.{Names, RunState}
use Rattle.envoy_types.specs.State.{seen_of}
use Rattle.envoy_eval.specs.declared.steps.Decision.{Decision}
use Rattle.envoy_eval.specs.declared.steps.Decision.TheVariants.{GoesOn, Unauthenticated, Refuses}
use Rattle.envoy_eval.specs.declared.steps.FilterStep.{FilterStep}
use Rattle.envoy_eval.specs.declared.steps.Standing.{Standing}

-- the decision as the meaning has it
abbrev pub decision_of : Decision → run.Decision
decision_of GoesOn = run.goes_on
decision_of Unauthenticated = run.unauthenticated
decision_of Refuses = run.refuses

-- what stands, with the names that shadow rules have told
abbrev pub standing : Case → Standing → Names → RunState
standing case now names = record { seen = seen_of case now.state; audited = now.audited; names = names }

-- all that stands but the names is this
pub record Stands (case : Case) (now : Standing) (meant : RunState) : Type 0 where
  pub seen : seen_of case now.state ≡ meant.seen
  pub audited : now.audited ≡ meant.audited

-- a filter decides this, and leaves this
pub record StepIs (case : Case) (ran : FilterStep) (meant : run.Step) : Type 0 where
  pub decision : decision_of ran.decision ≡ meant.decision
  pub stands : Stands case ran.after meant.state
