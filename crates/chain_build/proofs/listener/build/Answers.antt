-- The listener that is built can be written, and agrees with the policies.
use Rattle.chain_build.proofs.BuiltPrintable.{can-be-written}
use Rattle.chain_build.proofs.Shallow.{shallow-answer, whole-answer}
use Rattle.chain_build.proofs.Verdict.{agrees}
use Rattle.chain_build.proofs.listener.build.Goals as goal

pub returns-clause-printable : goal.returns-clause-printable
returns-clause-printable c = can-be-written c.filters_enforce.ensures.printable c.args.w.now c.limits.ensures c.built.result c.built.ensures

pub returns-clause-verdicts : goal.returns-clause-verdicts
returns-clause-verdicts c = agrees c.filters_enforce.ensures.decide c.args.w.now c.limits.ensures c.requires c.built.result c.built.ensures

pub returns-clause-shallow : goal.returns-clause-shallow
returns-clause-shallow c = shallow-answer c.args.w.now c.built.result c.built.ensures

pub returns-clause-no_float : goal.returns-clause-no_float
returns-clause-no_float c = whole-answer c.args.w.now c.built.result c.built.ensures
