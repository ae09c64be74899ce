-- The refusal is that of the reason that selection has, unless there is no memory.
use Rattle.std.proofs.Common.{◌≡◌, Option, subst}
use Rattle.mesh_policy.specs.SelectFault.{SelectFault, select_fault}
use Rattle.mesh_select.specs.SelectError.{Tells}
use Rattle.mesh_cli.specs.Answer.{workload_named}
use Rattle.mesh_cli.proofs.Reasons.{refused}
use Rattle.mesh_cli.proofs.answer.translate_selected.Goals as goal

pub returns-in-Err-clause-err : goal.returns-in-Err-clause-err
returns-in-Err-clause-err c =
    let bundle = c.args.bundle.now in
    let name = c.args.name.now in
    let same : select_fault bundle c.namespace.result.now c.name.result.now ≡ select_fault bundle name.namespace name.name =
    λ i. select_fault bundle (c.namespace.ensures i) (c.name.ensures i) in
    let P : Option SelectFault → Type 0 = λ reason. Tells c.in-Err.error reason in
    refused c.in-Err.error c.refuse_pod.result name (select_fault bundle name.namespace name.name) (workload_named name bundle)
    c.refuse_pod.ensures.refused c.refuse_pod.ensures.memory (subst P same c.in-Err.ensures.reason)
