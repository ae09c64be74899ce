use Rattle.std.proofs.Common.{◌∙◌, List, ℕ, ap, sym}
use Rattle.mesh_policy.specs.Ports.{target_number}
use Rattle.mesh_policy.specs.declared.service.Target.{Target}
use Rattle.mesh_policy.specs.declared.service.Target.TheVariants.{Named}
use Rattle.mesh_select.proofs.ports.target_number.Goals as goal

pub returns-in-Named : goal.returns-in-Named
returns-in-Named c =
    c.port.ensures
    ∙ ap (λ (name : List ℕ). target_number c.args.pod.now c.args.entry.now.port (Named name)) c.deref.ensures
    ∙ ap (λ (target : Target). target_number c.args.pod.now c.args.entry.now.port target) (sym c.in-Named.is)
