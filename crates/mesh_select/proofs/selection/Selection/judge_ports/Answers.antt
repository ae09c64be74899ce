use Rattle.std.proofs.Common.{◌≡◌, Some, None, sym, ap, subst, ◌∙◌}
use Rattle.mesh_policy.specs.SelectFault as fault
use Rattle.mesh_policy.specs.declared.service.Protocol.TheVariants.{Http, Tcp}
use Rattle.mesh_select.specs.Chosen.{Chosen}
use Rattle.mesh_select.specs.Ports.{numbers_with}
use Rattle.mesh_select.proofs.Found.{port-reason}
use Rattle.mesh_select.proofs.selection.Selection.judge_ports.Goals as goal

pub returns-in-None : goal.returns-in-None
returns-in-None c =
    let s = c.self.inside in
    let given = c.deref-2.ensures.value in
    let tcp = c.in_ok-tcp.ensures ∙ ap (numbers_with Tcp) (c.deref.ensures.value ∙ sym given) in
    subst (λ (x : Chosen). fault.port_fault x.bundle x.pod ≡ None) c.self.view_is
    (sym (port-reason s.bundle.now s.pod s.http.keys c.in_ok-tcp.tcp.keys c.deref-2.result.now None
    (given ∙ c.self.invariant.given) c.self.invariant.http tcp c.in-None.ensures))

pub returns : goal.returns
returns c =
    let s = c.self.inside in
    let given = c.deref-2.ensures.value in
    let tcp = c.in_ok-tcp.ensures ∙ ap (numbers_with Tcp) (c.deref.ensures.value ∙ sym given) in
    subst (λ (x : Chosen). fault.port_fault x.bundle x.pod ≡ Some (fault.port_conflict c.in-Some.port Http Tcp)) c.self.view_is
    (sym (port-reason s.bundle.now s.pod s.http.keys c.in_ok-tcp.tcp.keys c.deref-2.result.now (Some c.in-Some.port)
    (given ∙ c.self.invariant.given) c.self.invariant.http tcp c.in-Some.ensures))
