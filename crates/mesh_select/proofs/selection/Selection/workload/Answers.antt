use Rattle.std.proofs.Common.{◌≡◌, List, filter, map, sym, ap, subst, ◌∙◌}
use Rattle.mesh_policy.specs.Workload as seen
use Rattle.mesh_policy.specs.declared.jwt.JwtRule.{JwtRule}
use Rattle.mesh_policy.specs.declared.policy.Action.{Action}
use Rattle.mesh_policy.specs.declared.policy.Action.TheVariants.{Allow, Deny, Audit, Custom}
use Rattle.mesh_policy.specs.declared.policy.AuthorizationPolicy.{AuthorizationPolicy}
use Rattle.mesh_select.specs.Chosen.{Chosen}
use Rattle.mesh_select.specs.Workload.{KeepsLimits, view_of}
use Rattle.mesh_select.specs.declared.workload.Workload.TheInside.{Inside}
use Rattle.mesh_select.proofs.Found.{numbers-of, other-mode-is, ports-are, view-is}
use Rattle.mesh_select.proofs.Kept.{keeps-limits}
use Rattle.mesh_select.proofs.Reasons.{listed-is}
use Rattle.mesh_select.proofs.selection.Selection.workload.Goals as goal
use denote.Ref.{Bor}

abbrev with_action : Action → List AuthorizationPolicy → List AuthorizationPolicy
with_action action ps = filter (λ policy. seen.is_action action policy.action) ps

pub returns : goal.returns
returns c =
    let s = c.self.inside in
    let bundle = s.bundle.now in
    let numbers = c.deref-2.ensures.value ∙ c.self.invariant.listed ∙ listed-is bundle s.pod in
    let policies = c.as_slice-policies.ensures.value ∙ c.self.invariant.policies in
    let w : Inside = record {
      listed = c.in_ok-copy_numbers.field-0;
      ports = c.in_ok-listed_ports.field-0;
      other_mode = c.other_mode.result;
      allow = c.in_ok-with_action.field-0;
      deny = c.in_ok-with_action-2.field-0;
      audit = c.in_ok-with_action-3.field-0;
      custom = c.in_ok-with_action-4.field-0;
      jwt_rules = c.in_ok-copy_rules.field-0;
      provider = c.in_ok-provider.field-0;
    } in
    subst (λ (x : Chosen). view_of w ≡ seen.workload_of x.bundle x.pod) c.self.view_is
    (view-is bundle s.pod w
    (c.in_ok-listed_ports.ensures
    ∙ ports-are bundle s.pod s.http.keys s.levels c.deref-2.result.now c.self.invariant.http c.self.invariant.levels numbers)
    (c.other_mode.ensures ∙ other-mode-is bundle s.pod s.levels c.self.invariant.levels)
    (c.in_ok-with_action.ensures ∙ ap (with_action Allow) policies)
    (c.in_ok-with_action-2.ensures ∙ ap (with_action Deny) policies)
    (c.in_ok-with_action-3.ensures ∙ ap (with_action Audit) policies)
    (c.in_ok-with_action-4.ensures ∙ ap (with_action Custom) policies)
    (c.in_ok-copy_rules.ensures ∙ ap (map (λ (r : Bor JwtRule). r.now)) c.deref-3.ensures.value ∙ c.self.invariant.rules)
    (subst (λ (x : Chosen). c.in_ok-provider.field-0 ≡ seen.provider_of x.bundle x.pod) (sym c.self.view_is) c.in_ok-provider.ensures))

pub invariant_of-result : goal.invariant_of-result
invariant_of-result c =
    let s = c.self.inside in (
      c.in_ok-copy_numbers.ensures ∙ c.deref.ensures.value
          ∙ sym (ap (map (λ (port : seen.ListedPort). port.number)) c.in_ok-listed_ports.ensures
          ∙ numbers-of s.http.keys s.levels c.deref-2.result.now ∙ c.deref-2.ensures.value),
      subst KeepsLimits (sym (returns c)) (keeps-limits c.args.self.now.bundle c.args.self.now.pod c.requires.accepted c.requires.pod c.requires.judged),
    )
