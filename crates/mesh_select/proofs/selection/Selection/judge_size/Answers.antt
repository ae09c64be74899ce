use Rattle.std.proofs.Common.{sym, ap, subst, subst₂, ◌∙◌, List, map}
use Rattle.mesh_policy.specs.AcceptedBundle.{AcceptedBundle}
use Rattle.mesh_policy.specs.Sizes.{size_of}
use Rattle.mesh_policy.specs.declared.jwt.JwtRule.{JwtRule}
use Rattle.mesh_policy.specs.declared.policy.AuthorizationPolicy.{AuthorizationPolicy}
use Rattle.mesh_select.specs.Chosen.{Chosen}
use Rattle.mesh_select.specs.Sizes.{Fits}
use Rattle.mesh_select.proofs.Bounds.{counts-fit}
use Rattle.mesh_select.proofs.selection.Selection.judge_size.Goals as goal
use denote.Ref.{Bor}

pub counts_of-counts-requires : goal.counts_of-counts-requires
counts_of-counts-requires c =
    let s = c.self.inside in
    let policies = c.deref.ensures.value ∙ c.self.invariant.policies in
    let rules = ap (map (λ (r : Bor JwtRule). r.now)) c.deref-2.ensures.value ∙ c.self.invariant.rules in
    subst₂ (λ (ps : List AuthorizationPolicy) (rs : List JwtRule). Fits (record { values = 0; entries = 0; bytes = 0 }) (size_of ps rs))
    (sym policies) (sym rules)
    (counts-fit s.bundle.now s.pod (subst (λ (x : Chosen). AcceptedBundle x.bundle) (sym c.self.view_is) c.requires))
