use Rattle.std.proofs.Common.{◌≡◌, ℕ, List, Some, None, map, sym, ap, subst, ◌∙◌}
use Rattle.mesh_policy.specs.Lists.{distinct_texts}
use Rattle.mesh_policy.specs.SelectFault as fault
use Rattle.mesh_policy.specs.declared.jwt.JwtRule.{JwtRule}
use Rattle.mesh_select.specs.Chosen.{Chosen}
use Rattle.mesh_select.proofs.Found.{header-reason}
use Rattle.mesh_select.proofs.selection.Selection.judge_headers.Goals as goal
use denote.Ref.{Bor}

pub returns-in-None : goal.returns-in-None
returns-in-None c =
    let s = c.self.inside in
    let tested =
    ap (map (λ (t : Bor (List ℕ)). t.now)) c.deref-4.ensures.value ∙ c.in_ok-tested.ensures
    ∙ ap fault.tested_headers (c.deref.ensures.value ∙ c.self.invariant.policies) in
    let changed =
    c.in_ok-changed.ensures ∙ ap distinct_texts (ap (map (λ (t : Bor (List ℕ)). t.now)) c.deref-3.ensures.value ∙ c.in_ok-names.ensures
    ∙ ap fault.changed_headers (ap (map (λ (r : Bor JwtRule). r.now)) c.deref-2.ensures.value ∙ c.self.invariant.rules)) in
    subst (λ (x : Chosen). fault.header_fault x.bundle x.pod ≡ None) c.self.view_is
    (sym (header-reason s.bundle.now s.pod _ _ None tested changed c.in-None.ensures))

pub returns : goal.returns
returns c =
    let s = c.self.inside in
    let tested =
    ap (map (λ (t : Bor (List ℕ)). t.now)) c.deref-4.ensures.value ∙ c.in_ok-tested.ensures
    ∙ ap fault.tested_headers (c.deref.ensures.value ∙ c.self.invariant.policies) in
    let changed =
    c.in_ok-changed.ensures ∙ ap distinct_texts (ap (map (λ (t : Bor (List ℕ)). t.now)) c.deref-3.ensures.value ∙ c.in_ok-names.ensures
    ∙ ap fault.changed_headers (ap (map (λ (r : Bor JwtRule). r.now)) c.deref-2.ensures.value ∙ c.self.invariant.rules)) in
    subst (λ (x : Chosen). fault.header_fault x.bundle x.pod ≡ Some (fault.token_header_tested c.in_ok-of-in-Some.field-0)) c.self.view_is
    (sym (header-reason s.bundle.now s.pod _ _ (Some c.in-Some.name.now) tested changed c.in-Some.ensures)
    ∙ ap (λ (name : List ℕ). Some (fault.token_header_tested name)) (sym c.in_ok-of-in-Some.ensures))
