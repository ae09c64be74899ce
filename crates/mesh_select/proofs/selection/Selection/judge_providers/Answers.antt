use Rattle.std.proofs.Common.{◌≡◌, ℕ, List, Some, None, filter, filter_map, map, sym, ap, subst, ◌∙◌}
use Rattle.std.specs.Option.{option_or}
use Rattle.mesh_policy.specs.Lists.{distinct_texts}
use Rattle.mesh_policy.specs.SelectFault as fault
use Rattle.mesh_policy.specs.SelectFault.{SelectFault}
use Rattle.mesh_policy.specs.Workload.{is_action}
use Rattle.mesh_policy.specs.declared.policy.Action.TheVariants.{Custom}
use Rattle.mesh_policy.specs.declared.policy.AuthorizationPolicy.{AuthorizationPolicy}
use Rattle.mesh_policy.specs.declared.provider.Provider.{Provider}
use Rattle.mesh_select.specs.Chosen.{Chosen}
use Rattle.mesh_select.specs.SelectError.{Judges}
use Rattle.mesh_select.proofs.Found.{unknown-reason}
use Rattle.mesh_select.proofs.Judged.{judges-alone, judges-later}
use Rattle.mesh_select.proofs.selection.Selection.judge_providers.Goals as goal
use denote.Ref.{Bor}

-- the names that the CUSTOM policies write
abbrev names_of : List AuthorizationPolicy → List (List ℕ)
names_of ps = filter_map (λ policy. policy.provider) (filter (λ policy. is_action Custom policy.action) ps)

pub returns-in-None : goal.returns-in-None
returns-in-None c =
    let s = c.self.inside in
    let written = c.in_ok-written.ensures ∙ ap names_of (c.deref.ensures.value ∙ c.self.invariant.policies) in
    let known =
    c.in_ok-known.ensures ∙ ap distinct_texts (ap (map (λ (t : Bor (List ℕ)). t.now)) c.deref-3.ensures.value ∙ c.in_ok-names.ensures
    ∙ ap (map (λ (p : Provider). p.name)) c.deref-2.ensures) in
    let none =
    unknown-reason s.bundle.now s.pod _ _ None
    (ap (map (λ (t : Bor (List ℕ)). t.now)) c.deref-4.ensures.value ∙ written) known c.in-None.ensures in
    let second =
    subst (λ (names : List (List ℕ)). Judges c.two_of.result (fault.two_of (distinct_texts names)))
    (ap (map (λ (t : Bor (List ℕ)). t.now)) c.deref-in-None.ensures.value ∙ written) c.two_of.ensures in
    subst (λ (x : Chosen). Judges c.two_of.result
    (option_or (fault.unknown_fault x.bundle x.pod) (option_or (fault.second_fault x.bundle x.pod) None)))
    c.self.view_is
    (judges-later c.two_of.result (fault.unknown_fault s.bundle.now s.pod) (option_or (fault.second_fault s.bundle.now s.pod) None)
    (sym none)
    (judges-alone c.two_of.result (fault.second_fault s.bundle.now s.pod) second))

pub returns : goal.returns
returns c =
    let s = c.self.inside in
    let written = c.in_ok-written.ensures ∙ ap names_of (c.deref.ensures.value ∙ c.self.invariant.policies) in
    let known =
    c.in_ok-known.ensures ∙ ap distinct_texts (ap (map (λ (t : Bor (List ℕ)). t.now)) c.deref-3.ensures.value ∙ c.in_ok-names.ensures
    ∙ ap (map (λ (p : Provider). p.name)) c.deref-2.ensures) in
    let unknown =
    sym (unknown-reason s.bundle.now s.pod _ _ (Some c.in-Some.name.now)
    (ap (map (λ (t : Bor (List ℕ)). t.now)) c.deref-4.ensures.value ∙ written) known c.in-Some.ensures)
    ∙ ap (λ (name : List ℕ). Some (fault.unknown_provider name)) (sym c.in_ok-of-in-Some.ensures) in
    subst (λ (x : Chosen). option_or (fault.unknown_fault x.bundle x.pod) (option_or (fault.second_fault x.bundle x.pod) None)
    ≡ Some (fault.unknown_provider c.in_ok-of-in-Some.field-0)) c.self.view_is
    (ap (λ r. option_or r (option_or (fault.second_fault s.bundle.now s.pod) None)) unknown)
