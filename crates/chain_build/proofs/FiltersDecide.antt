-- What the filters of a chain decide is what the policies decide, of either kind of filter.
use Rattle.std.proofs.Common.{◌≡◌, ◌==◌, All, Bool, true, false, not, ◌&&◌, ◌||◌, List, [], ◌∷◌, ◌++◌, length, map, cond, if◌then◌else◌}
use Rattle.std.proofs.Common.{refl, sym, ◌∙◌, ap, ap₂, append_assoc}
use Rattle.std.proofs.Math.Bool.{or-false}
use Rattle.std.proofs.Math.Dec.{eqb-suc-zero}
use Rattle.mesh_policy.specs.AcceptedRules.{AcceptedPolicy}
use Rattle.mesh_policy.specs.Attributes.{Seen}
use Rattle.mesh_policy.specs.Verdicts as mesh
use Rattle.mesh_policy.specs.Verdicts.{decision, refusal, some_holds}
use Rattle.mesh_policy.specs.Workload.{Workload}
use Rattle.mesh_policy.specs.declared.case.Case.{Case}
use Rattle.mesh_policy.specs.declared.policy.Action.{Action}
use Rattle.mesh_policy.specs.declared.policy.Action.TheVariants.{Allow, Deny, Audit}
use Rattle.mesh_policy.specs.declared.policy.AuthorizationPolicy.{AuthorizationPolicy}
use Rattle.mesh_policy.specs.declared.service.Protocol.{Protocol}
use Rattle.mesh_policy.specs.declared.service.Protocol.TheVariants.{Http, Tcp}
use Rattle.mesh_policy.specs.declared.verdict.Outcome.{Outcome}
use Rattle.mesh_policy.specs.declared.verdict.Outcome.TheVariants.{Admitted}
use Rattle.envoy_types.specs.Access.{action_marks, action_passes}
use Rattle.envoy_types.specs.ListenerVerdict.{verdict_of}
use Rattle.envoy_types.specs.Run.{RunState, Step, goes_on, refuses, run_filters, run_rbac, then_run}
use Rattle.envoy_types.specs.declared.access.Rbac.{Rbac}
use Rattle.mesh_select.specs.Workload.{KeepsLimits}
use Rattle.peer_name.specs.Holds.{HasNamedPeer}
use Rattle.authz_gen.specs.Laws.{FiltersDecide}
use Rattle.authz_gen.specs.Policies.{AreToldOn, IsJudgedOn, rbac_action, rbac_on}
use Rattle.chain_build.specs.Buildable.{IsBuildable}
use Rattle.chain_build.specs.Filters.{rbac_filters, rbac_for}

-- a TCP port leaves out what an HTTP port is told
told-on : (protocol : Protocol) (policies : List AuthorizationPolicy) → AreToldOn Http policies → AreToldOn protocol policies
told-on Tcp policies h = tt
told-on Http policies h = h

module _ (decide : FiltersDecide) (protocol : Protocol) (case : Case) (seen : Seen) (named : HasNamedPeer case)
    (judged : IsJudgedOn protocol case seen) where
  -- a state in which no shadow rule has told a name
  abbrev marked : Bool → RunState
  marked audited = record { seen = seen; audited = audited; names = [] }

  -- filters of role-based access control alone
  abbrev run : List Rbac → RunState → Step
  run = run_filters (λ rbac state. run_rbac rbac case state)

  abbrev holds : List AuthorizationPolicy → Bool
  holds policies = some_holds protocol case seen policies

  -- ---- one filter

  abbrev after : (action : Action) (policies : List AuthorizationPolicy) (rest : List Rbac) (audited passes marks : Bool) → Step
  after action policies rest audited passes marks = then_run (if passes then goes_on else refuses) (marked (audited || marks)) (run rest)

  filter-decides : (action : Action) (policies : List AuthorizationPolicy) (rest : List Rbac) (audited : Bool)
      → All AcceptedPolicy policies → AreToldOn Http policies
      → run (rbac_on protocol action policies ∷ rest) (marked audited)
      ≡ after action policies rest audited (action_passes (rbac_action action) (holds policies))
      (action_marks (rbac_action action) (holds policies))
  unfolding rbac_on
  filter-decides action policies rest audited h told =
      let d = decide protocol action policies h (told-on protocol policies told) in
      ap₂ (after action policies rest audited) (d.passes case seen named judged) (d.marks case seen named judged)

  -- ---- the filters of an action, where a policy applies

  -- AUDIT marks what one of its rules holds for, and lets everything pass
  audit-runs : (policies : List AuthorizationPolicy) (rest : List Rbac) (audited : Bool) → All AcceptedPolicy policies
      → AreToldOn Http policies
      → run (rbac_for protocol Audit policies ++ rest) (marked audited) ≡ run rest (marked (audited || holds policies))
  audit-runs [] rest audited h told = ap (λ b. run rest (marked b)) (sym (or-false audited))
  audit-runs (policy ∷ policies) rest audited h told =
      ap (λ b. run (cond b [] (rbac_on protocol Audit (policy ∷ policies) ∷ []) ++ rest) (marked audited))
      (eqb-suc-zero (length policies))
      ∙ filter-decides Audit (policy ∷ policies) rest audited h told

  -- DENY refuses what one of its rules holds for
  deny-runs : (policies : List AuthorizationPolicy) (rest : List Rbac) (audited : Bool) → All AcceptedPolicy policies
      → AreToldOn Http policies
      → run (rbac_for protocol Deny policies ++ rest) (marked audited)
      ≡ (if holds policies then record { decision = refuses; state = marked audited } else run rest (marked audited))
  deny-runs [] rest audited h told = refl
  deny-runs (policy ∷ policies) rest audited h told =
      ap (λ b. run (cond b [] (rbac_on protocol Deny (policy ∷ policies) ∷ []) ++ rest) (marked audited))
      (eqb-suc-zero (length policies))
      ∙ filter-decides Deny (policy ∷ policies) rest audited h told
      ∙ at (holds (policy ∷ policies)) where
        at : (b : Bool) → after Deny (policy ∷ policies) rest audited (not b) false
            ≡ (if b then record { decision = refuses; state = marked audited } else run rest (marked audited))
        at true = ap (λ a. record { decision = refuses; state = marked a }) (or-false audited)
        at false = ap (λ a. run rest (marked a)) (or-false audited)

  -- ALLOW refuses what none of its rules holds for, where a policy applies
  allow-runs : (policies : List AuthorizationPolicy) (audited : Bool) → All AcceptedPolicy policies → AreToldOn Http policies
      → run (rbac_for protocol Allow policies) (marked audited)
      ≡ record {
        decision = if not (length policies == 0) && not (holds policies) then refuses else goes_on;
        state = marked audited;
      }
  allow-runs [] audited h told = refl
  allow-runs (policy ∷ policies) audited h told =
      ap (λ b. run (cond b [] (rbac_on protocol Allow (policy ∷ policies) ∷ [])) (marked audited)) (eqb-suc-zero (length policies))
      ∙ filter-decides Allow (policy ∷ policies) [] audited h told
      ∙ at (holds (policy ∷ policies))
      ∙ ap (λ b. record { decision = if not b && not (holds (policy ∷ policies)) then refuses else goes_on; state = marked audited })
      (sym (eqb-suc-zero (length policies))) where
        at : (b : Bool) → after Allow (policy ∷ policies) [] audited b false
            ≡ record { decision = if true && not b then refuses else goes_on; state = marked audited }
        at true = ap (λ a. record { decision = goes_on; state = marked a }) (or-false audited)
        at false = ap (λ a. record { decision = refuses; state = marked a }) (or-false audited)

  -- ---- all of them

  joined : (refused : Outcome) (denied unlisted mark : Bool)
      → verdict_of refused (if denied then record { decision = refuses; state = marked mark }
      else record { decision = if unlisted then refuses else goes_on; state = marked mark })
      ≡ mesh.verdict (if denied || unlisted then refused else Admitted) mark
  joined refused true unlisted mark = refl
  joined refused false true mark = refl
  joined refused false false mark = refl

  rbac-decides : (workload : Workload) → KeepsLimits workload → IsBuildable workload
      → verdict_of (refusal protocol) (run (rbac_filters protocol workload) (marked false)) ≡ decision workload protocol case seen
  unfolding rbac_filters
  rbac-decides workload limits h =
      let audit = rbac_for protocol Audit workload.audit in
      let deny = rbac_for protocol Deny workload.deny in
      let allow = rbac_for protocol Allow workload.allow in
      ap (λ filters. verdict_of (refusal protocol) (run filters (marked false))) (append_assoc audit deny allow)
      ∙ ap (verdict_of (refusal protocol))
      (audit-runs workload.audit (deny ++ allow) false limits.audit.each h.audit
      ∙ deny-runs workload.deny allow (holds workload.audit) limits.deny.each h.deny
      ∙ ap (λ step. if holds workload.deny then record { decision = refuses; state = marked (holds workload.audit) } else step)
      (allow-runs workload.allow (holds workload.audit) limits.allow.each h.allow))
      ∙ joined (refusal protocol) (holds workload.deny) (not (length workload.allow == 0) && not (holds workload.allow))
      (holds workload.audit)
      ∙ sym (ap (λ b. if b then mesh.verdict (refusal protocol) false else mesh.verdict
      (if holds workload.deny || (not (length workload.allow == 0) && not (holds workload.allow)) then refusal protocol else Admitted)
      (holds workload.audit))
      (ap (λ policies. holds policies && mesh.provider_refuses protocol case workload.provider) h.custom))

  -- ---- as filters of a chain

  module _ (F : Type 0) (filter_of : Rbac → F) (run_one : F → RunState → Step)
      (same : (rbac : Rbac) (state : RunState) → run_one (filter_of rbac) state ≡ run_rbac rbac case state) where
    runs-same : (filters : List Rbac) (state : RunState) → run_filters run_one (map filter_of filters) state ≡ run filters state
    runs-same [] state = refl
    runs-same (rbac ∷ filters) state =
        ap (λ step. then_run step.decision step.state (run_filters run_one (map filter_of filters))) (same rbac state)
        ∙ ap (then_run (run_rbac rbac case state).decision (run_rbac rbac case state).state) (λ i s. runs-same filters s i)

    pub filters-decide : (workload : Workload) → KeepsLimits workload → IsBuildable workload
        → verdict_of (refusal protocol) (run_filters run_one (map filter_of (rbac_filters protocol workload)) (marked false))
        ≡ decision workload protocol case seen
    filters-decide workload limits h =
        ap (verdict_of (refusal protocol)) (runs-same (rbac_filters protocol workload) (marked false)) ∙ rbac-decides workload limits h
