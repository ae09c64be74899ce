-- The filter of the policies of an action on a port decides as their rules do.
use Rattle.std.proofs.Common.{◌≡◌, ℕ, ◌+◌, Bool, true, false, ◌&&◌, ◌||◌, All, List, [], ◌∷◌, cond, get_or, Option, Some, None, is_some}
use Rattle.std.proofs.Common.{refl, ◌∙◌, ap}
use Rattle.std.specs.List.{enumerate_from, flat_map, list_any}
use Rattle.std.specs.Option.{option_map}
use Rattle.mesh_policy.specs.AcceptedRules.{AcceptedPolicy, AcceptedRule}
use Rattle.mesh_policy.specs.Attributes.{Seen}
use Rattle.mesh_policy.specs.Verdicts.{holds_on, some_holds}
use Rattle.mesh_policy.specs.Verdicts as mesh
use Rattle.mesh_policy.specs.declared.case.Case.{Case}
use Rattle.mesh_policy.specs.declared.policy.Action.{Action}
use Rattle.mesh_policy.specs.declared.policy.AuthorizationPolicy.{AuthorizationPolicy}
use Rattle.mesh_policy.specs.declared.policy.Rule.{Rule}
use Rattle.mesh_policy.specs.declared.service.Protocol.{Protocol}
use Rattle.envoy_types.specs.Access.{Rules, action_marks, action_passes, effective, first_position, policy_holds}
use Rattle.envoy_types.specs.declared.access.RbacPolicy.{RbacPolicy}
use Rattle.peer_name.specs.Holds.{HasNamedPeer}
use Rattle.authz_gen.specs.Policies.{AreToldOn, ArePoliciesOf, DecidesOn, IsJudgedOn, RulesHoldAsPolicies, has_policy, name_before}
use Rattle.authz_gen.specs.Policies.{policies_on, rbac_action, rbac_on, rule_policies, rule_policy}
use Rattle.authz_gen.proofs.InOrder.{any-in_order}
use Rattle.authz_gen.proofs.ListAny.{All-enumerate, any-enumerate, any-flat_map, any-kept, any-same}
use Rattle.authz_gen.proofs.OwnPolicy.{holds-as-own}
use Rattle.authz_gen.proofs.RuleHolds.{rule-decides}
use Rattle.authz_gen.proofs.Told.{RuleIsToldOn, rules-told}

-- ---- a policy is effective where one holds

is_some-map : {A B : Type 0} (f : A → B) (o : Option A) → is_some (option_map f o) ≡ is_some o
is_some-map f None = refl
is_some-map f (Some x) = refl

is_some-first : {A : Type 0} (test : A → Bool) (xs : List A) → is_some (first_position test xs) ≡ list_any test xs
is_some-first test [] = refl
is_some-first test (x ∷ xs) = at (test x) (is_some-first test xs) where
  at : (b : Bool) → is_some (first_position test xs) ≡ list_any test xs
      → is_some (cond b (Some 0) (option_map (λ n. n + 1) (first_position test xs))) ≡ (b || list_any test xs)
  at true h = refl
  at false h = is_some-map (λ n. n + 1) (first_position test xs) ∙ h

pub is_some-effective : (rules : Rules) (case : Case) (seen : Seen)
    → is_some (effective rules case seen) ≡ list_any (λ policy. policy_holds policy case seen) rules.policies
unfolding effective
is_some-effective rules case seen = is_some-first (λ policy. policy_holds policy case seen) rules.policies

-- ---- and one holds where a rule does

module _ (protocol : Protocol) (case : Case) (seen : Seen) (named : HasNamedPeer case) (judged : IsJudgedOn protocol case seen) where
  abbrev holds : RbacPolicy → Bool
  holds policy = policy_holds policy case seen

  policy-holds : (policy : AuthorizationPolicy) → AcceptedPolicy policy → All (RuleIsToldOn protocol) policy.rules
      → list_any holds (rule_policies protocol policy) ≡ mesh.policy_holds protocol case seen policy
  policy-holds policy accepted told =
      let entries = enumerate_from 0 policy.rules in
      let each : All (λ (e : ℕ × Rule). AcceptedRule e.1) entries = All-enumerate AcceptedRule 0 policy.rules accepted.rules.each in
      let each_told : All (λ (e : ℕ × Rule). RuleIsToldOn protocol e.1) entries =
      All-enumerate (RuleIsToldOn protocol) 0 policy.rules told in
      let held : ℕ × Rule → Bool = λ e. has_policy protocol policy.action e && holds (rule_policy protocol policy e) in
      let in_words : ℕ × Rule → Bool = λ e. holds_on protocol case seen policy.action e.1 in
      any-kept holds (rule_policy protocol policy) (has_policy protocol policy.action) entries
      ∙ any-same held in_words entries
      (λ k d within.
      rule-decides case seen named protocol judged policy policy.action (get_or entries k d) (each k d within) (each_told k d within))
      ∙ any-enumerate (holds_on protocol case seen policy.action) 0 policy.rules

  pub policies-hold : (policies : List AuthorizationPolicy) → All AcceptedPolicy policies → AreToldOn protocol policies
      → list_any holds (policies_on protocol policies) ≡ some_holds protocol case seen policies
  unfolding policies_on
  policies-hold policies accepted told =
      any-in_order name_before holds (flat_map (rule_policies protocol) policies)
      ∙ any-flat_map holds (rule_policies protocol) policies
      ∙ any-same (λ policy. list_any holds (rule_policies protocol policy)) (mesh.policy_holds protocol case seen) policies
      (λ k d within. policy-holds (get_or policies k d) (accepted k d within) (rules-told protocol policies told k d within))

pub decides : (protocol : Protocol) (action : Action) (policies : List AuthorizationPolicy) → All AcceptedPolicy policies
    → AreToldOn protocol policies → DecidesOn protocol (rbac_on protocol action policies) action policies
unfolding rbac_on
decides protocol action policies accepted told =
    let rules : Rules = record { action = rbac_action action; policies = policies_on protocol policies } in
    record {
      passes = λ case seen named judged. ap (action_passes (rbac_action action))
          (is_some-effective rules case seen ∙ policies-hold protocol case seen named judged policies accepted told);
      marks = λ case seen named judged. ap (action_marks (rbac_action action))
          (is_some-effective rules case seen ∙ policies-hold protocol case seen named judged policies accepted told);
    }

-- ---- and each rule holds where its own policy does

pub rules-hold : (protocol : Protocol) (action : Action) (policies : List AuthorizationPolicy) → ArePoliciesOf action policies
    → AreToldOn protocol policies → RulesHoldAsPolicies protocol (rbac_on protocol action policies) policies
unfolding rbac_on policies_on
rules-hold protocol action policies h told = λ n d within k e inside case seen named judged.
    holds-as-own protocol action policies h told case seen named judged n d within k e inside
