-- The policy of a rule holds exactly where the rule does on a port.
use Rattle.std.proofs.Common.{◌≡◌, ℕ, Bool, false, ◌&&◌, ◌||◌, ◌++◌, flat_map, get_or, map, refl, ◌∙◌, ap}
use Rattle.std.proofs.lemmas.List.Folds.{list_all-append}
use Rattle.std.specs.List.{list_all}
use Rattle.mesh_policy.specs.AcceptedRules.{AcceptedRule}
use Rattle.mesh_policy.specs.Attributes.{Seen}
use Rattle.mesh_policy.specs.RuleHolds.{condition_holds, one_of, operation_holds, rule_holds, rule_holds_tcp, source_holds}
use Rattle.mesh_policy.specs.Verdicts.{holds_on}
use Rattle.mesh_policy.specs.declared.case.Case.{Case}
use Rattle.mesh_policy.specs.declared.policy.Action.{Action}
use Rattle.mesh_policy.specs.declared.policy.AuthorizationPolicy.{AuthorizationPolicy}
use Rattle.mesh_policy.specs.declared.policy.Rule.{Rule}
use Rattle.mesh_policy.specs.declared.service.Protocol.{Protocol}
use Rattle.mesh_policy.specs.declared.service.Protocol.TheVariants.{Http, Tcp}
use Rattle.mesh_tree.specs.Joined.{or_of}
use Rattle.mesh_tree.specs.Judge.{tree_holds}
use Rattle.envoy_types.specs.Access.{policy_holds}
use Rattle.peer_name.specs.Holds.{HasNamedPeer}
use Rattle.authz_gen.specs.Conditions.{permission_of, principal_by}
use Rattle.authz_gen.specs.Lists.{if_any}
use Rattle.authz_gen.specs.Operations.{operation_tree}
use Rattle.authz_gen.specs.Policies.{IsJudgedOn, has_policy, rule_on, rule_policy}
use Rattle.authz_gen.specs.Rules.{permission_tree, principal_tree}
use Rattle.authz_gen.specs.Sources.{source_tree}
use Rattle.authz_gen.proofs.ConditionsHold.{conditions-hold}
use Rattle.authz_gen.proofs.OperationsHold.{operation-holds, permits}
use Rattle.authz_gen.proofs.Sides.{both-sides}
use Rattle.authz_gen.proofs.SourcesHold.{admits, source-holds}
use Rattle.authz_gen.proofs.Told.{IsTold, RuleIsToldOn, told-on}
use Rattle.authz_gen.proofs.TreeHolds.{all-holds, one-of-holds}

-- what a port reads of a rule that has a policy decides the rule
on-port : (protocol : Protocol) (case : Case) (seen : Seen) (action : Action) (entry : ℕ × Rule)
    → (has_policy protocol action entry && rule_holds case seen (rule_on protocol entry.1)) ≡ holds_on protocol case seen action entry.1
unfolding rule_holds_tcp
on-port Tcp case seen action entry = refl
on-port Http case seen action entry = refl

module _ (case : Case) (seen : Seen) (named : HasNamedPeer case) where
  -- ---- the parts of a rule

  -- one of the operations
  abbrev asked_for : Rule → Bool
  asked_for rule = one_of (operation_holds case seen) rule.operations

  -- one of the sources
  abbrev comes_from : Rule → Bool
  comes_from rule = one_of (source_holds case seen) rule.sources

  -- the conditions of the one side, and of the other
  abbrev permitted : Rule → Bool
  permitted rule = list_all (tree_holds (permits case seen)) (flat_map permission_of rule.conditions)

  abbrev admitted : Rule → Bool
  admitted rule = list_all (tree_holds (admits case seen)) (flat_map principal_by rule.conditions)

  permission-holds : (rule : Rule) → IsTold case seen rule
      → tree_holds (permits case seen) (permission_tree rule) ≡ (asked_for rule && permitted rule)
  unfolding permission_tree
  permission-holds rule told =
      let operations = if_any or_of (map operation_tree rule.operations) in
      all-holds (permits case seen) (operations ++ flat_map permission_of rule.conditions)
      ∙ list_all-append (tree_holds (permits case seen)) operations (flat_map permission_of rule.conditions)
      ∙ ap (λ b. b && permitted rule)
      (one-of-holds (permits case seen) operation_tree (operation_holds case seen) rule.operations
      (λ k d within. operation-holds case seen (get_or rule.operations k d) (told.operations k d within)))

  principal-holds : (rule : Rule) → IsTold case seen rule
      → tree_holds (admits case seen) (principal_tree rule) ≡ (comes_from rule && admitted rule)
  unfolding principal_tree
  principal-holds rule told =
      let sources = if_any or_of (map source_tree rule.sources) in
      all-holds (admits case seen) (sources ++ flat_map principal_by rule.conditions)
      ∙ list_all-append (tree_holds (admits case seen)) sources (flat_map principal_by rule.conditions)
      ∙ ap (λ b. b && admitted rule)
      (one-of-holds (admits case seen) source_tree (source_holds case seen) rule.sources
      (λ k d within. source-holds case seen named (get_or rule.sources k d) (told.sources k d within)))

  -- ---- the whole rule

  -- as a port reads it
  rule-holds : (protocol : Protocol) (policy : AuthorizationPolicy) (entry : ℕ × Rule) → IsTold case seen (rule_on protocol entry.1)
      → policy_holds (rule_policy protocol policy entry) case seen ≡ rule_holds case seen (rule_on protocol entry.1)
  unfolding rule_policy rule_holds
  rule-holds protocol policy entry told =
      let rule = rule_on protocol entry.1 in
      ap (λ b. (b || false) && (tree_holds (admits case seen) (principal_tree rule) || false)) (permission-holds rule told)
      ∙ ap (λ b. (asked_for rule && permitted rule || false) && (b || false)) (principal-holds rule told)
      ∙ both-sides (comes_from rule) (asked_for rule) (permitted rule) (admitted rule)
      (list_all (condition_holds case seen) rule.conditions) (conditions-hold case seen named rule.conditions told.conditions)

  -- A rule holds on a port where it has a policy that holds.
  pub rule-decides : (protocol : Protocol) → IsJudgedOn protocol case seen → (policy : AuthorizationPolicy) (action : Action)
      (entry : ℕ × Rule) → AcceptedRule entry.1 → RuleIsToldOn protocol entry.1
      → (has_policy protocol action entry && policy_holds (rule_policy protocol policy entry) case seen)
      ≡ holds_on protocol case seen action entry.1
  rule-decides protocol judged policy action entry accepted told =
      ap (λ b. has_policy protocol action entry && b)
      (rule-holds protocol policy entry (told-on case seen protocol entry.1 judged accepted told))
      ∙ on-port protocol case seen action entry
