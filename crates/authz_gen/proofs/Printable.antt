-- The filter of policies within the limits of a workload can be written.
use Rattle.std.proofs.Common.{◌≡◌, ℕ, ◌+◌, ◌≤◌, true, false, ◌||◌, nat_lt, All, List, [], ◌∷◌, ◌++◌, filter, map, refl, ◌∙◌, arith}
use Rattle.std.proofs.lemmas.Bool.{and_from, ltb-false, or_parts}
use Rattle.std.proofs.lemmas.List.Elements.{All-head, All-tail}
use Rattle.std.proofs.lemmas.List.Folds.{list_all-append, list_all-map}
use Rattle.std.specs.List.{enumerate_from, flat_map, list_all}
use Rattle.mesh_policy.proofs.Listed.{list_all-filter, list_all-in_order}
use Rattle.mesh_policy.specs.AcceptedRules.{AcceptedCondition, AcceptedOperation, AcceptedPolicy, AcceptedRule, AcceptedSource}
use Rattle.mesh_policy.specs.Sizes.{condition_size, operation_size, policy_size, rule_size, source_size}
use Rattle.mesh_policy.specs.Sizes as sizes
use Rattle.mesh_policy.specs.declared.jwt.JwtRule.{JwtRule}
use Rattle.mesh_policy.specs.declared.policy.Action.{Action}
use Rattle.mesh_policy.specs.declared.policy.AuthorizationPolicy.{AuthorizationPolicy}
use Rattle.mesh_policy.specs.declared.policy.Rule.{Rule}
use Rattle.mesh_policy.specs.declared.service.Protocol.{Protocol}
use Rattle.mesh_tree.specs.Joined.{or_of}
use Rattle.mesh_tree.specs.declared.tree.Tree.{Tree}
use Rattle.envoy_types.specs.PermissionForms.{permission_form}
use Rattle.envoy_types.specs.PrincipalForms.{principal_form}
use Rattle.envoy_types.specs.RbacForms.{policy_is_printable, rbac_is_printable, rules_are_printable}
use Rattle.envoy_types.specs.TreeForms.{TreeForm, tree_list_is_printable}
use Rattle.authz_gen.specs.Conditions.{permission_of, principal_by}
use Rattle.authz_gen.specs.Lists.{all_of, if_any}
use Rattle.authz_gen.specs.Operations.{operation_tree}
use Rattle.authz_gen.specs.Policies.{ArePoliciesOf, has_policy, name_before, policies_on, rbac_on, rule_on, rule_policies, rule_policy}
use Rattle.authz_gen.specs.Rules.{permission_tree, principal_tree}
use Rattle.authz_gen.specs.Sources.{source_tree}
use Rattle.authz_gen.proofs.Apart.{names-rise}
use Rattle.authz_gen.proofs.ConditionsPrintable.{permission-of-fits, principal-by-fits}
use Rattle.authz_gen.proofs.FieldsPrintable.{operation-fits, source-fits}
use Rattle.authz_gen.proofs.Fits.{AllFit, all-of-fits, both-fit, one-of-fits}
use Rattle.authz_gen.proofs.ReadOn.{IsFit, fit-on}
pub use Rattle.authz_gen.proofs.Small.{IsSmall}
use Rattle.authz_gen.proofs.Small.{first-small, rest-small, sized-all-fit, sized-fit, width_of}
use Rattle.authz_gen.proofs.TreePrintable.{printable}

-- ---- rules

-- one of some trees, and some others, which are no wider than they are large
joined-fits : {L : Type 0} (form : TreeForm L) (trees others : List (Tree L)) (a b : sizes.Size)
    → AllFit form trees (width_of a) → AllFit form others (width_of b) → width_of a + width_of b ≤ 8192
    → printable form (all_of (if_any or_of trees ++ others)) ≡ true
joined-fits form trees others a b h k few =
    (all-of-fits form (if_any or_of trees ++ others) (width_of a + width_of b)
    (both-fit form (if_any or_of trees) others (width_of a) (width_of b) (one-of-fits form trees (width_of a) h (omega (arith, few))) k)
    few).written

module _ (rule : Rule) (fit : IsFit rule) where
  abbrev sources : sizes.Size
  sources = sizes.sum_of (map source_size rule.sources)

  abbrev operations : sizes.Size
  operations = sizes.sum_of (map operation_size rule.operations)

  abbrev conditions : sizes.Size
  conditions = sizes.sum_of (map condition_size rule.conditions)

  sources-small : IsSmall sources
  sources-small = record { values = omega (arith, fit.small.values); entries = omega (arith, fit.small.entries) }

  operations-small : IsSmall operations
  operations-small = record { values = omega (arith, fit.small.values); entries = omega (arith, fit.small.entries) }

  conditions-small : IsSmall conditions
  conditions-small = record { values = omega (arith, fit.small.values); entries = omega (arith, fit.small.entries) }

  permission-fits : printable permission_form (permission_tree rule) ≡ true
  unfolding permission_tree
  permission-fits =
      joined-fits permission_form (map operation_tree rule.operations) (flat_map permission_of rule.conditions) operations conditions
      (sized-fit permission_form operation_size AcceptedOperation operation_tree operation-fits rule.operations fit.operations
      operations-small)
      (sized-all-fit permission_form condition_size AcceptedCondition permission_of permission-of-fits rule.conditions fit.conditions
      conditions-small)
      (omega (arith, fit.small.values, fit.small.entries))

  principal-fits : printable principal_form (principal_tree rule) ≡ true
  unfolding principal_tree
  principal-fits =
      joined-fits principal_form (map source_tree rule.sources) (flat_map principal_by rule.conditions) sources conditions
      (sized-fit principal_form source_size AcceptedSource source_tree source-fits rule.sources fit.sources sources-small)
      (sized-all-fit principal_form condition_size AcceptedCondition principal_by principal-by-fits rule.conditions fit.conditions
      conditions-small)
      (omega (arith, fit.small.values, fit.small.entries))

-- of a rule is written what a port reads of it
rule_policy-fits : (protocol : Protocol) (policy : AuthorizationPolicy) (index : ℕ) (rule : Rule) → AcceptedRule rule
    → IsSmall (rule_size rule) → policy_is_printable (rule_policy protocol policy (index, rule)) ≡ true
unfolding rule_policy policy_is_printable tree_list_is_printable
rule_policy-fits protocol policy index rule accepted small =
    let fit = fit-on protocol rule accepted small in
    and_from _ _ (and_from _ _ refl (and_from _ _ (permission-fits (rule_on protocol rule) fit) refl))
    (and_from _ _ refl (and_from _ _ (principal-fits (rule_on protocol rule) fit) refl))

-- ---- policies

module _ (protocol : Protocol) where
  each-fits : (policy : AuthorizationPolicy) (index : ℕ) (rs : List Rule) → All AcceptedRule rs
      → IsSmall (sizes.sum_of (map rule_size rs))
      → list_all (λ entry. policy_is_printable (rule_policy protocol policy entry)) (enumerate_from index rs) ≡ true
  each-fits policy index [] h small = refl
  each-fits policy index (rule ∷ rs) h small =
      and_from _ _
      (rule_policy-fits protocol policy index rule (All-head AcceptedRule rule rs h)
      (first-small (rule_size rule) (map rule_size rs) small))
      (each-fits policy (index + 1) rs (All-tail AcceptedRule rule rs h)
      (rest-small (rule_size rule) (map rule_size rs) small))

  -- so are those of the rules that have a policy
  rules-fit : (policy : AuthorizationPolicy) → AcceptedPolicy policy → IsSmall (policy_size policy)
      → list_all policy_is_printable (rule_policies protocol policy) ≡ true
  rules-fit policy h small =
      let entries = enumerate_from 0 policy.rules in
      let kept = filter (has_policy protocol policy.action) entries in
      list_all-map policy_is_printable (rule_policy protocol policy) kept
      ∙ list_all-filter (λ entry. policy_is_printable (rule_policy protocol policy entry)) (has_policy protocol policy.action) entries
      (each-fits policy 0 policy.rules h.rules.each small)

  policies-fit : (ps : List AuthorizationPolicy) → All AcceptedPolicy ps
      → IsSmall (sizes.sum_of (map policy_size ps)) → list_all policy_is_printable (flat_map (rule_policies protocol) ps) ≡ true
  policies-fit [] h small = refl
  policies-fit (p ∷ ps) h small =
      list_all-append policy_is_printable (rule_policies protocol p) (flat_map (rule_policies protocol) ps)
      ∙ and_from _ _
      (rules-fit p (All-head AcceptedPolicy p ps h)
      (first-small (policy_size p) (map policy_size ps) small))
      (policies-fit ps (All-tail AcceptedPolicy p ps h)
      (rest-small (policy_size p) (map policy_size ps) small))

-- ---- the filter

pub filter-fits : (protocol : Protocol) (action : Action) (policies : List AuthorizationPolicy) → ArePoliciesOf action policies
    → IsSmall (sizes.sum_of (map policy_size policies)) → rbac_is_printable (rbac_on protocol action policies) ≡ true
unfolding rbac_on rbac_is_printable rules_are_printable policies_on
filter-fits protocol action policies h small =
    and_from _ _ (and_from _ _ (names-rise protocol action policies h)
    (list_all-in_order name_before policy_is_printable (flat_map (rule_policies protocol) policies)
    ∙ policies-fit protocol policies h.accepted.each small)) refl

-- what keeps the limits of a workload together keeps them apart
pub small-part : (ps : List AuthorizationPolicy) (rules : List JwtRule) → sizes.is_over_limit (sizes.size_of ps rules) ≡ false
    → IsSmall (sizes.sum_of (map policy_size ps))
unfolding sizes.size_of
small-part ps rules h =
    let size = sizes.size_of ps rules in
    let parts = or_parts (nat_lt 2048 size.values || nat_lt 1024 size.entries) (nat_lt 65536 size.bytes) h in
    let counts = or_parts (nat_lt 2048 size.values) (nat_lt 1024 size.entries) parts.0 in
    let values : size.values ≤ 2048 = ltb-false 2048 size.values counts.0 in
    let entries : size.entries ≤ 1024 = ltb-false 1024 size.entries counts.1 in
    record { values = omega (arith, values); entries = omega (arith, entries) }
