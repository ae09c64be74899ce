-- The filter of role-based access control that enforces the policies of one action on a port (Istio reference, "Authorization
-- Policy"; on TCP ports the Istio task "Authorization for TCP traffic"; Envoy v3 API reference, `config.rbac.v3.RBAC`).
use Rattle.std.specs.Prelude.{◌≡◌, ◌≢◌, ℕ, Bool, true, false, not, ◌&&◌, ◌||◌, All, IsTrue, List, [], ◌∷◌, filter, flat_map, map}
use Rattle.std.specs.Prelude.{Option, Some, None, is_some}
use Rattle.std.specs.List.{enumerate_from, list_any}
use Rattle.std.specs.Str.{bytes_eq}
use Rattle.mesh_policy.specs.AcceptedBundle.{AcceptedItems, same_policy}
use Rattle.mesh_policy.specs.AcceptedRules.{AcceptedPolicy}
use Rattle.mesh_policy.specs.Attributes.{Seen, seen_request}
use Rattle.mesh_policy.specs.Explanation.{rule_name}
use Rattle.mesh_policy.specs.Lists.{in_order}
use Rattle.mesh_policy.specs.RuleHolds.{is_allow, needs_http, source_needs_http, without_http}
use Rattle.mesh_policy.specs.Verdicts.{holds_on, some_holds}
use Rattle.mesh_policy.specs.declared.case.Case.{Case}
use Rattle.mesh_policy.specs.declared.condition.Condition.{Condition}
use Rattle.mesh_policy.specs.declared.condition.Condition.TheVariants.{Words, Blocks, Ports}
use Rattle.mesh_policy.specs.declared.condition.TextKey.{TextKey}
use Rattle.mesh_policy.specs.declared.condition.TextKey.TheVariants.{SourcePrincipal, SourceNamespace, Sni}
use Rattle.mesh_policy.specs.declared.condition.TextKey.TheVariants.{Header, AuthPrincipal, Audiences, Presenter, Claim}
use Rattle.mesh_policy.specs.declared.policy.Action.{Action}
use Rattle.mesh_policy.specs.declared.policy.Action.TheVariants.{Allow, Deny, Audit, Custom}
use Rattle.mesh_policy.specs.declared.policy.AuthorizationPolicy.{AuthorizationPolicy}
use Rattle.mesh_policy.specs.declared.policy.Rule.{Rule}
use Rattle.mesh_policy.specs.declared.service.Protocol.{Protocol}
use Rattle.mesh_policy.specs.declared.service.Protocol.TheVariants.{Http, Tcp}
use Rattle.envoy_types.specs.Access.{Rules, action_marks, action_passes, policy_holds, rbac_marks, rbac_passes}
use Rattle.envoy_types.specs.Order.{is_below}
use Rattle.envoy_types.specs.declared.access.Rbac.{Rbac}
use Rattle.envoy_types.specs.declared.access.RbacAction.{RbacAction}
use Rattle.envoy_types.specs.declared.access.RbacAction.TheVariants as rbac
use Rattle.envoy_types.specs.declared.access.RbacPolicy.{RbacPolicy}
use Rattle.peer_name.specs.Holds.{HasNamedPeer}
use Rattle.authz_gen.specs.Rules.{permission_tree, principal_tree}

-- ---- what a filter is made of

-- accepted policies of one action, which is not CUSTOM, and of which no two have one namespace and name
pub record ArePoliciesOf (action : Action) (policies : List AuthorizationPolicy) : Type 0 where
  pub accepted : AcceptedItems AcceptedPolicy same_policy policies
  pub actions : All (λ policy. policy.action ≡ action) policies
  pub decided : action ≢ Custom

-- the keys on the token of a request: `request.auth.*`
abbrev pub key_needs_token : TextKey → Bool
key_needs_token SourcePrincipal = false
key_needs_token SourceNamespace = false
key_needs_token Sni = false
key_needs_token (Header name) = false
key_needs_token AuthPrincipal = true
key_needs_token Audiences = true
key_needs_token Presenter = true
key_needs_token (Claim names) = true

-- a condition on such a key
abbrev pub condition_needs_token : Condition → Bool
condition_needs_token (Words key values not_values) = key_needs_token key
condition_needs_token (Blocks key values not_values) = false
condition_needs_token (Ports values not_values) = false

-- a rule that asks for a request principal or for such a key
abbrev pub needs_token : Rule → Bool
needs_token rule = list_any source_needs_http rule.sources || list_any condition_needs_token rule.conditions

-- So far a filter on an HTTP port is made of policies that ask for no token. On a TCP port what they ask of one is left out.
abbrev pub AreToldOn : Protocol → List AuthorizationPolicy → Type 0
AreToldOn Tcp policies = Unit {0}
AreToldOn Http policies = All (λ policy. IsTrue (not (list_any needs_token policy.rules))) policies

-- ---- what of a rule a port tests

-- on a TCP port a rule is read without what only a request has
abbrev pub rule_on : Protocol → Rule → Rule
rule_on Tcp rule = without_http rule
rule_on Http rule = rule

-- Each rule has a policy, but for one of ALLOW on a TCP port that asks for something that only a request has: there it never holds.
abbrev pub has_policy : Protocol → Action → ℕ × Rule → Bool
has_policy Tcp action entry = not (is_allow action && needs_http entry.1)
has_policy Http action entry = true

-- ---- policies

-- The policy of a rule, which has the rule's name. The rule stands with its index.
unfoldable pub rule_policy : Protocol → AuthorizationPolicy → ℕ × Rule → RbacPolicy
rule_policy protocol policy entry = record {
  name = rule_name policy entry.0;
  permissions = permission_tree (rule_on protocol entry.1) ∷ [];
  principals = principal_tree (rule_on protocol entry.1) ∷ [];
}

-- one for each rule of a policy that has one
abbrev pub rule_policies : Protocol → AuthorizationPolicy → List RbacPolicy
rule_policies protocol policy =
    map (rule_policy protocol policy) (filter (has_policy protocol policy.action) (enumerate_from 0 policy.rules))

-- the one name before the other in byte order
abbrev pub name_before : RbacPolicy → RbacPolicy → Bool
name_before a b = is_below a.name b.name

-- one for each rule of all policies, in byte order of their names
unfoldable pub policies_on : Protocol → List AuthorizationPolicy → List RbacPolicy
policies_on protocol policies = in_order name_before (flat_map (rule_policies protocol) policies)

-- ---- the filter

-- ALLOW refuses what no rule holds for, DENY what one holds for, and AUDIT marks it. CUSTOM tells by shadow rules of DENY.
abbrev pub rbac_action : Action → RbacAction
rbac_action Allow = rbac.Allow
rbac_action Deny = rbac.Deny
rbac_action Audit = rbac.Log
rbac_action Custom = rbac.Deny

-- the filter of the policies of an action on a port, whose rules decide
unfoldable pub rbac_on : Protocol → Action → List AuthorizationPolicy → Rbac
rbac_on protocol action policies = record {
  rules = Some (record { action = rbac_action action; policies = policies_on protocol policies });
  shadow = None;
  shadow_prefix = [];
}

-- on a TCP port
abbrev pub tcp_rbac : Action → List AuthorizationPolicy → Rbac
tcp_rbac = rbac_on Tcp

-- on an HTTP port
abbrev pub http_rbac : Action → List AuthorizationPolicy → Rbac
http_rbac = rbac_on Http

-- ---- what it decides

-- On an HTTP port a request is judged. On a TCP port none has to be seen.
abbrev pub IsJudgedOn : Protocol → Case → Seen → Type 0
IsJudgedOn Tcp case seen = Unit {0}
IsJudgedOn Http case seen = IsTrue (is_some (seen_request case seen))

-- The filter lets a case pass, and marks it, as its action does where some rule of the policies holds, whatever is seen of the peer.
pub record DecidesOn (protocol : Protocol) (filter : Rbac) (action : Action) (policies : List AuthorizationPolicy) : Type 0 where
  pub passes : (case : Case) (seen : Seen) → HasNamedPeer case → IsJudgedOn protocol case seen
      → rbac_passes filter.rules case seen ≡ action_passes (rbac_action action) (some_holds protocol case seen policies)
  pub marks : (case : Case) (seen : Seen) → HasNamedPeer case → IsJudgedOn protocol case seen
      → rbac_marks filter.rules case seen ≡ action_marks (rbac_action action) (some_holds protocol case seen policies)

-- the policies of rules, where there are rules
abbrev pub policies_in : Option Rules → List RbacPolicy
policies_in None = []
policies_in (Some rules) = rules.policies

-- A rule holds exactly where the policy does that it has in the filter, and nowhere where it has none.
abbrev pub HoldsAsItsPolicy : Protocol → Rbac → AuthorizationPolicy → ℕ × Rule → Type 0
HoldsAsItsPolicy protocol filter policy entry =
    (case : Case) (seen : Seen) → HasNamedPeer case → IsJudgedOn protocol case seen
    → holds_on protocol case seen policy.action entry.1
    ≡ list_any (λ p. bytes_eq p.name (rule_name policy entry.0) && policy_holds p case seen) (policies_in filter.rules)

-- so for each rule of each policy
abbrev pub RulesHoldAsPolicies : Protocol → Rbac → List AuthorizationPolicy → Type 0
RulesHoldAsPolicies protocol filter policies =
    All (λ policy. All (HoldsAsItsPolicy protocol filter policy) (enumerate_from 0 policy.rules)) policies
