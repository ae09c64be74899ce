-- The `spec` of an AuthorizationPolicy (Istio reference, "Authorization Policy").
use Rattle.std.specs.Prelude.{ℕ, List, [], ◌∷◌, Option, Some, None, is_some, unwrap_or, if◌then◌else◌}
use Rattle.std.specs.Str.{bytes_eq}
use Rattle.serde_json.specs.Data.{Data}
use Rattle.mesh_doc.specs.Faults.{Check, ◌⨾◌, ◌▸◌, demands}
use Rattle.mesh_doc.specs.Fields.{strict, required, required_in, optional, optional_in}
use Rattle.mesh_doc.specs.Kinds.{text_faults, text_in}
use Rattle.mesh_doc.specs.Lists.{listed, listed_in}
use Rattle.mesh_doc.specs.declared.reason.Reason.TheVariants as reason
use Rattle.mesh_policy.specs.Values.{belongs}
use Rattle.mesh_policy.specs.declared.policy.Action.{Action}
use Rattle.mesh_policy.specs.declared.policy.Action.TheVariants as action
use Rattle.mesh_policy.specs.declared.policy.AuthorizationPolicy.{AuthorizationPolicy}
use Rattle.policy_json.specs.Labels.{selector_faults, selector_in}
use Rattle.policy_json.specs.Rules.{rule_faults, rule_in}
use Rattle.policy_json.specs.TargetRefs.{targets_faults}
use Rattle.policy_json.specs.Texts.{token_faults}
use Rattle.policy_json.specs.declared.authorization.TheConstants.{ACTION, PROVIDER, RULES, NAME, ALLOW, DENY, AUDIT, CUSTOM}
use Rattle.policy_json.specs.declared.labels.TheConstants.{SELECTOR}
use Rattle.policy_json.specs.declared.target_refs.TheConstants.{TARGET_REFS, TARGET_REF}

-- ---- action and provider

-- AuthorizationPolicy.Action, by its words
abbrev pub action_of : List ℕ → Option Action
action_of word =
    if bytes_eq word ALLOW.now then Some action.Allow
    else if bytes_eq word DENY.now then Some action.Deny
    else if bytes_eq word AUDIT.now then Some action.Audit
    else if bytes_eq word CUSTOM.now then Some action.Custom
    else None

-- a text that is one of the words
unfoldable pub action_faults : Check
action_faults = text_faults ▸ demands (λ d. is_some (action_of (text_in d))) reason.BadEnum

-- the action of the word
unfoldable pub action_in : Data → Action
action_in d = unwrap_or (action_of (text_in d)) action.Allow

-- ExtensionProvider: the authorizer by its name, a token
unfoldable pub provider_faults : Check
provider_faults = strict (NAME.now ∷ []) (required NAME.now token_faults)

-- the name of the authorizer
unfoldable pub provider_in : Data → List ℕ
provider_in d = required_in NAME.now text_in d

-- ---- the whole

-- the action, ALLOW where none is written
abbrev pub action_or_allow : Data → Action
action_or_allow d = unwrap_or (optional_in ACTION.now action_in d) action.Allow

-- a policy has a provider exactly where its action is CUSTOM
unfoldable pub authorization_faults : Check
authorization_faults = strict (SELECTOR.now ∷ TARGET_REFS.now ∷ TARGET_REF.now ∷ ACTION.now ∷ PROVIDER.now ∷ RULES.now ∷ [])
    (optional SELECTOR.now selector_faults
    ⨾ targets_faults
    ⨾ optional ACTION.now action_faults
    ⨾ optional PROVIDER.now provider_faults
    ⨾ listed RULES.now 2048 rule_faults
    ⨾ demands (λ d. belongs (action_or_allow d) (optional_in PROVIDER.now provider_in d)) reason.ProviderRule)

-- AuthorizationPolicy
unfoldable pub authorization_in : List ℕ → List ℕ → Data → AuthorizationPolicy
authorization_in name namespace d = record {
  name = name;
  namespace = namespace;
  labels = unwrap_or (optional_in SELECTOR.now selector_in d) [];
  action = action_or_allow d;
  provider = optional_in PROVIDER.now provider_in d;
  rules = listed_in RULES.now rule_in d;
}
