-- The JSON of role-based access control filters (Envoy v3 API reference, `config.rbac.v3`,
-- `extensions.filters.http.rbac.v3.RBAC` and `extensions.filters.network.rbac.v3.RBAC`).
use Rattle.std.specs.Prelude.{ℕ, Bool, true, ◌&&◌, List, [], ◌∷◌, ◌++◌, Option, Some, None, is_some, unwrap_or, if◌then◌else◌}
use Rattle.std.specs.List.{list_all}
use Rattle.std.specs.Str.{bytes_eq}
use Rattle.serde_json.specs.Data.{Data, string}
use Rattle.mesh_doc.specs.Faults.{Check, ◌⨾◌}
use Rattle.mesh_doc.specs.Fields.{strict, optional_written, optional_written_in, required_written, required_written_in}
use Rattle.mesh_doc.specs.Kinds.{text_faults, text_in}
use Rattle.mesh_doc.specs.Maps.{map_of, map_in}
use Rattle.mesh_doc.specs.Tested.{tested}
use Rattle.mesh_doc.specs.declared.reason.Reason.TheVariants as reason
use Rattle.envoy_types.specs.Access.{Rules}
use Rattle.envoy_types.specs.Order.{names_rise}
use Rattle.envoy_types.specs.PermissionForms.{permission_form}
use Rattle.envoy_types.specs.PrincipalForms.{principal_form}
use Rattle.envoy_types.specs.SmallForms.{config_in, fixed_faults, named_faults, type_faults}
use Rattle.envoy_types.specs.TreeForms.{tree_list_faults, tree_list_in, tree_list_is_printable, tree_written}
use Rattle.envoy_types.specs.WrittenFields.{Field, config_written, field, list_written, map_written, named_written, object_of}
use Rattle.envoy_types.specs.WrittenFields.{optional_field, text_field}
use Rattle.envoy_types.specs.declared.access.Rbac.{Rbac}
use Rattle.envoy_types.specs.declared.access.RbacAction.{RbacAction}
use Rattle.envoy_types.specs.declared.access.RbacAction.TheVariants as action
use Rattle.envoy_types.specs.declared.access.RbacPolicy.{RbacPolicy}
use Rattle.envoy_types.specs.declared.fixed.TheConstants.{ALLOW, DENY, LOG, TCP_PREFIX}
use Rattle.envoy_types.specs.declared.keys.TheConstants.{ACTION, PERMISSIONS, POLICIES, PRINCIPALS, RULES, SHADOW_PREFIX, SHADOW_RULES}
use Rattle.envoy_types.specs.declared.keys.TheConstants.{STAT_PREFIX, TYPE}
use Rattle.envoy_types.specs.declared.names.TheConstants.{HTTP_RBAC_NAME, HTTP_RBAC_TYPE, NETWORK_RBAC_NAME, NETWORK_RBAC_TYPE}

-- ---- policies

-- `Policy`, under its name: one permission and one principal at least
unfoldable pub policy_faults : List ℕ → Check
policy_faults name =
    strict (PERMISSIONS.now ∷ PRINCIPALS.now ∷ [])
    (required_written PERMISSIONS.now (tree_list_faults permission_form)
    ⨾ required_written PRINCIPALS.now (tree_list_faults principal_form))

-- its permissions and principals, under its name
unfoldable pub policy_in : List ℕ → Data → RbacPolicy
policy_in name d = record {
  name = name;
  permissions = required_written_in PERMISSIONS.now (tree_list_in permission_form) d;
  principals = required_written_in PRINCIPALS.now (tree_list_in principal_form) d;
}

-- the lists of its permissions and of its principals
unfoldable pub policy_written : RbacPolicy → Data
policy_written policy = object_of
    (field PERMISSIONS.now (list_written (tree_written permission_form) policy.permissions)
    ∷ field PRINCIPALS.now (list_written (tree_written principal_form) policy.principals)
    ∷ [])

-- both lists can be written
unfoldable pub policy_is_printable : RbacPolicy → Bool
policy_is_printable policy =
    tree_list_is_printable permission_form policy.permissions && tree_list_is_printable principal_form policy.principals

-- ---- rules

-- `RBAC.Action`, by its words
abbrev pub action_of : List ℕ → Option RbacAction
action_of word =
    if bytes_eq word ALLOW.now then Some action.Allow
    else if bytes_eq word DENY.now then Some action.Deny
    else if bytes_eq word LOG.now then Some action.Log
    else None

-- one of the three words
abbrev pub action_faults : Check
action_faults = tested (λ word. is_some (action_of word)) reason.BadForm

-- the action of the word
unfoldable pub action_in : Data → RbacAction
action_in d = unwrap_or (action_of (text_in d)) action.Allow

-- the word of an action
abbrev pub action_word : RbacAction → List ℕ
action_word action.Allow = ALLOW.now
action_word action.Deny = DENY.now
action_word action.Log = LOG.now

-- `RBAC`
unfoldable pub rules_faults : Check
rules_faults =
    strict (ACTION.now ∷ POLICIES.now ∷ [])
    (optional_written ACTION.now action_faults
    ⨾ required_written POLICIES.now (map_of policy_faults))

-- ALLOW is the action where none is written; policies stand in byte order of their names, as the members of an object do
unfoldable pub rules_in : Data → Rules
rules_in d = record {
  action = unwrap_or (optional_written_in ACTION.now action_in d) action.Allow;
  policies = required_written_in POLICIES.now (map_in policy_in) d;
}

-- the action is always written
unfoldable pub rules_written : Rules → Data
rules_written rules = object_of
    (field ACTION.now (string (action_word rules.action))
    ∷ field POLICIES.now (map_written (λ policy. policy.name) policy_written rules.policies)
    ∷ [])

-- names are distinct, and rise as the members of an object do
unfoldable pub rules_are_printable : Rules → Bool
rules_are_printable rules = names_rise (λ policy. policy.name) rules.policies && list_all policy_is_printable rules.policies

-- absent rules can be written
abbrev pub optional_rules_are_printable : Option Rules → Bool
optional_rules_are_printable None = true
optional_rules_are_printable (Some rules) = rules_are_printable rules

-- ---- filters

-- what the configurations of both filters have
abbrev pub rbac_fields_faults : Check
rbac_fields_faults =
    optional_written RULES.now rules_faults
    ⨾ optional_written SHADOW_RULES.now rules_faults
    ⨾ optional_written SHADOW_PREFIX.now text_faults

-- `extensions.filters.http.rbac.v3.RBAC`
unfoldable pub http_rbac_config_faults : Check
http_rbac_config_faults =
    strict (TYPE.now ∷ RULES.now ∷ SHADOW_RULES.now ∷ SHADOW_PREFIX.now ∷ [])
    (type_faults HTTP_RBAC_TYPE.now ⨾ rbac_fields_faults)

-- `extensions.filters.network.rbac.v3.RBAC`
unfoldable pub network_rbac_config_faults : Check
network_rbac_config_faults =
    strict (TYPE.now ∷ RULES.now ∷ SHADOW_RULES.now ∷ SHADOW_PREFIX.now ∷ STAT_PREFIX.now ∷ [])
    (type_faults NETWORK_RBAC_TYPE.now
    ⨾ rbac_fields_faults
    ⨾ required_written STAT_PREFIX.now (fixed_faults TCP_PREFIX.now))

-- the filter of HTTP chains under its name
abbrev pub http_rbac_faults : Check
http_rbac_faults = named_faults HTTP_RBAC_NAME.now http_rbac_config_faults

-- the filter of TCP chains under its name
abbrev pub network_rbac_faults : Check
network_rbac_faults = named_faults NETWORK_RBAC_NAME.now network_rbac_config_faults

-- of either configuration
unfoldable pub rbac_config_in : Data → Rbac
rbac_config_in d = record {
  rules = optional_written_in RULES.now rules_in d;
  shadow = optional_written_in SHADOW_RULES.now rules_in d;
  shadow_prefix = unwrap_or (optional_written_in SHADOW_PREFIX.now text_in d) [];
}

-- of either filter
abbrev pub rbac_in : Data → Rbac
rbac_in = config_in rbac_config_in

-- the same three fields written
abbrev pub rbac_fields : Rbac → List Field
rbac_fields rbac =
    optional_field RULES.now rules_written rbac.rules
    ∷ optional_field SHADOW_RULES.now rules_written rbac.shadow
    ∷ text_field SHADOW_PREFIX.now rbac.shadow_prefix
    ∷ []

-- a filter of HTTP chains
unfoldable pub http_rbac_written : Rbac → Data
http_rbac_written rbac = named_written HTTP_RBAC_NAME.now (config_written HTTP_RBAC_TYPE.now (rbac_fields rbac))

-- a filter of TCP chains, with its prefix of statistics
unfoldable pub network_rbac_written : Rbac → Data
network_rbac_written rbac = named_written NETWORK_RBAC_NAME.now (config_written NETWORK_RBAC_TYPE.now
    (rbac_fields rbac ++ field STAT_PREFIX.now (string TCP_PREFIX.now) ∷ []))

-- both kinds of rules can be written; every prefix goes
unfoldable pub rbac_is_printable : Rbac → Bool
rbac_is_printable rbac = optional_rules_are_printable rbac.rules && optional_rules_are_printable rbac.shadow
