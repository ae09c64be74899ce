-- What is written of role-based access control filters is read back.
use Rattle.std.proofs.Common.{◌≡◌, true, List, [], ◌∷◌, ◌++◌, Option, Some, None, option_map, unwrap_or, refl, ap, ◌∙◌}
use Rattle.std.proofs.lemmas.Bool.{and_parts}
use Rattle.serde_json.specs.Data.{string}
use Rattle.mesh_doc.specs.Kinds.{text_in}
use Rattle.mesh_doc.specs.Known.{is_known}
use Rattle.mesh_doc.specs.Maps.{map_in}
use Rattle.mesh_tree.specs.declared.tree.Tree.{Tree}
use Rattle.envoy_types.proofs.FieldsBack.{both, found, strict-object}
use Rattle.envoy_types.proofs.MapsBack.{map-back}
use Rattle.envoy_types.proofs.ObjectsBack.{optional-at, optional-field, optional-means, required-at, required-field, text-at}
use Rattle.envoy_types.proofs.PartsBack.{Back, fixed-passes, named-back, option-all, tested-back}
use Rattle.envoy_types.proofs.PermissionsBack.{permission-own-names, permission-reads-back, permission-writes}
use Rattle.envoy_types.proofs.PrincipalsBack.{principal-own-names, principal-reads-back, principal-writes}
use Rattle.envoy_types.proofs.TreesBack.{tree-list-back}
use Rattle.envoy_types.specs.Access.{Rules}
use Rattle.envoy_types.specs.PermissionForms.{permission_form}
use Rattle.envoy_types.specs.PrincipalForms.{principal_form}
use Rattle.envoy_types.specs.RbacForms.{action_faults, action_in, action_word, http_rbac_config_faults, http_rbac_faults, http_rbac_written}
use Rattle.envoy_types.specs.RbacForms.{network_rbac_config_faults, network_rbac_faults, network_rbac_written}
use Rattle.envoy_types.specs.RbacForms.{optional_rules_are_printable, policy_faults, policy_in, policy_is_printable, policy_written}
use Rattle.envoy_types.specs.RbacForms.{rbac_config_in, rbac_fields, rbac_fields_faults, rbac_in, rbac_is_printable, rules_are_printable}
use Rattle.envoy_types.specs.RbacForms.{rules_faults, rules_in, rules_written}
use Rattle.envoy_types.specs.TreeForms.{tree_list_faults, tree_list_in, tree_list_is_printable, tree_written}
use Rattle.envoy_types.specs.WrittenFields.{Field, are_different, field, field_names, list_written, map_written, object_of}
use Rattle.envoy_types.specs.WrittenFields.{text_field}
use Rattle.envoy_types.specs.declared.access.Rbac.{Rbac}
use Rattle.envoy_types.specs.declared.access.RbacAction.{RbacAction}
use Rattle.envoy_types.specs.declared.access.RbacAction.TheVariants as action
use Rattle.envoy_types.specs.declared.access.RbacPolicy.{RbacPolicy}
use Rattle.envoy_types.specs.declared.fixed.TheConstants.{TCP_PREFIX}
use Rattle.envoy_types.specs.declared.keys.TheConstants.{ACTION, PERMISSIONS, POLICIES, PRINCIPALS, RULES, SHADOW_PREFIX, SHADOW_RULES}
use Rattle.envoy_types.specs.declared.keys.TheConstants.{STAT_PREFIX, TYPE}
use Rattle.envoy_types.specs.declared.names.TheConstants.{HTTP_RBAC_NAME, HTTP_RBAC_TYPE, NETWORK_RBAC_NAME, NETWORK_RBAC_TYPE}
use Rattle.envoy_types.specs.declared.permission.PermissionLeaf.{PermissionLeaf}
use Rattle.envoy_types.specs.declared.principal.PrincipalLeaf.{PrincipalLeaf}

-- ---- policies

permissions-back : (trees : List (Tree PermissionLeaf)) → tree_list_is_printable permission_form trees ≡ true
    → Back (tree_list_faults permission_form) (tree_list_in permission_form) (list_written (tree_written permission_form) trees) trees
permissions-back = tree-list-back permission_form permission-own-names permission-writes permission-reads-back

principals-back : (trees : List (Tree PrincipalLeaf)) → tree_list_is_printable principal_form trees ≡ true
    → Back (tree_list_faults principal_form) (tree_list_in principal_form) (list_written (tree_written principal_form) trees) trees
principals-back = tree-list-back principal_form principal-own-names principal-writes principal-reads-back

policy-path : {one other : RbacPolicy} → one.name ≡ other.name → one.permissions ≡ other.permissions → one.principals ≡ other.principals
    → one ≡ other
policy-path e f g = λ i. record { name = e i; permissions = f i; principals = g i }

policy-back : (policy : RbacPolicy) → policy_is_printable policy ≡ true
    → Back (policy_faults policy.name) (policy_in policy.name) (policy_written policy) policy
unfolding policy_faults policy_in policy_written policy_is_printable is_known
policy-back policy h =
    let fs : List Field =
    field PERMISSIONS.now (list_written (tree_written permission_form) policy.permissions)
    ∷ field PRINCIPALS.now (list_written (tree_written principal_form) policy.principals)
    ∷ [] in
    let asked = required-field fs refl PERMISSIONS.now _ (tree_list_in permission_form) _ _ refl
    (permissions-back policy.permissions (and_parts _ _ h).0) in
    let asking = required-field fs refl PRINCIPALS.now _ (tree_list_in principal_form) _ _ refl
    (principals-back policy.principals (and_parts _ _ h).1) in
    record {
      passes = strict-object (PERMISSIONS.now ∷ PRINCIPALS.now ∷ []) _ fs refl (both asked.passes asking.passes);
      back = policy-path refl asked.back asking.back;
    }

-- ---- rules

action-back : (does : RbacAction) → Back action_faults action_in (string (action_word does)) does
unfolding action_in text_in
action-back action.Allow = record { passes = (tested-back _ _ (action_word action.Allow) refl).passes; back = refl }
action-back action.Deny = record { passes = (tested-back _ _ (action_word action.Deny) refl).passes; back = refl }
action-back action.Log = record { passes = (tested-back _ _ (action_word action.Log) refl).passes; back = refl }

rules-path : {one other : Rules} → one.action ≡ other.action → one.policies ≡ other.policies → one ≡ other
rules-path e f = λ i. record { action = e i; policies = f i }

rules-back : (rules : Rules) → rules_are_printable rules ≡ true → Back rules_faults rules_in (rules_written rules) rules
unfolding rules_faults rules_in rules_written rules_are_printable is_known
rules-back rules h =
    let fs : List Field =
    field ACTION.now (string (action_word rules.action))
    ∷ field POLICIES.now (map_written (λ policy. policy.name) policy_written rules.policies)
    ∷ [] in
    let does = action-back rules.action in
    let named = required-field fs refl POLICIES.now _ (map_in policy_in) _ rules.policies refl
    (map-back policy_faults policy_in (λ policy. policy.name) policy_written policy_is_printable policy-back
    rules.policies (and_parts _ _ h).0 (and_parts _ _ h).1) in
    record {
      passes = strict-object (ACTION.now ∷ POLICIES.now ∷ []) _ fs refl
          (both (optional-at fs refl ACTION.now _ _ refl does.passes) named.passes);
      back = rules-path
          (ap (λ o. unwrap_or o action.Allow) (optional-means fs refl ACTION.now action_in _ refl) ∙ does.back)
          named.back;
    }

all-rules : (o : Option Rules) → optional_rules_are_printable o ≡ true → option-all rules_are_printable o ≡ true
all-rules None h = refl
all-rules (Some rules) h = h

-- ---- filters

rbac-path : {one other : Rbac} → one.rules ≡ other.rules → one.shadow ≡ other.shadow → one.shadow_prefix ≡ other.shadow_prefix → one ≡ other
rbac-path e f g = λ i. record { rules = e i; shadow = f i; shadow_prefix = g i }

-- the fields of both filters, whatever fields stand beside them
fields-back : (fs : List Field) → are_different (field_names fs) ≡ true → (rbac : Rbac) → rbac_is_printable rbac ≡ true
    → found RULES.now fs ≡ option_map rules_written rbac.rules → found SHADOW_RULES.now fs ≡ option_map rules_written rbac.shadow
    → found SHADOW_PREFIX.now fs ≡ (text_field SHADOW_PREFIX.now rbac.shadow_prefix).1
    → Back rbac_fields_faults rbac_config_in (object_of fs) rbac
unfolding rbac_config_in rbac_is_printable
fields-back fs apart rbac h rules shadow prefix =
    let one = optional-field fs apart RULES.now rules_faults rules_in rules_written rules_are_printable rules-back rbac.rules rules
    (all-rules rbac.rules (and_parts _ _ h).0) in
    let two = optional-field fs apart SHADOW_RULES.now rules_faults rules_in rules_written rules_are_printable rules-back rbac.shadow shadow
    (all-rules rbac.shadow (and_parts _ _ h).1) in
    let three = text-at fs apart SHADOW_PREFIX.now rbac.shadow_prefix prefix in
    record { passes = both one.passes (both two.passes three.passes); back = rbac-path one.back two.back three.back }

pub http-rbac-back : (rbac : Rbac) → rbac_is_printable rbac ≡ true → Back http_rbac_faults rbac_in (http_rbac_written rbac) rbac
unfolding http_rbac_config_faults http_rbac_written is_known
http-rbac-back rbac h =
    let fs : List Field = field TYPE.now (string HTTP_RBAC_TYPE.now) ∷ rbac_fields rbac in
    let fields = fields-back fs refl rbac h refl refl refl in
    named-back HTTP_RBAC_NAME.now _ rbac_config_in (object_of fs) rbac (record {
      passes = strict-object (TYPE.now ∷ RULES.now ∷ SHADOW_RULES.now ∷ SHADOW_PREFIX.now ∷ []) _ fs refl
          (both (required-at fs refl TYPE.now _ _ refl (fixed-passes HTTP_RBAC_TYPE.now)) fields.passes);
      back = fields.back;
    })

pub network-rbac-back : (rbac : Rbac) → rbac_is_printable rbac ≡ true
    → Back network_rbac_faults rbac_in (network_rbac_written rbac) rbac
unfolding network_rbac_config_faults network_rbac_written is_known
network-rbac-back rbac h =
    let fs : List Field =
    field TYPE.now (string NETWORK_RBAC_TYPE.now) ∷ (rbac_fields rbac ++ field STAT_PREFIX.now (string TCP_PREFIX.now) ∷ []) in
    let fields = fields-back fs refl rbac h refl refl refl in
    named-back NETWORK_RBAC_NAME.now _ rbac_config_in (object_of fs) rbac (record {
      passes = strict-object (TYPE.now ∷ RULES.now ∷ SHADOW_RULES.now ∷ SHADOW_PREFIX.now ∷ STAT_PREFIX.now ∷ []) _ fs refl
          (both (required-at fs refl TYPE.now _ _ refl (fixed-passes NETWORK_RBAC_TYPE.now))
          (both fields.passes (required-at fs refl STAT_PREFIX.now _ _ refl (fixed-passes TCP_PREFIX.now))));
      back = fields.back;
    })
