-- Values without fault are those of filters of role-based access control that can be written, if the names of policies rise.
use Rattle.std.proofs.Common.{◌≡◌, ℕ, true, List, Option, Some, None, refl}
use Rattle.std.proofs.lemmas.Bool.{and_from, and_parts}
use Rattle.std.proofs.lemmas.List.Sums.{list_all-from_AllPass}
use Rattle.std.specs.Bool.{⊤}
use Rattle.std.specs.Option.{ForSome}
use Rattle.mesh_doc.proofs.NoFault as no_fault
use Rattle.mesh_doc.proofs.NoFault.{Ensures, ◌⨾⨾◌, anything, strict_object}
use Rattle.mesh_doc.specs.Fields.{required_written_in}
use Rattle.mesh_doc.specs.Maps.{map_in}
use Rattle.envoy_types.specs.Access.{Rules}
use Rattle.envoy_types.specs.RbacForms.{action_faults, action_in, http_rbac_config_faults, http_rbac_faults, network_rbac_config_faults}
use Rattle.envoy_types.specs.RbacForms.{network_rbac_faults, optional_rules_are_printable, policy_faults, policy_in, policy_is_printable}
use Rattle.envoy_types.specs.RbacForms.{rbac_config_in, rbac_fields_faults, rbac_in, rbac_is_printable, rules_are_printable, rules_faults}
use Rattle.envoy_types.specs.RbacForms.{rules_in}
use Rattle.envoy_types.specs.declared.access.Rbac.{Rbac}
use Rattle.envoy_types.specs.declared.keys.TheConstants.{ACTION, PERMISSIONS, POLICIES, PRINCIPALS, RULES, SHADOW_PREFIX, SHADOW_RULES}
use Rattle.envoy_types.specs.declared.names.TheConstants.{HTTP_RBAC_NAME, NETWORK_RBAC_NAME}
use Rattle.listener_reader.proofs.PartsPrintable.{any-text, behind, in-front, named}
use Rattle.listener_reader.proofs.PermissionsPrintable.{permissions-printable}
use Rattle.listener_reader.proofs.PrincipalsPrintable.{principals-printable}
use Rattle.listener_reader.specs.RisingNames.{optional_rules_rise, rbac_rises, rules_rise}

-- ---- policies

policy-printable : (name : List ℕ) → Ensures (policy_faults name) (policy_in name) (λ policy. policy_is_printable policy ≡ true)
unfolding policy_faults policy_in policy_is_printable
policy-printable name = strict_object _ (record {
  holds = λ d at h.
      let parts = (no_fault.required_written PERMISSIONS.now permissions-printable
      ⨾⨾ no_fault.required_written PRINCIPALS.now principals-printable).holds d at h in
      and_from _ _ parts.0 parts.1;
})

-- ---- rules

any-action : Ensures action_faults action_in (λ _. ⊤)
any-action = anything

-- rules that can be written, if their names rise
abbrev Printable : Rules → Type 0
Printable rules = rules_rise rules ≡ true → rules_are_printable rules ≡ true

rules-printable : Ensures rules_faults rules_in Printable
unfolding rules_faults rules_in rules_are_printable
rules-printable = strict_object _ (record {
  holds = λ d at h rise.
      let parts = (no_fault.optional_written ACTION.now any-action
      ⨾⨾ no_fault.required_written POLICIES.now (no_fault.map_of policy-printable)).holds d at h in
      and_from _ _ rise (list_all-from_AllPass policy_is_printable (required_written_in POLICIES.now (map_in policy_in) d) parts.1);
})

optional-printable : (found : Option Rules) → ForSome found Printable → optional_rules_rise found ≡ true
    → optional_rules_are_printable found ≡ true
optional-printable None h rise = refl
optional-printable (Some rules) h rise = h rules refl rise

-- ---- filters

-- a filter that can be written, if its names rise
abbrev pub PrintableRbac : Rbac → Type 0
PrintableRbac rbac = rbac_rises rbac ≡ true → rbac_is_printable rbac ≡ true

fields-printable : Ensures rbac_fields_faults rbac_config_in PrintableRbac
unfolding rbac_config_in rbac_is_printable rbac_rises
fields-printable = record {
  holds = λ d at h rise.
      let parts = (no_fault.optional_written RULES.now rules-printable
      ⨾⨾ no_fault.optional_written SHADOW_RULES.now rules-printable
      ⨾⨾ no_fault.optional_written SHADOW_PREFIX.now any-text).holds d at h in
      let both = and_parts (optional_rules_rise (rbac_config_in d).rules) (optional_rules_rise (rbac_config_in d).shadow) rise in
      and_from _ _ (optional-printable (rbac_config_in d).rules parts.0 both.0)
      (optional-printable (rbac_config_in d).shadow parts.1.0 both.1);
}

pub http-rbac-printable : Ensures http_rbac_faults rbac_in PrintableRbac
unfolding http_rbac_config_faults
http-rbac-printable = named HTTP_RBAC_NAME.now (strict_object _ (behind fields-printable))

pub network-rbac-printable : Ensures network_rbac_faults rbac_in PrintableRbac
unfolding network_rbac_config_faults
network-rbac-printable = named NETWORK_RBAC_NAME.now (strict_object _ (behind (in-front fields-printable)))
