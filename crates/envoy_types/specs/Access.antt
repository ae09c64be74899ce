-- What RBAC rules decide (Envoy v3 API reference, `config.rbac.v3.RBAC`; Envoy reference, "Role Based Access Control
-- (RBAC) Filter").
use Rattle.std.specs.Prelude.{◌+◌, ℕ, Bool, true, false, not, ◌&&◌, List, [], ◌∷◌, Option, Some, None, is_some, if◌then◌else◌}
use Rattle.std.specs.List.{list_any, slice_get}
use Rattle.std.specs.Option.{option_and_then, option_map}
use Rattle.mesh_tree.specs.Judge.{tree_holds}
use Rattle.mesh_policy.specs.Attributes.{Seen}
use Rattle.mesh_policy.specs.declared.case.Case.{Case}
use Rattle.envoy_types.specs.Permission as permission
use Rattle.envoy_types.specs.Principal as principal
use Rattle.envoy_types.specs.declared.access.RbacAction.{RbacAction}
use Rattle.envoy_types.specs.declared.access.RbacAction.TheVariants.{Allow, Deny, Log}
use Rattle.envoy_types.specs.declared.access.RbacPolicy.{RbacPolicy}

-- rules as contracts see them
pub record Rules : Type 0 where
  -- what a policy that holds does
  pub action : RbacAction
  -- in byte order of their names
  pub policies : List RbacPolicy

-- where the first entry stands that passes a test
abbrev pub first_position : {A : Type 0} → (A → Bool) → List A → Option ℕ
first_position test [] = None
first_position test (x ∷ xs) = if test x then Some 0 else option_map (λ n. n + 1) (first_position test xs)

-- one permission and one principal hold
abbrev pub policy_holds : RbacPolicy → Case → Seen → Bool
policy_holds policy case seen =
    list_any (tree_holds (λ leaf. permission.leaf_holds leaf case seen)) policy.permissions
    && list_any (tree_holds (λ leaf. principal.leaf_holds leaf case seen)) policy.principals

-- the position of the first policy that holds, in byte order of names, as the policies stand
unfoldable pub effective : Rules → Case → Seen → Option ℕ
effective rules case seen = first_position (λ policy. policy_holds policy case seen) rules.policies

-- the name of the policy at a position
abbrev pub name_at : Rules → Option ℕ → Option (List ℕ)
name_at rules position = option_map (λ policy. policy.name) (option_and_then (slice_get rules.policies) position)

-- ALLOW passes where a policy holds, DENY where none does, LOG always
abbrev pub action_passes : RbacAction → Bool → Bool
action_passes Allow holds = holds
action_passes Deny holds = not holds
action_passes Log holds = true

-- LOG marks what a policy holds for
abbrev pub action_marks : RbacAction → Bool → Bool
action_marks Allow holds = false
action_marks Deny holds = false
action_marks Log holds = holds

-- absent rules let everything pass
abbrev pub rbac_passes : Option Rules → Case → Seen → Bool
rbac_passes None case seen = true
rbac_passes (Some rules) case seen = action_passes rules.action (is_some (effective rules case seen))

-- and mark nothing
abbrev pub rbac_marks : Option Rules → Case → Seen → Bool
rbac_marks None case seen = false
rbac_marks (Some rules) case seen = action_marks rules.action (is_some (effective rules case seen))

-- the name of the policy of shadow rules that holds, if there are such rules and one does
abbrev pub shadow_name : Option Rules → Case → Seen → Option (List ℕ)
shadow_name None case seen = None
shadow_name (Some rules) case seen = name_at rules (effective rules case seen)
