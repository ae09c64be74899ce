-- The filter that is made of these parts is that of the definition.
use Rattle.std.proofs.Common.{◌≡◌, ℕ, List, [], Some, None}
use Rattle.mesh_policy.specs.declared.policy.Action.{Action}
use Rattle.mesh_policy.specs.declared.policy.AuthorizationPolicy.{AuthorizationPolicy}
use Rattle.mesh_policy.specs.declared.service.Protocol.{Protocol}
use Rattle.envoy_types.specs.declared.access.Rbac.{Rbac}
use Rattle.envoy_types.specs.declared.access.RbacAction.{RbacAction}
use Rattle.envoy_types.specs.declared.access.RbacPolicy.{RbacPolicy}
use Rattle.authz_gen.specs.Policies.{policies_on, rbac_action, rbac_on}

abbrev pub made_of : RbacAction → List RbacPolicy → List ℕ → Rbac
made_of action policies prefix = record {
  rules = Some
      (record { action = action; policies = policies });
  shadow = None;
  shadow_prefix = prefix;
}

pub made-is : (protocol : Protocol) (action : Action) (policies : List AuthorizationPolicy) (a : RbacAction) (made : List RbacPolicy)
    (prefix : List ℕ) → a ≡ rbac_action action → made ≡ policies_on protocol policies → prefix ≡ []
    → made_of a made prefix ≡ rbac_on protocol action policies
unfolding rbac_on
made-is protocol action policies a made prefix same given empty =
    λ i. record { rules = Some (record { action = same i; policies = given i }); shadow = None; shadow_prefix = empty i }
