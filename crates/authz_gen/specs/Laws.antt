-- What holds of the filter of any policies of an action.
use Rattle.std.specs.Prelude.{◌≡◌, false, All, IsTrue, List, []}
use Rattle.mesh_policy.specs.AcceptedRules.{AcceptedPolicy}
use Rattle.mesh_policy.specs.Sizes.{is_over_limit, size_of}
use Rattle.mesh_policy.specs.declared.policy.Action.{Action}
use Rattle.mesh_policy.specs.declared.policy.AuthorizationPolicy.{AuthorizationPolicy}
use Rattle.mesh_policy.specs.declared.service.Protocol.{Protocol}
use Rattle.envoy_types.specs.RbacForms.{rbac_is_printable}
use Rattle.authz_gen.specs.Policies.{AreToldOn, ArePoliciesOf, DecidesOn, rbac_on}

-- It decides as the rules do.
abbrev pub FiltersDecide : Type 0
FiltersDecide = (protocol : Protocol) (action : Action) (policies : List AuthorizationPolicy) → All AcceptedPolicy policies
    → AreToldOn protocol policies → DecidesOn protocol (rbac_on protocol action policies) action policies

-- It can be written, where the policies keep the limits of a workload.
abbrev pub FiltersArePrintable : Type 0
FiltersArePrintable = (protocol : Protocol) (action : Action) (policies : List AuthorizationPolicy) → ArePoliciesOf action policies
    → is_over_limit (size_of policies []) ≡ false → IsTrue (rbac_is_printable (rbac_on protocol action policies))
