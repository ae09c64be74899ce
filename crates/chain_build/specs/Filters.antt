-- What a chain does with a connection: the filters that enforce the policies, in the order in which the actions decide (Istio reference,
-- "Authorization Policy"), and the cluster behind them.
use Rattle.std.specs.Prelude.{ℕ, ◌==◌, List, [], ◌∷◌, ◌++◌, length, map, if◌then◌else◌}
use Rattle.mesh_policy.specs.Workload.{Workload}
use Rattle.mesh_policy.specs.declared.policy.Action.{Action}
use Rattle.mesh_policy.specs.declared.policy.Action.TheVariants.{Allow, Deny, Audit}
use Rattle.mesh_policy.specs.declared.policy.AuthorizationPolicy.{AuthorizationPolicy}
use Rattle.mesh_policy.specs.declared.service.Protocol.{Protocol}
use Rattle.mesh_policy.specs.declared.service.Protocol.TheVariants.{Http, Tcp}
use Rattle.envoy_types.specs.declared.access.Rbac.{Rbac}
use Rattle.envoy_types.specs.declared.chains.ChainBody.{ChainBody}
use Rattle.envoy_types.specs.declared.chains.ChainBody.TheVariants as body
use Rattle.envoy_types.specs.declared.chains.HttpFilter.TheVariants as http
use Rattle.envoy_types.specs.declared.chains.NetworkFilter.TheVariants as network
use Rattle.authz_gen.specs.Policies.{rbac_on}

-- the filter of the policies of an action, where one applies
abbrev pub rbac_for : Protocol → Action → List AuthorizationPolicy → List Rbac
rbac_for protocol action policies = if length policies == 0 then [] else rbac_on protocol action policies ∷ []

-- AUDIT marks, then DENY refuses, then ALLOW does
unfoldable pub rbac_filters : Protocol → Workload → List Rbac
rbac_filters protocol workload =
    rbac_for protocol Audit workload.audit ++ rbac_for protocol Deny workload.deny ++ rbac_for protocol Allow workload.allow

-- a TCP port has them for each connection, and an HTTP port for each request
unfoldable pub body_on : Protocol → Workload → (cluster : List ℕ) → ChainBody
body_on Tcp workload cluster = body.Tcp (map network.Rbac (rbac_filters Tcp workload)) cluster
body_on Http workload cluster = body.Http (map http.Rbac (rbac_filters Http workload)) cluster
