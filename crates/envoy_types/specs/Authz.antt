-- What an external authorizer decides (Envoy v3 API reference, `extensions.filters.http.ext_authz.v3.ExtAuthz` and
-- `extensions.filters.network.ext_authz.v3.ExtAuthz`).
use Rattle.std.specs.Prelude.{ℕ, Bool, List, find, Option, Some, None}
use Rattle.std.specs.Str.{bytes_eq}
use Rattle.mesh_policy.specs.declared.case.Case.{Case}
use Rattle.mesh_policy.specs.declared.token_verdict.Answer.{Answer}
use Rattle.envoy_types.specs.State.{holds_of}
use Rattle.envoy_types.specs.Strings.{string_holds}
use Rattle.envoy_types.specs.declared.authz.AuthService.{AuthService}
use Rattle.envoy_types.specs.declared.authz.AuthService.TheVariants.{Http, Grpc}
use Rattle.envoy_types.specs.declared.authz.ExtAuthz.{ExtAuthz}

-- the cluster that is asked
abbrev pub cluster_of : AuthService → List ℕ
cluster_of (Http cluster uri) = cluster
cluster_of (Grpc cluster) = cluster

-- the first answer of that cluster
abbrev pub answer_of : Case → List ℕ → Option Answer
answer_of case cluster = find (λ answer. bytes_eq answer.cluster cluster) case.answers

-- the answer decides, and without one `failure_mode_allow` does
abbrev pub answer_passes : (fail_open : Bool) → Option Answer → Bool
answer_passes fail_open None = fail_open
answer_passes fail_open (Some answer) = answer.allow

-- the authorizer is asked where the metadata value at the filter's key matches
abbrev pub is_asked : ExtAuthz → (value : Option (List ℕ)) → Bool
is_asked filter value = holds_of (string_holds filter.enabled) value

-- what it decides where it is asked
abbrev pub service_passes : ExtAuthz → Case → Bool
service_passes filter case = answer_passes filter.fail_open (answer_of case (cluster_of filter.service))
