-- What the filters of both kinds of chains do and hit.
use Rattle.std.specs.Prelude.{ℕ}
use Rattle.mesh_policy.specs.Attributes.{Seen}
use Rattle.mesh_policy.specs.declared.case.Case.{Case}
use Rattle.envoy_types.specs.Run.{RunState, Step, run_authz, run_jwt, run_rbac}
use Rattle.envoy_types.specs.declared.chains.HttpFilter.{HttpFilter}
use Rattle.envoy_types.specs.declared.chains.HttpFilter.TheVariants as http
use Rattle.envoy_types.specs.declared.chains.NetworkFilter.{NetworkFilter}
use Rattle.envoy_types.specs.declared.chains.NetworkFilter.TheVariants as network
use Rattle.envoy_eval.specs.Hits.{no_hits, hits_of_rbac}
use Rattle.envoy_eval.specs.declared.filters.Part.{Part}
use Rattle.envoy_eval.specs.declared.filters.Part.TheVariants.{Jwt, Rbac, ExtAuthz}
use Rattle.envoy_eval.specs.declared.hits.StageHits.{StageHits}

-- what a filter does
abbrev pub run_part : Case → Part → RunState → Step
run_part case (Jwt jwt) state = run_jwt jwt.now case state
run_part case (Rbac rbac) state = run_rbac rbac.now case state
run_part case (ExtAuthz authz) state = run_authz authz.now case state

-- what it hits: the filters of access control alone have policies
abbrev pub hits_of_part : ℕ → Case → Part → Seen → StageHits
hits_of_part at case (Jwt jwt) seen = no_hits
hits_of_part at case (Rbac rbac) seen = hits_of_rbac at case rbac.now seen
hits_of_part at case (ExtAuthz authz) seen = no_hits

-- the same of a filter of a TCP chain
abbrev pub hits_of_network : ℕ → Case → NetworkFilter → Seen → StageHits
hits_of_network at case (network.Rbac rbac) seen = hits_of_rbac at case rbac seen
hits_of_network at case (network.ExtAuthz authz) seen = no_hits

-- and of one of an HTTP chain
abbrev pub hits_of_http : ℕ → Case → HttpFilter → Seen → StageHits
hits_of_http at case (http.Jwt jwt) seen = no_hits
hits_of_http at case (http.Rbac rbac) seen = hits_of_rbac at case rbac seen
hits_of_http at case (http.ExtAuthz authz) seen = no_hits
