-- What the filters of a chain decide, one after another (Envoy reference, "HTTP filters" and "Network filters").
use Rattle.std.specs.Prelude.{ℕ, Bool, not, ◌||◌, ◌++◌, List, [], ◌∷◌, find, codes, Option, Some, None, if◌then◌else◌}
use Rattle.std.specs.Option.{option_map}
use Rattle.std.specs.Str.{bytes_eq}
use Rattle.mesh_policy.specs.Attributes.{Seen}
use Rattle.mesh_policy.specs.declared.case.Case.{Case}
use Rattle.mesh_policy.specs.declared.token_verdict.ClaimField.{ClaimField}
use Rattle.envoy_types.specs.Access.{rbac_marks, rbac_passes, shadow_name}
use Rattle.envoy_types.specs.Authz.{is_asked, service_passes}
use Rattle.envoy_types.specs.Jwt.{Authentication, claims_by, required, requirement_holds}
use Rattle.envoy_types.specs.declared.access.Rbac.{Rbac}
use Rattle.envoy_types.specs.declared.authz.ExtAuthz.{ExtAuthz}
use Rattle.envoy_types.specs.declared.chains.HttpFilter.{HttpFilter}
use Rattle.envoy_types.specs.declared.chains.HttpFilter.TheVariants as http
use Rattle.envoy_types.specs.declared.chains.NetworkFilter.{NetworkFilter}
use Rattle.envoy_types.specs.declared.chains.NetworkFilter.TheVariants as network
use Rattle.envoy_types.specs.declared.jwt.Requirement.{Requirement}

-- Names of policies by their metadata keys. Of two entries of one key the first counts, which is the later one.
abbrev pub Names : Type 0
Names = List (List ℕ × List ℕ)

-- the name at a key, if there is one
abbrev pub name_of : List ℕ → Names → Option (List ℕ)
name_of key names = option_map (λ entry. entry.1) (find (λ entry. bytes_eq entry.0 key) names)

-- a name set at a key, where there is one
abbrev pub set_name : List ℕ → Option (List ℕ) → Names → Names
set_name key None names = names
set_name key (Some name) names = (key, name) ∷ names

-- what stands before a filter
pub record RunState : Type 0 where
  -- whether an HTTP chain judges a request, whether the peer's name is known, and the claims of a valid token
  pub seen : Seen
  -- the audit mark
  pub audited : Bool
  -- what shadow rules have told
  pub names : Names

-- what a filter says: go on, refuse for want of a valid token (401), or refuse
pub data Decision : Type 0 where
  goes_on : Decision
  unauthenticated : Decision
  refuses : Decision

-- what it says, and what stands behind it
pub record Step : Type 0 where
  pub decision : Decision
  pub state : RunState

-- go on from a state, or refuse there
abbrev pub step_if : Bool → RunState → Step
step_if passes state = record { decision = if passes then goes_on else refuses; state = state }

-- ---- RBAC (Envoy reference, "Role Based Access Control (RBAC) Filter")

-- where the shadow rules tell the policy that holds
abbrev pub shadow_key : Rbac → List ℕ
shadow_key rbac = rbac.shadow_prefix ++ codes "shadow_effective_policy_id"

-- Shadow rules tell the name of the policy that holds and do nothing else. LOG sets the mark where a policy holds.
abbrev pub after_rbac : Rbac → Case → RunState → RunState
after_rbac rbac case state = record {
  seen = state.seen;
  audited = state.audited || rbac_marks rbac.rules case state.seen;
  names = set_name (shadow_key rbac) (shadow_name rbac.shadow case state.seen) state.names;
}

-- the rules decide
abbrev pub run_rbac : Rbac → Case → RunState → Step
run_rbac rbac case state = step_if (rbac_passes rbac.rules case state.seen) (after_rbac rbac case state)

-- ---- ext_authz (Envoy reference, "External Authorization")

-- Where the metadata has nothing at the filter's key, or a name that doesn't match, nobody is asked.
abbrev pub run_authz : ExtAuthz → Case → RunState → Step
run_authz filter case state =
    step_if (not (is_asked filter (name_of filter.enabled_key state.names)) || service_passes filter case) state

-- ---- jwt_authn (Envoy reference, "JWT Authentication")

-- claims that are set replace those from before
abbrev pub with_claims : Option (List ClaimField) → RunState → RunState
with_claims None state = state
with_claims (Some claims) state = record {
  seen = record { request = state.seen.request; peer = state.seen.peer; claims = Some claims };
  audited = state.audited;
  names = state.names;
}

-- without a requirement the filter goes on
abbrev pub run_required : Authentication → Case → RunState → Option Requirement → Step
run_required jwt case state None = record { decision = goes_on; state = state }
run_required jwt case state (Some requirement) =
    if requirement_holds jwt.providers requirement case
    then record { decision = goes_on; state = with_claims (claims_by jwt.providers requirement case) state }
    else record { decision = unauthenticated; state = state }

-- the token filter takes the requirement of its first rule for the path
abbrev pub run_jwt : Authentication → Case → RunState → Step
run_jwt jwt case state = run_required jwt case state (required jwt case)

-- ---- the filters of a chain

-- a network filter
abbrev pub run_network : Case → NetworkFilter → RunState → Step
run_network case (network.Rbac rbac) state = run_rbac rbac case state
run_network case (network.ExtAuthz authz) state = run_authz authz case state

-- an HTTP filter
abbrev pub run_http : Case → HttpFilter → RunState → Step
run_http case (http.Jwt jwt) state = run_jwt jwt case state
run_http case (http.Rbac rbac) state = run_rbac rbac case state
run_http case (http.ExtAuthz authz) state = run_authz authz case state

-- a refusal ends the run
abbrev pub then_run : Decision → RunState → (RunState → Step) → Step
then_run goes_on state next = next state
then_run unauthenticated state next = record { decision = unauthenticated; state = state }
then_run refuses state next = record { decision = refuses; state = state }

-- the filters in order, each with what those before it left
abbrev pub run_filters : {F : Type 0} → (F → RunState → Step) → List F → RunState → Step
run_filters run [] state = record { decision = goes_on; state = state }
run_filters run (filter ∷ filters) state =
    then_run (run filter state).decision (run filter state).state (run_filters run filters)
