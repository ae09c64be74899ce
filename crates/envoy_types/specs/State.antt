-- What the filters of a chain know of a case, and the words for matchers of what may be absent.
use Rattle.std.specs.Prelude.{ℕ, Bool, false, List, Option, Some, None}
use Rattle.std.specs.List.{slice_get}
use Rattle.std.specs.Option.{option_and_then, option_map}
use Rattle.mesh_policy.specs.Attributes.{Seen}
use Rattle.mesh_policy.specs.declared.case.Case.{Case}
use Rattle.mesh_policy.specs.declared.token_verdict.ClaimField.{ClaimField}
use Rattle.envoy_types.specs.declared.state.State.{State}

-- the claims of the token verdict at a position of the case, and none without one
abbrev pub claims_of : Case → Option ℕ → Option (List ClaimField)
claims_of case position = option_map (λ verdict. verdict.claims) (option_and_then (slice_get case.verdicts) position)

-- what a state says is known: whether a request is judged, whether the peer's name is known, and the claims
abbrev pub seen_of : Case → State → Seen
seen_of case state = record { request = state.request_seen; peer = state.peer_seen; claims = claims_of case state.verdict }

-- a test of a value that may be absent: what is absent matches nothing
abbrev pub holds_of : {A : Type 0} → (A → Bool) → Option A → Bool
holds_of test None = false
holds_of test (Some x) = test x
