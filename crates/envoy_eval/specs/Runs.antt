-- What stands behind filters that all went on, and what the filters that ran have hit.
use Rattle.std.specs.Prelude.{ℕ, ◌+◌, Bool, true, false, List, [], ◌∷◌}
use Rattle.mesh_policy.specs.Attributes.{Seen}
use Rattle.mesh_policy.specs.declared.case.Case.{Case}
use Rattle.envoy_types.specs.Run.{Decision, RunState, Step, goes_on, refuses, unauthenticated}
use Rattle.envoy_types.specs.State.{seen_of}
use Rattle.envoy_types.specs.declared.state.State.{State}
use Rattle.envoy_eval.specs.Hits.{first_hits, no_hits}
use Rattle.envoy_eval.specs.declared.hits.StageHits.{StageHits}

-- before the first filter nothing is marked, and no shadow rules have told a name
abbrev pub begin : Case → State → RunState
begin case state = record { seen = seen_of case state; audited = false; names = [] }

-- each filter takes what the one before it leaves
abbrev pub after : {F : Type 0} → (F → RunState → Step) → List F → RunState → RunState
after run [] state = state
after run (filter ∷ filters) state = after run filters (run filter state).state

-- whether the next filter is asked
abbrev pub is_going : Decision → Bool
is_going goes_on = true
is_going unauthenticated = false
is_going refuses = false

-- what the filters behind one have hit: those that no refusal keeps from running
abbrev pub unless_refused : Decision → StageHits → StageHits
unless_refused goes_on hits = hits
unless_refused unauthenticated hits = no_hits
unless_refused refuses hits = no_hits

-- What the filters that were asked have hit, by the number of each: every one up to the first that doesn't let pass, and that
-- one. Where two of a stage hit, the earlier one is told.
abbrev pub run_hits : {F : Type 0} → (F → RunState → Step) → (ℕ → F → Seen → StageHits) → ℕ → List F → RunState → StageHits
run_hits run hits at [] state = no_hits
run_hits run hits at (filter ∷ filters) state =
    first_hits (hits at filter state.seen)
    (unless_refused (run filter state).decision (run_hits run hits (at + 1) filters (run filter state).state))
