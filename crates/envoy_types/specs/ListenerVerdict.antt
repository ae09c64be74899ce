-- The verdict of a listener for a case: the chain that is chosen, the chain's TLS socket, and its filters (Envoy reference,
-- "Listener filter chain match", "TLS transport socket", "HTTP connection management").
use Rattle.std.specs.Prelude.{Bool, true, false, not, ◌&&◌, [], Option, Some, None, is_none, is_some, if◌then◌else◌}
use Rattle.std.specs.List.{slice_get}
use Rattle.std.specs.Option.{option_and_then}
use Rattle.mesh_policy.specs.declared.case.Case.{Case}
use Rattle.mesh_policy.specs.declared.case.Tls.{Tls}
use Rattle.mesh_policy.specs.declared.verdict.Outcome.{Outcome}
use Rattle.mesh_policy.specs.declared.verdict.Outcome.TheVariants.{Admitted, Refused401, Refused403, Closed}
use Rattle.mesh_policy.specs.declared.verdict.Verdict.{Verdict}
use Rattle.envoy_types.specs.Chosen.{chosen}
use Rattle.envoy_types.specs.Run.{Decision, RunState, Step, goes_on, unauthenticated, refuses, run_filters, run_http, run_network}
use Rattle.envoy_types.specs.State.{holds_of}
use Rattle.envoy_types.specs.declared.chains.ChainBody.{ChainBody}
use Rattle.envoy_types.specs.declared.chains.ChainBody.TheVariants.{Tcp, Http}
use Rattle.envoy_types.specs.declared.chains.FilterChain.{FilterChain}
use Rattle.envoy_types.specs.declared.chains.Listener.{Listener}

-- an outcome without the audit mark
abbrev pub unmarked : Outcome → Verdict
unmarked outcome = record { outcome = outcome; audited = false }

-- there is TLS, and the peer has shown its certificate
abbrev pub shows_peer : Option Tls → Bool
shows_peer tls = holds_of (λ t. is_some t.peer) tls

-- What stands before the first filter: the peer's name is known where the chain has the TLS socket, and a request is
-- judged in an HTTP chain.
abbrev pub start : (is_http mutual_tls : Bool) → RunState
start is_http mutual_tls =
    record { seen = record { request = is_http; peer = mutual_tls; claims = None }; audited = false; names = [] }

-- by what the last filter that ran says, and by what a refusal is
abbrev pub outcome_of : (refusal : Outcome) → Decision → Outcome
outcome_of refusal goes_on = Admitted
outcome_of refusal unauthenticated = Refused401
outcome_of refusal refuses = refusal

-- with the mark so far
abbrev pub verdict_of : (refusal : Outcome) → Step → Verdict
verdict_of refusal step = record { outcome = outcome_of refusal step.decision; audited = step.state.audited }

-- A refusal closes a TCP connection. An HTTP chain without the socket can't read TLS; without a request there is nothing to
-- judge; and a refusal of a request is 403.
abbrev pub body_verdict : (mutual_tls : Bool) → ChainBody → Case → Verdict
body_verdict mutual_tls (Tcp filters cluster) case =
    verdict_of Closed (run_filters (run_network case) filters (start false mutual_tls))
body_verdict mutual_tls (Http filters cluster) case =
    if not mutual_tls && is_some case.tls then unmarked Closed
    else (if is_none case.request then unmarked Admitted
    else verdict_of Refused403 (run_filters (run_http case) filters (start true mutual_tls)))

-- a chain with the socket closes what shows no peer
abbrev pub chain_verdict : FilterChain → Case → Verdict
chain_verdict chain case =
    if chain.mutual_tls && not (shows_peer case.tls) then unmarked Closed
    else body_verdict chain.mutual_tls chain.body case

-- a connection that no chain is for is closed
abbrev pub verdict_by : Option FilterChain → Case → Verdict
verdict_by None case = unmarked Closed
verdict_by (Some chain) case = chain_verdict chain case

-- of the chain that is chosen
unfoldable pub envoy_verdict : Listener → Case → Verdict
envoy_verdict listener case = verdict_by (option_and_then (slice_get listener.chains) (chosen listener case)) case
