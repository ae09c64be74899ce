-- The trace of a case through a listener: the chain that it goes to, the policies that the filters which run have hit, and the
-- verdict (Envoy reference, "Listener filter chain match", "HTTP filters", "Network filters").
use Rattle.std.specs.Prelude.{ℕ, Bool, true, false, not, ◌&&◌, List, Option, Some, None, is_none, is_some, if◌then◌else◌}
use Rattle.std.specs.List.{slice_get}
use Rattle.std.specs.Option.{option_and_then}
use Rattle.mesh_policy.specs.declared.case.Case.{Case}
use Rattle.mesh_policy.specs.declared.verdict.Verdict.{Verdict}
use Rattle.envoy_types.specs.Chosen.{chosen}
use Rattle.envoy_types.specs.ListenerVerdict as meaning
use Rattle.envoy_types.specs.ListenerVerdict.{envoy_verdict, shows_peer}
use Rattle.envoy_types.specs.Run.{run_http, run_network}
use Rattle.envoy_types.specs.declared.chains.ChainBody.{ChainBody}
use Rattle.envoy_types.specs.declared.chains.ChainBody.TheVariants.{Tcp, Http}
use Rattle.envoy_types.specs.declared.chains.FilterChain.{FilterChain}
use Rattle.envoy_types.specs.declared.chains.HttpFilter.{HttpFilter}
use Rattle.envoy_types.specs.declared.chains.Listener.{Listener}
use Rattle.envoy_types.specs.declared.state.State.{State}
use Rattle.envoy_eval.specs.Filters.{hits_of_http, hits_of_network}
use Rattle.envoy_eval.specs.Hits as words
use Rattle.envoy_eval.specs.Runs.{run_hits}
use Rattle.envoy_eval.specs.declared.hits.Hits.{Hits}
use Rattle.envoy_eval.specs.declared.hits.StageHits.{StageHits}

-- no filter has a hit
abbrev pub no_hits : StageHits
no_hits = words.no_hits

-- what is known before the first filter: no token is
abbrev pub start : (is_http mutual_tls : Bool) → State
start is_http mutual_tls = record { request_seen = is_http; peer_seen = mutual_tls; verdict = None }

-- the filters of an HTTP chain run where it can read the connection, and a request is there
abbrev pub http_hits : (mutual_tls : Bool) → List HttpFilter → Case → StageHits
http_hits mutual_tls filters case =
    if not mutual_tls && is_some case.tls then no_hits
    else (if is_none case.request then no_hits
    else run_hits (run_http case) (λ at filter seen. hits_of_http at case filter seen) 0 filters (meaning.start true mutual_tls))

-- those of a TCP chain always run
abbrev pub body_hits : (mutual_tls : Bool) → ChainBody → Case → StageHits
body_hits mutual_tls (Tcp filters cluster) case =
    run_hits (run_network case) (λ at filter seen. hits_of_network at case filter seen) 0 filters (meaning.start false mutual_tls)
body_hits mutual_tls (Http filters cluster) case = http_hits mutual_tls filters case

-- a chain with the TLS socket lets through only what shows a peer
abbrev pub chain_hits : FilterChain → Case → StageHits
chain_hits chain case =
    if chain.mutual_tls && not (shows_peer case.tls) then no_hits else body_hits chain.mutual_tls chain.body case

-- without a chain no filter runs
abbrev pub chosen_hits : Option FilterChain → Case → StageHits
chosen_hits None case = no_hits
chosen_hits (Some chain) case = chain_hits chain case

-- the hits beside the chain and the verdict
abbrev pub hits_with : Option ℕ → StageHits → Verdict → Hits
hits_with chain hits verdict = record {
  chain = chain;
  custom = hits.custom;
  audit = hits.audit;
  deny = hits.deny;
  allow = hits.allow;
  verdict = verdict;
}

-- the trace of a case through a listener
unfoldable pub trace_of : Listener → Case → Hits
trace_of listener case = hits_with (chosen listener case)
    (chosen_hits (option_and_then (slice_get listener.chains) (chosen listener case)) case) (envoy_verdict listener case)
