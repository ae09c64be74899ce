-- The built listener gives each connection the verdict of the policies.
use Rattle.std.proofs.Common.{◌≡◌, ℕ, Bool, true, false, not, ◌&&◌, Option, Some, None, is_some}
use Rattle.std.proofs.Common.{Result, Ok, Err, IfOk, refl, ◌∙◌, ap}
use Rattle.mesh_policy.specs.Authenticated.{authenticated}
use Rattle.mesh_policy.specs.Connection.{offers_mesh_name, passage}
use Rattle.mesh_policy.specs.Verdicts as mesh
use Rattle.mesh_policy.specs.WellFormedCase.{WellFormedCase}
use Rattle.mesh_policy.specs.Workload.{Workload, mode_of, protocol_of}
use Rattle.mesh_policy.specs.declared.case.Case.{Case}
use Rattle.mesh_policy.specs.declared.case.Tls.{Tls}
use Rattle.mesh_policy.specs.declared.peer.Mode.{Mode}
use Rattle.mesh_policy.specs.declared.peer.Mode.TheVariants.{Disable, Permissive, Strict}
use Rattle.mesh_policy.specs.declared.request.Request.{Request}
use Rattle.mesh_policy.specs.declared.service.Protocol.{Protocol}
use Rattle.mesh_policy.specs.declared.service.Protocol.TheVariants.{Http, Tcp}
use Rattle.mesh_policy.specs.declared.verdict.Verdict.{Verdict}
use Rattle.mesh_select.specs.Workload.{KeepsLimits}
use Rattle.mesh_text.specs.declared.memory.Memory.{Memory}
use Rattle.envoy_types.specs.ListenerVerdict.{body_verdict, envoy_verdict, verdict_by}
use Rattle.envoy_types.specs.Run.{run_http, run_network}
use Rattle.envoy_types.specs.declared.chains.HttpFilter.{HttpFilter}
use Rattle.envoy_types.specs.declared.chains.HttpFilter.TheVariants as http
use Rattle.envoy_types.specs.declared.chains.Listener.{Listener}
use Rattle.envoy_types.specs.declared.chains.NetworkFilter.{NetworkFilter}
use Rattle.envoy_types.specs.declared.chains.NetworkFilter.TheVariants as network
use Rattle.peer_name.specs.Holds.{HasNamedPeer}
use Rattle.authz_gen.specs.Laws.{FiltersDecide}
use Rattle.chain_build.specs.Buildable.{IsBuildable}
use Rattle.chain_build.specs.Chains.{chain_for_port}
use Rattle.chain_build.specs.Filters.{body_on}
use Rattle.chain_build.specs.Listener.{built}
use Rattle.chain_build.proofs.Chosen.{body_at, chosen-chain, number_at}
use Rattle.chain_build.proofs.FiltersDecide.{filters-decide}
use Rattle.chain_build.proofs.Modes.{chain_for}

abbrev with_parts : Case → Option Tls → Option Request → Case
with_parts c tls request = record {
  source = c.source;
  remote = c.remote;
  destination = c.destination;
  port = c.port;
  tls = tls;
  request = request;
  verdicts = c.verdicts;
  answers = c.answers;
}

module _ (decide : FiltersDecide) (workload : Workload) (limits : KeepsLimits workload) (h : IsBuildable workload)
    (port : Option ℕ) (c : Case) where
  -- the peer of that side of the connection has a well-formed name
  abbrev Named : Option Tls → Type 0
  Named tls = HasNamedPeer (with_parts c tls c.request)

  -- what the policies say of a connection that goes on
  abbrev judged : Protocol → Option Tls → Option Request → Bool → Verdict
  judged protocol tls request peer =
      mesh.verdict_by workload (with_parts c tls request) (mesh.arrival_on workload (with_parts c tls request) protocol (Some peer))

  -- what a chain does with it
  abbrev done : Protocol → Option Tls → Option Request → Bool → Verdict
  done protocol tls request peer = body_verdict peer (body_at workload protocol port) (with_parts c tls request)

  tcp-decides : (tls : Option Tls) (peer : Bool) → Named tls → done Tcp tls c.request peer ≡ judged Tcp tls c.request peer
  unfolding body_on
  tcp-decides tls peer named =
      filters-decide decide Tcp (with_parts c tls c.request) (record { request = false; peer = peer; claims = None }) named tt
      NetworkFilter network.Rbac (run_network (with_parts c tls c.request)) (λ rbac state. refl) workload limits h

  -- without rules for tokens a request is anonymous
  anonymous-request : (tls : Option Tls) (request : Request) (peer : Bool)
      → mesh.decision workload Http (with_parts c tls (Some request)) (record { request = true; peer = peer; claims = None })
      ≡ judged Http tls (Some request) peer
  unfolding authenticated
  anonymous-request tls request peer = rw h.jwt_rules refl

  http-decides : (tls : Option Tls) (request : Option Request) (peer : Bool) → Named tls → (not peer && is_some tls) ≡ false
      → done Http tls request peer ≡ judged Http tls request peer
  unfolding body_on
  http-decides tls None peer named e = rw e refl
  http-decides tls (Some request) peer named e =
      rw e (filters-decide decide Http (with_parts c tls (Some request)) (record { request = true; peer = peer; claims = None }) named refl
      HttpFilter http.Rbac (run_http (with_parts c tls (Some request))) (λ rbac state. refl) workload limits h
      ∙ anonymous-request tls request peer)

  -- a chain that can read the connection decides as the policies
  reads : (protocol : Protocol) (tls : Option Tls) (peer : Bool) → Named tls → (not peer && is_some tls) ≡ false
      → done protocol tls c.request peer ≡ judged protocol tls c.request peer
  reads Tcp tls peer named e = tcp-decides tls peer named
  reads Http tls peer named e = http-decides tls c.request peer named e

  -- ---- by modes

  abbrev with_tls : Option Tls → Case
  with_tls tls = with_parts c tls c.request

  -- what the policies say of the connection by its mode
  abbrev said : Protocol → Mode → Option Tls → Verdict
  said protocol mode tls =
      mesh.verdict_by workload (with_tls tls)
      (mesh.arrival_on workload (with_tls tls) protocol (mesh.known_peer protocol (passage mode tls)))

  -- what the chain of its mode says
  abbrev given : Protocol → Mode → Option Tls → Verdict
  given protocol mode tls = verdict_by (chain_for port (body_at workload protocol port) protocol mode tls) (with_tls tls)

  strict-agrees : (protocol : Protocol) (tls : Tls) (shown : Bool) → Named (Some tls) → is_some tls.peer ≡ shown
      → given protocol Strict (Some tls) ≡ said protocol Strict (Some tls)
  unfolding chain_for_port
  strict-agrees protocol tls true named e = rw e (reads protocol (Some tls) true named refl)
  strict-agrees protocol tls false named e = rw e refl

  permissive-agrees : (protocol : Protocol) (tls : Tls) (offers shown : Bool) → Named (Some tls) → offers_mesh_name tls ≡ offers
      → is_some tls.peer ≡ shown → given protocol Permissive (Some tls) ≡ said protocol Permissive (Some tls)
  unfolding chain_for_port
  permissive-agrees protocol tls true true named o e = rw (o, e) (reads protocol (Some tls) true named refl)
  permissive-agrees protocol tls true false named o e = rw (o, e) refl
  permissive-agrees Tcp tls false shown named o e = rw o (tcp-decides (Some tls) false named)
  permissive-agrees Http tls false shown named o e = rw o refl

  agrees-at : (protocol : Protocol) (mode : Mode) (tls : Option Tls) → Named tls → given protocol mode tls ≡ said protocol mode tls
  unfolding chain_for_port
  agrees-at protocol Strict None named = refl
  agrees-at protocol Strict (Some tls) named = strict-agrees protocol tls (is_some tls.peer) named refl
  agrees-at protocol Permissive None named = reads protocol None false named refl
  agrees-at protocol Permissive (Some tls) named = permissive-agrees protocol tls (offers_mesh_name tls) (is_some tls.peer) named refl refl
  agrees-at protocol Disable None named = reads protocol None false named refl
  agrees-at Tcp Disable (Some tls) named = tcp-decides (Some tls) false named
  agrees-at Http Disable (Some tls) named = refl

-- outcome and audit mark
pub agree : FiltersDecide → (workload : Workload) → KeepsLimits workload → IsBuildable workload
    → (case : Case) → HasNamedPeer case → envoy_verdict (built workload) case ≡ mesh.verdict_of workload case
unfolding envoy_verdict mesh.verdict_of mesh.arrival
agree decide workload limits h case named =
    ap (λ chain. verdict_by chain case) (chosen-chain workload case limits.rising)
    ∙ agrees-at decide workload limits h (number_at workload case.port) case (protocol_of workload case.port)
    (mode_of workload case.port) case.tls named

-- where there was memory
pub agrees : FiltersDecide → (workload : Workload) → KeepsLimits workload → IsBuildable workload
    → (r : Result Listener Memory) → IfOk r (λ listener. listener ≡ built workload)
    → IfOk r (λ listener. (case : Case) → WellFormedCase case workload.jwt_rules
    → envoy_verdict listener case ≡ mesh.verdict_of workload case)
agrees decide workload limits h (Ok listener) e =
    λ case formed. ap (λ l. envoy_verdict l case) e ∙ agree decide workload limits h case formed.peer
agrees decide workload limits h (Err e) shape = tt
