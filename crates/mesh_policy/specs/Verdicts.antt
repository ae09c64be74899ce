-- The verdict of the mesh policies (Istio reference, "Authorization Policy": the order in which the actions decide;
-- "PeerAuthentication": mutual TLS modes). That a token is judged before CUSTOM policies is this project's own.
use Rattle.std.specs.Prelude.{◌==◌, Bool, true, false, not, ◌&&◌, ◌||◌, List, length, find, Option, Some, None, is_some, if◌then◌else◌}
use Rattle.std.specs.List.{list_any}
use Rattle.std.specs.Str.{bytes_eq}
use Rattle.mesh_policy.specs.declared.case.Case.{Case}
use Rattle.mesh_policy.specs.declared.policy.AuthorizationPolicy.{AuthorizationPolicy}
use Rattle.mesh_policy.specs.declared.provider.Provider.{Provider}
use Rattle.mesh_policy.specs.declared.policy.Rule.{Rule}
use Rattle.mesh_policy.specs.declared.policy.Action.{Action}
use Rattle.mesh_policy.specs.declared.service.Protocol.{Protocol}
use Rattle.mesh_policy.specs.declared.service.Protocol.TheVariants.{Http, Tcp}
use Rattle.mesh_policy.specs.declared.token_verdict.Answer.{Answer}
use Rattle.mesh_policy.specs.declared.verdict.Outcome.{Outcome}
use Rattle.mesh_policy.specs.declared.verdict.Outcome.TheVariants.{Admitted, Refused401, Refused403, Closed}
use Rattle.mesh_policy.specs.declared.verdict.Verdict.{Verdict}
use Rattle.mesh_policy.specs.Attributes.{Seen}
use Rattle.mesh_policy.specs.Authenticated.{Authentication, anonymous, valid, bad, authenticated}
use Rattle.mesh_policy.specs.Provider.{cluster_of}
use Rattle.mesh_policy.specs.Connection as connection
use Rattle.mesh_policy.specs.Connection.{Passage, passage}
use Rattle.mesh_policy.specs.RuleHolds.{rule_holds, rule_holds_tcp}
use Rattle.mesh_policy.specs.Workload.{Workload, mode_of, protocol_of}

-- what the connection and the token decide: an end, or what the policies judge by
pub data Arrival : Type 0 where
  ends : Verdict → Arrival
  arrives : Protocol → Seen → Arrival

-- an outcome and the audit mark
abbrev pub verdict : Outcome → Bool → Verdict
verdict outcome audited = record { outcome = outcome; audited = audited }

-- ---- the connection

-- Whether the peer's name is known, of a connection that goes on. TLS that is passed on unread shows no peer, and an
-- HTTP port has no use for it.
abbrev pub known_peer : Protocol → Passage → Option Bool
known_peer protocol connection.closed = None
known_peer protocol connection.plain = Some false
known_peer protocol connection.authenticated = Some true
known_peer Tcp connection.opaque = Some false
known_peer Http connection.opaque = None

-- ---- the token of a request

-- anonymous without a token, refused with 401 for a bad one
abbrev pub with_token : Bool → Authentication → Arrival
with_token peer anonymous = arrives Http (record { request = true; peer = peer; claims = None })
with_token peer (valid claims) = arrives Http (record { request = true; peer = peer; claims = Some claims })
with_token peer bad = ends (verdict Refused401 false)

-- without a request there is nothing to judge on an HTTP port; on a TCP port none is seen
abbrev pub arrival_on : Workload → Case → Protocol → Option Bool → Arrival
arrival_on workload case protocol None = ends (verdict Closed false)
arrival_on workload case Tcp (Some peer) = arrives Tcp (record { request = false; peer = peer; claims = None })
arrival_on workload case Http (Some peer) =
    if is_some case.request then with_token peer (authenticated workload.jwt_rules case) else ends (verdict Admitted false)

-- how far a case comes before the policies judge it
unfoldable pub arrival : Workload → Case → Arrival
arrival workload case = arrival_on workload case (protocol_of workload case.port)
    (known_peer (protocol_of workload case.port) (passage (mode_of workload case.port) case.tls))

-- ---- the policies

-- a rule by what the port speaks
abbrev pub holds_on : Protocol → Case → Seen → Action → Rule → Bool
holds_on Http case seen action rule = rule_holds case seen rule
holds_on Tcp case seen action rule = rule_holds_tcp case seen action rule

-- a policy holds where one of its rules does
abbrev pub policy_holds : Protocol → Case → Seen → AuthorizationPolicy → Bool
policy_holds protocol case seen policy = list_any (holds_on protocol case seen policy.action) policy.rules

-- some rule of the policies holds
abbrev pub some_holds : Protocol → Case → Seen → List AuthorizationPolicy → Bool
some_holds protocol case seen policies = list_any (policy_holds protocol case seen) policies

-- the first answer of the authorizer's cluster
abbrev pub answer_of : Case → Provider → Option Answer
answer_of case provider = find (λ answer. bytes_eq answer.cluster (cluster_of provider)) case.answers

-- the answer decides, and without one `failOpen` does
abbrev pub answer_refuses : Provider → Option Answer → Bool
answer_refuses provider (Some answer) = not answer.allow
answer_refuses provider None = not provider.fail_open

-- an authorizer over HTTP can't judge a connection, and refuses it
abbrev pub authorizer_refuses : Protocol → Case → Provider → Bool
authorizer_refuses Tcp case provider = provider.http || answer_refuses provider (answer_of case provider)
authorizer_refuses Http case provider = answer_refuses provider (answer_of case provider)

-- without an authorizer none refuses
abbrev pub provider_refuses : Protocol → Case → Option Provider → Bool
provider_refuses protocol case None = false
provider_refuses protocol case (Some provider) = authorizer_refuses protocol case provider

-- a rule of CUSTOM holds, so the authorizer is asked, and it refuses
abbrev pub custom_refuses : Workload → Protocol → Case → Seen → Bool
custom_refuses workload protocol case seen =
    some_holds protocol case seen workload.custom && provider_refuses protocol case workload.provider

-- a rule of DENY holds
abbrev pub deny_refuses : Workload → Protocol → Case → Seen → Bool
deny_refuses workload protocol case seen = some_holds protocol case seen workload.deny

-- a policy of ALLOW applies, and no rule of one holds
abbrev pub allow_refuses : Workload → Protocol → Case → Seen → Bool
allow_refuses workload protocol case seen =
    not (length workload.allow == 0) && not (some_holds protocol case seen workload.allow)

-- what a refusal by a policy is: 403 for a request, the end of a connection
abbrev pub refusal : Protocol → Outcome
refusal Http = Refused403
refusal Tcp = Closed

-- CUSTOM, then the mark of AUDIT, then DENY, then ALLOW
abbrev pub decision : Workload → Protocol → Case → Seen → Verdict
decision workload protocol case seen =
    if custom_refuses workload protocol case seen then verdict (refusal protocol) false
    else verdict
    (if deny_refuses workload protocol case seen || allow_refuses workload protocol case seen then refusal protocol else Admitted)
    (some_holds protocol case seen workload.audit)

-- an end stands, and else the policies decide
abbrev pub verdict_by : Workload → Case → Arrival → Verdict
verdict_by workload case (ends v) = v
verdict_by workload case (arrives protocol seen) = decision workload protocol case seen

-- the verdict of a workload for a case
unfoldable pub verdict_of : Workload → Case → Verdict
verdict_of workload case = verdict_by workload case (arrival workload case)
