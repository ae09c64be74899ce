-- The manifests and the cases of the worked cases: the Pod `foo/web` and what stands beside it.
use Rattle.std.specs.Prelude.{ℕ, Bool, true, false, List, [], ◌∷◌, ◌++◌, map, codes, replicate, Option, Some, None}
use Rattle.std.specs.List.{range_with_len}
use Rattle.mesh_net.specs.declared.address.IpAddr.TheVariants.{V4}
use Rattle.mesh_policy.specs.declared.bundle.Bundle.{Bundle}
use Rattle.mesh_policy.specs.declared.case.Case.{Case}
use Rattle.mesh_policy.specs.declared.case.Tls.{Tls}
use Rattle.mesh_policy.specs.declared.condition.Condition.{Condition}
use Rattle.mesh_policy.specs.declared.condition.Condition.TheVariants.{Words}
use Rattle.mesh_policy.specs.declared.condition.TextKey.TheVariants.{Header as HeaderKey}
use Rattle.mesh_policy.specs.declared.jwt.JwtRule.{JwtRule}
use Rattle.mesh_policy.specs.declared.jwt.Keys.TheVariants.{Inline}
use Rattle.mesh_policy.specs.declared.jwt.RequestAuthentication.{RequestAuthentication}
use Rattle.mesh_policy.specs.declared.jwt.TokenPlace.TheVariants.{Header as InHeader, Param}
use Rattle.mesh_policy.specs.declared.peer.Mode.{Mode}
use Rattle.mesh_policy.specs.declared.peer.Mode.TheVariants as mode
use Rattle.mesh_policy.specs.declared.peer.PeerAuthentication.{PeerAuthentication}
use Rattle.mesh_policy.specs.declared.peer.PortMode.{PortMode}
use Rattle.mesh_policy.specs.declared.pod.Label.{Label}
use Rattle.mesh_policy.specs.declared.pod.Pod.{Pod}
use Rattle.mesh_policy.specs.declared.policy.Action.{Action}
use Rattle.mesh_policy.specs.declared.policy.Action.TheVariants as action
use Rattle.mesh_policy.specs.declared.policy.AuthorizationPolicy.{AuthorizationPolicy}
use Rattle.mesh_policy.specs.declared.policy.OperationSpec.{OperationSpec}
use Rattle.mesh_policy.specs.declared.policy.Rule.{Rule}
use Rattle.mesh_policy.specs.declared.policy.SourceSpec.{SourceSpec}
use Rattle.mesh_policy.specs.declared.provider.Provider.{Provider}
use Rattle.mesh_policy.specs.declared.request.Header.{Header}
use Rattle.mesh_policy.specs.declared.request.Request.{Request}
use Rattle.mesh_policy.specs.declared.service.Service.{Service}
use Rattle.mesh_policy.specs.declared.service.ServicePort.{ServicePort}
use Rattle.mesh_policy.specs.declared.service.Target.TheVariants.{Same}
use Rattle.mesh_policy.specs.declared.token_verdict.Answer.{Answer}
use Rattle.mesh_policy.specs.declared.token_verdict.Claim.TheVariants.{Word}
use Rattle.mesh_policy.specs.declared.token_verdict.ClaimField.{ClaimField}
use Rattle.mesh_policy.specs.declared.token_verdict.TokenVerdict.{TokenVerdict}
use Rattle.mesh_policy.specs.declared.verdict.Verdict.{Verdict}
use Rattle.mesh_policy.specs.Explanation.{Explanation, explanation_of}
use Rattle.mesh_policy.specs.SelectFault.{SelectFault, select_fault}
use Rattle.mesh_policy.specs.Verdicts.{verdict_of}
use Rattle.mesh_policy.specs.Workload.{workload_of}

-- the label of the Pod
abbrev pub web_label : Label
web_label = record { key = codes "app"; value = codes "web" }

-- the namespace of all that is here
abbrev pub foo : List ℕ
foo = codes "foo"

-- the Pod
abbrev pub web : Pod
web = record { name = codes "web"; namespace = foo; labels = web_label ∷ []; ports = [] }

-- ---- Services

-- a port of a Service by its name
abbrev pub service_port : List ℕ → ℕ → ServicePort
service_port name port = record { name = Some name; port = port; target = Same; app_protocol = None }

-- a Service of the Pod
abbrev pub service : List ServicePort → Service
service ports = record { name = codes "web"; namespace = foo; selector = web_label ∷ []; ports = ports }

-- its Service: two TCP ports and one for HTTP
abbrev pub web_service : Service
web_service = service (service_port (codes "tcp-a") 9000 ∷ service_port (codes "tcp-b") 9001 ∷ service_port (codes "http-c") 8000 ∷ [])

-- ---- rules

-- a source with nothing written
abbrev pub any_source : SourceSpec
any_source = record {
  principals = [];
  not_principals = [];
  request_principals = [];
  not_request_principals = [];
  namespaces = [];
  not_namespaces = [];
  ip_blocks = [];
  not_ip_blocks = [];
  remote_ip_blocks = [];
  not_remote_ip_blocks = [];
}

-- an operation with nothing written
abbrev pub any_operation : OperationSpec
any_operation = record {
  hosts = [];
  not_hosts = [];
  ports = [];
  not_ports = [];
  methods = [];
  not_methods = [];
  paths = [];
  not_paths = [];
}

-- a rule with nothing written
abbrev pub any_rule : Rule
any_rule = record { sources = []; operations = []; conditions = [] }

-- a rule of one source
abbrev pub from : SourceSpec → Rule
from source = record any_rule { sources = source ∷ [] }

-- a rule of one operation
abbrev pub to : OperationSpec → Rule
to operation = record any_rule { operations = operation ∷ [] }

-- a rule of one condition
abbrev pub when : Condition → Rule
when condition = record any_rule { conditions = condition ∷ [] }

-- for a name of peers
abbrev pub from_principal : List ℕ → Rule
from_principal value = from (record any_source { principals = value ∷ [] })

-- for a namespace of peers
abbrev pub from_namespace : List ℕ → Rule
from_namespace value = from (record any_source { namespaces = value ∷ [] })

-- for a principal of requests
abbrev pub from_request_principal : List ℕ → Rule
from_request_principal value = from (record any_source { request_principals = value ∷ [] })

-- for a method
abbrev pub to_method : List ℕ → Rule
to_method value = to (record any_operation { methods = value ∷ [] })

-- for a path
abbrev pub to_path : List ℕ → Rule
to_path value = to (record any_operation { paths = value ∷ [] })

-- for a port
abbrev pub to_port : ℕ → Rule
to_port port = to (record any_operation { ports = port ∷ [] })

-- for a method on a port
abbrev pub get_on_9000 : Rule
get_on_9000 = to (record any_operation { methods = codes "GET" ∷ []; ports = 9000 ∷ [] })

-- for the value of a header
abbrev pub when_header : List ℕ → List (List ℕ) → List (List ℕ) → Rule
when_header name values not_values = when (Words (HeaderKey name) values not_values)

-- ---- policies

-- a policy of an action for every Pod of the namespace
abbrev pub policy : List ℕ → Action → List Rule → AuthorizationPolicy
policy name kind rules = record { name = name; namespace = foo; labels = []; action = kind; provider = None; rules = rules }

-- a policy of CUSTOM that names an authorizer
abbrev pub custom_policy : List ℕ → List ℕ → List Rule → AuthorizationPolicy
custom_policy name provider rules = record (policy name action.Custom rules) { provider = Some provider }

-- a PeerAuthentication by name, age, labels, mode and modes of ports
abbrev pub peer_policy : List ℕ → Option (List ℕ) → List Label → Option Mode → List PortMode → PeerAuthentication
peer_policy name age labels of_all ports = record { name = name; namespace = foo; age = age; labels = labels; mode = of_all; ports = ports }

-- the mode of one port
abbrev pub port_mode : ℕ → Mode → PortMode
port_mode port of_port = record { port = port; mode = Some of_port }

-- the issuer of tokens
abbrev pub issuer : List ℕ
issuer = codes "https://i.example/a"

-- a rule for bearer tokens, which forwards them or not
abbrev pub jwt_rule : Bool → JwtRule
jwt_rule forward = record {
  issuer = issuer;
  audiences = [];
  keys = Inline (codes "{}");
  places = InHeader (codes "authorization") (codes "Bearer ") ∷ Param (codes "access_token") ∷ [];
  forward = forward;
  payload_header = None;
}

-- a policy with that rule
abbrev pub request_policy : Bool → RequestAuthentication
request_policy forward = record { name = codes "r"; namespace = foo; labels = []; rules = jwt_rule forward ∷ [] }

-- an authorizer over HTTP
abbrev pub provider : List ℕ → Bool → Provider
provider name fail_open = record {
  name = name;
  service = codes "ext.foo.svc.cluster.local";
  port = 8080;
  fail_open = fail_open;
  http = true;
}

-- ---- manifests

-- manifests with these Services, policies and authorizers
abbrev pub bundle : List Service → List AuthorizationPolicy → List PeerAuthentication → List RequestAuthentication → List Provider → Bundle
bundle services authorization peers requests providers = record {
  pods = web ∷ [];
  services = services;
  authorization = authorization;
  peers = peers;
  requests = requests;
  mesh = record { root = codes "istio-system"; providers = providers };
  mesh_items = 0;
  others = 0;
}

-- the Pod, its Service and policies of authorization
abbrev pub with_policies : List AuthorizationPolicy → Bundle
with_policies policies = bundle (web_service ∷ []) policies [] [] []

-- the same under an authorizer over HTTP
abbrev pub with_authorizer : Bool → List AuthorizationPolicy → Bundle
with_authorizer fail_open policies = bundle (web_service ∷ []) policies [] [] (provider (codes "ext") fail_open ∷ [])

-- and under a policy for tokens
abbrev pub with_tokens : List Rule → Bundle
with_tokens rules = bundle (web_service ∷ []) (policy (codes "a") action.Allow rules ∷ []) [] (request_policy false ∷ []) []

-- ---- cases

-- a case from 10.0.0.1 to 10.0.0.9
abbrev pub connection : ℕ → Option Tls → Option Request → List TokenVerdict → List Answer → Case
connection port tls request verdicts answers = record {
  source = V4 167772161;
  remote = V4 167772161;
  destination = V4 167772169;
  port = port;
  tls = tls;
  request = request;
  verdicts = verdicts;
  answers = answers;
}

-- a connection in plain text, without a request
abbrev pub plain : ℕ → Case
plain port = connection port None None [] []

-- TLS that offers these names, by a peer
abbrev pub offering : ℕ → List (List ℕ) → Option (List ℕ) → Case
offering port names peer = connection port (Some (record { peer = peer; sni = None; alpn = names })) None [] []

-- a connection of a peer of the mesh
abbrev pub peer_case : List ℕ → Case
peer_case name = offering 9000 (codes "istio" ∷ []) (Some name)

-- a request for the host `web`
abbrev pub request : List ℕ → List ℕ → List Header → Request
request method path headers = record { method = method; path = path; authority = Some (codes "web"); headers = headers }

-- on port 8000 in plain text
abbrev pub request_case : List ℕ → List ℕ → List Header → Case
request_case method path headers = connection 8000 None (Some (request method path headers)) [] []

-- a request for a path
abbrev pub get : List ℕ → Case
get path = request_case (codes "GET") path []

-- the answer of the authorizer
abbrev pub answer : Bool → Answer
answer allow = record { cluster = codes "outbound|8080||ext.foo.svc.cluster.local"; allow = allow }

-- a case with that answer
abbrev pub answered : Case → Answer → Case
answered case given = record case { answers = given ∷ [] }

-- a header
abbrev pub header : List ℕ → List ℕ → Header
header name value = record { name = name; value = value }

-- a request with an `authorization` header
abbrev pub token_case : List ℕ → List ℕ → Case
token_case path value = request_case (codes "GET") path (header (codes "authorization") value ∷ [])

-- a claim that is a text
abbrev pub text_field : List ℕ → List ℕ → ClaimField
text_field key value = record { key = key; value = Word value }

-- the valid token `t1` with its claims
abbrev pub token_verdict : TokenVerdict
token_verdict = record {
  token = codes "t1";
  issuer = issuer;
  audiences = [];
  keys = codes "{}";
  claims = text_field (codes "iss") issuer ∷ text_field (codes "sub") (codes "u1") ∷ [];
}

-- a case in which that token is valid
abbrev pub judged : Case → Case
judged case = record case { verdicts = token_verdict ∷ [] }

-- ---- what comes of them

-- the verdict for the Pod under manifests
abbrev pub verdict_in : Bundle → Case → Verdict
verdict_in manifests case = verdict_of (workload_of manifests web) case

-- and its explanation
abbrev pub explanation_in : Bundle → Case → Explanation
explanation_in manifests case = explanation_of (workload_of manifests web) case

-- why the Pod is refused
abbrev pub fault_in : Bundle → Option SelectFault
fault_in manifests = select_fault manifests foo (codes "web")

-- ---- manifests of single cases

-- a policy for the workload that is UNSET, a younger one that is STRICT, and one for the namespace
abbrev pub old_and_new : Option (List ℕ) → Bundle
old_and_new age_of_old = bundle (web_service ∷ []) [] (
    peer_policy (codes "ns") None [] (Some mode.Disable) []
    ∷ peer_policy (codes "new") (Some (codes "2024-06-01T00:00:00Z")) (web_label ∷ []) (Some mode.Strict) []
    ∷ peer_policy (codes "old") age_of_old (web_label ∷ []) None [] ∷ []) [] []

-- one for the workload that is DISABLE but for two ports
abbrev pub port_modes : Bundle
port_modes = bundle (web_service ∷ []) [] (
    peer_policy (codes "p") None (web_label ∷ []) (Some mode.Disable) (port_mode 7777 mode.Permissive ∷ port_mode 9000 mode.Strict ∷ [])
    ∷ []) [] []

-- a policy of AUDIT for everything, and one of DENY for a method
abbrev pub audited : Bundle
audited = with_authorizer false (
    policy (codes "au") action.Audit (any_rule ∷ []) ∷ policy (codes "dn") action.Deny (to_method (codes "DELETE") ∷ []) ∷ [])

-- the same behind an authorizer that is asked for everything
abbrev pub asked : Bundle
asked = with_authorizer false (
    policy (codes "au") action.Audit (any_rule ∷ []) ∷ custom_policy (codes "c") (codes "ext") (any_rule ∷ []) ∷ [])

-- an authorizer that is asked for one path
abbrev pub admin : Bool → Bundle
admin fail_open =
    with_authorizer fail_open (custom_policy (codes "c") (codes "ext") (to_path (codes "/admin") ∷ []) ∷ [])

-- one policy of ALLOW with these rules
abbrev pub allowed : List Rule → Bundle
allowed rules = with_policies (policy (codes "a") action.Allow rules ∷ [])

-- one policy of DENY with these rules
abbrev pub denied : List Rule → Bundle
denied rules = with_policies (policy (codes "a") action.Deny rules ∷ [])

-- twelve rules, of which the third and the eleventh are for port 8000
abbrev pub twelve_rules : List Rule
twelve_rules = to_port 1 ∷ to_port 1 ∷ to_port 8000 ∷ replicate 7 (to_port 1) ++ to_port 8000 ∷ to_port 1 ∷ []

-- a rule with one source of so many principals of one byte
abbrev pub principals : ℕ → Rule
principals count = from (record any_source { principals = replicate count (codes "a") })

-- so many ports from 9000 on
abbrev pub tcp_ports : ℕ → List ServicePort
tcp_ports count = map (service_port (codes "tcp")) (range_with_len 9000 count)

-- a rule for the header of a token
abbrev pub header_tested : Bool → Bundle
header_tested forward = bundle (web_service ∷ [])
    (policy (codes "a") action.Deny (when_header (codes "authorization") (codes "x" ∷ []) [] ∷ []) ∷ []) [] (request_policy forward ∷ []) []

-- two CUSTOM policies that name these authorizers
abbrev pub asking : List ℕ → List ℕ → List AuthorizationPolicy
asking first second = custom_policy (codes "c") first [] ∷ custom_policy (codes "d") second [] ∷ []

-- one rule of ALLOW for a namespace or a name of peers, for request principals, for a path, and for a header
abbrev pub for_namespace : List ℕ → Bundle
for_namespace value = allowed (from_namespace value ∷ [])

-- for a name
abbrev pub for_peer : List ℕ → Bundle
for_peer value = allowed (from_principal value ∷ [])

-- for request principals, under a rule for tokens
abbrev pub for_principal : List ℕ → Bundle
for_principal value = with_tokens (from_request_principal value ∷ [])

-- for a path
abbrev pub for_path : List ℕ → Bundle
for_path value = allowed (to_path value ∷ [])

-- for a header
abbrev pub for_header : List (List ℕ) → List (List ℕ) → Bundle
for_header values not_values = allowed (when_header (codes "x-a") values not_values ∷ [])

-- a request whose header has this value, in which the token is judged
abbrev pub shown : List ℕ → Case
shown value = judged (token_case (codes "/") value)

-- a request with an empty header
abbrev pub empty_header : Case
empty_header = request_case (codes "GET") (codes "/") (header (codes "X-A") [] ∷ [])

-- one port for which two Services differ, and another
abbrev pub conflicting : Bundle
conflicting = bundle (web_service ∷ service (service_port (codes "http-x") 9001 ∷ service_port (codes "http-x") 9000 ∷ []) ∷ []) [] [] [] []

-- a Service of so many ports
abbrev pub with_ports : ℕ → Bundle
with_ports count = bundle (service (tcp_ports count) ∷ []) [] [] [] []
