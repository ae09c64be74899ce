-- Small listeners and cases, of which laws say what the meaning makes.
use Rattle.std.specs.Prelude.{ℕ, Bool, true, false, List, [], ◌∷◌, codes, Option, Some, None}
use Rattle.mesh_policy.specs.declared.case.Case.{Case}
use Rattle.mesh_policy.specs.declared.jwt.Keys.TheVariants.{Inline}
use Rattle.mesh_policy.specs.declared.jwt.TokenPlace.TheVariants.{Header as InHeader}
use Rattle.mesh_policy.specs.declared.request.Header.{Header as HeaderField}
use Rattle.mesh_policy.specs.declared.request.Request.{Request}
use Rattle.mesh_policy.specs.declared.token_verdict.Claim.TheVariants.{Word}
use Rattle.mesh_policy.specs.declared.token_verdict.TokenVerdict.{TokenVerdict}
pub use Rattle.mesh_policy.specs.WorkedPolicies.{connection, plain}
use Rattle.mesh_tree.specs.Tree.{tree_of}
use Rattle.mesh_tree.specs.declared.tree.Node.TheVariants as node
use Rattle.mesh_tree.specs.declared.tree.Tree.{Tree}
use Rattle.mesh_policy.specs.declared.verdict.Outcome.{Outcome}
use Rattle.mesh_policy.specs.declared.verdict.Verdict.{Verdict}
use Rattle.envoy_types.specs.Access.{Rules}
use Rattle.envoy_types.specs.Jwt.{Authentication, Provider}
use Rattle.envoy_types.specs.ListenerVerdict.{envoy_verdict}
use Rattle.envoy_types.specs.declared.access.Rbac.{Rbac}
use Rattle.envoy_types.specs.declared.access.RbacAction.{RbacAction}
use Rattle.envoy_types.specs.declared.access.RbacAction.TheVariants as action
use Rattle.envoy_types.specs.declared.authz.AuthService.TheVariants.{Grpc}
use Rattle.envoy_types.specs.declared.authz.ExtAuthz.{ExtAuthz}
use Rattle.envoy_types.specs.declared.chains.ChainBody.{ChainBody}
use Rattle.envoy_types.specs.declared.chains.ChainBody.TheVariants as body
use Rattle.envoy_types.specs.declared.chains.FilterChain.{FilterChain}
use Rattle.envoy_types.specs.declared.chains.HttpFilter.{HttpFilter}
use Rattle.envoy_types.specs.declared.chains.HttpFilter.TheVariants as filter
use Rattle.envoy_types.specs.declared.chains.Listener.{Listener}
use Rattle.envoy_types.specs.declared.chains.NetworkFilter.{NetworkFilter}
use Rattle.envoy_types.specs.declared.chains.Transport.{Transport}
use Rattle.envoy_types.specs.declared.chains.Transport.TheVariants as transport
use Rattle.envoy_types.specs.declared.jwt.Requirement.{Requirement}
use Rattle.envoy_types.specs.declared.jwt.Requirement.TheVariants as requirement
use Rattle.envoy_types.specs.declared.metadata.ValueMatcher.TheVariants as value
use Rattle.envoy_types.specs.declared.principal.PrincipalLeaf.{PrincipalLeaf}
use Rattle.envoy_types.specs.declared.principal.PrincipalLeaf.TheVariants as principal
use Rattle.envoy_types.specs.declared.strings.MatchKind.{MatchKind}
use Rattle.envoy_types.specs.declared.strings.MatchKind.TheVariants as kind
use Rattle.envoy_types.specs.declared.strings.StringMatcher.{StringMatcher}

-- ---- cases

-- TLS that offers these names, by a peer or without one
abbrev pub offering : Option (List ℕ) → List (List ℕ) → Case
offering peer names = connection 9000 (Some (record { peer = peer; sni = None; alpn = names })) None [] []

-- a request in plain text with these headers
abbrev pub request : List HeaderField → Request
request headers = record { method = codes "GET"; path = codes "/a?b"; authority = Some (codes "web"); headers = headers }

-- a request without headers
abbrev pub get : Case
get = connection 9000 None (Some (request [])) [] []

-- and with an answer of the authorizer
abbrev pub answered : Bool → Case
answered allow = connection 9000 None (Some (request [])) [] (record { cluster = codes "ext"; allow = allow } ∷ [])

-- ---- chains

-- a matcher that doesn't fold
abbrev pub words : MatchKind → List ℕ → StringMatcher
words kind text = record { kind = kind; text = text; ignore_case = false }

-- a chain without a name
abbrev pub chain : Option ℕ → Option Transport → List (List ℕ) → Bool → ChainBody → FilterChain
chain port transport names mutual_tls filters = record {
  name = [];
  matching = record { port = port; transport = transport; alpn = names };
  mutual_tls = mutual_tls;
  body = filters;
}

-- a TCP chain with these filters
abbrev pub tcp : List NetworkFilter → ChainBody
tcp filters = body.Tcp filters (codes "in")

-- an HTTP chain with these filters
abbrev pub http : List HttpFilter → ChainBody
http filters = body.Http filters (codes "in")

-- a listener of these chains
abbrev pub listener : List FilterChain → Listener
listener chains = record { name = codes "l"; address = codes "0.0.0.0"; port = 15006; chains = chains }

-- one chain for all connections, with the socket or without
abbrev pub sole : Bool → ChainBody → Listener
sole mutual_tls filters = listener (chain None None [] mutual_tls filters ∷ [])

-- ---- filters

-- rules of one policy, for every permission and one principal
abbrev pub rules_for : RbacAction → Tree PrincipalLeaf → Rules
rules_for of_rules who =
    record { action = of_rules; policies = record { name = codes "one"; permissions = tree_of node.Any ∷ []; principals = who ∷ [] } ∷ [] }

-- for everything
abbrev pub rules_for_all : RbacAction → Rules
rules_for_all of_rules = rules_for of_rules (tree_of node.Any)

-- a filter of these rules
abbrev pub rbac : Rules → Rbac
rbac rules = record { rules = Some rules; shadow = None; shadow_prefix = [] }

-- a filter that only tells the policy that holds
abbrev pub shadow : Rbac
shadow = record { rules = None; shadow = Some (rules_for_all action.Deny); shadow_prefix = codes "p_" }

-- whoever is known by name
abbrev pub known_peer : Rules
known_peer = rules_for action.Allow (tree_of (node.Leaf (principal.Authenticated None)))

-- where the claim `sub` is this text
abbrev pub subject : List ℕ → Rules
subject name =
    rules_for action.Allow (tree_of (node.Leaf (principal.Metadata (codes "sub" ∷ []) (value.Words (words kind.Exact name)))))

-- an authorizer that is asked where the key has a name like that
abbrev pub authz : List ℕ → Bool → ExtAuthz
authz key fail_open = record {
  service = Grpc (codes "ext");
  fail_open = fail_open;
  enabled_key = key;
  enabled = words kind.Prefix (codes "on");
}

-- where the filter above tells it
abbrev pub told : List ℕ
told = codes "p_shadow_effective_policy_id"

-- ---- tokens

-- a provider whose tokens stand in a header of its own
abbrev pub provider : List ℕ → Provider
provider name = record {
  name = name;
  rule = record {
    issuer = name;
    audiences = [];
    keys = Inline (codes "k");
    places = InHeader name [] ∷ [];
    forward = false;
    payload_header = None;
  };
}

-- two providers, and what requests of a path have to show
abbrev pub tokens : List ℕ → Option Requirement → Authentication
tokens prefix wanted = record {
  providers = provider (codes "a") ∷ provider (codes "b") ∷ [];
  rules = record { prefix = prefix; requirement = wanted } ∷ [];
}

-- that the token `t` of an issuer is valid, and of whom it speaks
abbrev pub valid : List ℕ → List ℕ → TokenVerdict
valid issuer name = record {
  token = codes "t";
  issuer = issuer;
  audiences = [];
  keys = codes "k";
  claims = record { key = codes "sub"; value = Word name } ∷ [];
}

-- the header of a provider
abbrev pub header : List ℕ → List ℕ → HeaderField
header name token = record { name = name; value = token }

-- a request that shows a token to both, which is valid for both
abbrev pub shown : Case
shown = connection 9000 None (Some (request (header (codes "b") (codes "t") ∷ header (codes "a") (codes "t") ∷ [])))
    (valid (codes "a") (codes "ann") ∷ valid (codes "b") (codes "bob") ∷ []) []

-- a request that shows a token, and none is valid
abbrev pub unlisted : Case
unlisted = connection 9000 None (Some (request (header (codes "a") (codes "t") ∷ []))) [] []

-- ---- what comes of them

-- an outcome with the audit mark
abbrev pub marked : Outcome → Verdict
marked outcome = record { outcome = outcome; audited = true }

-- of an HTTP chain with these filters
abbrev pub http_verdict : List HttpFilter → Case → Verdict
http_verdict filters case = envoy_verdict (sole false (http filters)) case

-- of a TCP chain with these filters, which has the socket or not
abbrev pub tcp_verdict : Bool → List NetworkFilter → Case → Verdict
tcp_verdict mutual_tls filters case = envoy_verdict (sole mutual_tls (tcp filters)) case

-- a listener with a chain for TLS to one port, and one for all ports
abbrev pub one_port : Listener
one_port = listener (chain (Some 9000) (Some transport.Tls) [] false (tcp []) ∷ chain None None [] false (tcp []) ∷ [])

-- a listener with a chain for all names, and one for a name
abbrev pub one_name : Listener
one_name = listener (chain None None [] false (tcp []) ∷ chain None None (codes "istio" ∷ []) false (tcp []) ∷ [])

-- a valid token of the second provider or of the first, in this order
abbrev pub either : Bool → Requirement
either allow_missing = requirement.AnyOf (codes "b" ∷ codes "a" ∷ []) allow_missing

-- a filter that requires something of the paths with a prefix
abbrev pub required : List ℕ → Requirement → List HttpFilter
required prefix wanted = filter.Jwt (tokens prefix (Some wanted)) ∷ []

-- a valid token is required, and then a subject
abbrev pub by_subject : List ℕ → List HttpFilter
by_subject name = filter.Jwt (tokens (codes "/") (Some (either true))) ∷ filter.Rbac (rbac (subject name)) ∷ []
