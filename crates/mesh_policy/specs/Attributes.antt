-- What the fields and the keys of a rule are tested against (Istio reference, "Authorization Policy": Source and
-- Operation; "Authorization Policy Conditions").
use Rattle.std.specs.Prelude.{ℕ, Bool, List, [], ◌∷◌, ◌++◌, find, codes, Option, Some, None, if◌then◌else◌}
use Rattle.std.specs.Option.{option_and_then, option_map}
use Rattle.std.specs.Str.{bytes_eq}
use Rattle.mesh_net.specs.declared.address.IpAddr.{IpAddr}
use Rattle.mesh_policy.specs.declared.case.Case.{Case}
use Rattle.mesh_policy.specs.declared.request.Request.{Request}
use Rattle.mesh_policy.specs.declared.token_verdict.Claim.{Claim, Claim-F, out-Claim}
use Rattle.mesh_policy.specs.declared.token_verdict.ClaimField.{ClaimField}
use Rattle.mesh_policy.specs.Path.{path_of}
use Rattle.mesh_policy.specs.PeerNames.{peer_of, scheme}
use Rattle.mesh_policy.specs.Token.{behind, value_of}

-- not there; a text, or several; an address; a port
pub data Attribute : Type 0 where
  absent : Attribute
  text : List ℕ → Attribute
  texts : List (List ℕ) → Attribute
  address : IpAddr → Attribute
  port : ℕ → Attribute

-- What is known where the policies judge: whether a request is seen, whether the peer's name is, and the claims of a
-- valid token, if there is one.
pub record Seen : Type 0 where
  pub request : Bool
  pub peer : Bool
  pub claims : Option (List ClaimField)

-- the attributes by the fields and keys of rules
pub data Key : Type 0 where
  source_principal : Key
  source_namespace : Key
  source_ip : Key
  remote_ip : Key
  destination_ip : Key
  destination_port : Key
  server_name : Key
  host : Key
  method : Key
  path : Key
  header : List ℕ → Key
  request_principal : Key
  claim : List (List ℕ) → Key

-- `request.auth.audiences` is the claim `aud`
abbrev pub audiences : Key
audiences = claim (codes "aud" ∷ [])

-- `request.auth.presenter` is the claim `azp`
abbrev pub presenter : Key
presenter = claim (codes "azp" ∷ [])

-- a text, where there is one
abbrev pub text_or_absent : Option (List ℕ) → Attribute
text_or_absent None = absent
text_or_absent (Some t) = text t

-- the peer's name, where it is known
abbrev pub seen_peer : Case → Seen → Option (List ℕ)
seen_peer case seen = if seen.peer then option_and_then (λ tls. tls.peer) case.tls else None

-- the request, where one is seen
abbrev pub seen_request : Case → Seen → Option Request
seen_request case seen = if seen.request then case.request else None

-- ---- claims (RFC 7519, section 4)

-- the first claim of that name
abbrev pub field_of : List ℕ → List ClaimField → Option Claim
field_of name fields = option_map (λ field. field.value) (find (λ field. bytes_eq field.key name) fields)

-- the claims of an object, and none of anything else
abbrev pub fields_in : Claim-F Claim ClaimField → Option (List ClaimField)
fields_in (Claim-F.Word t) = None
fields_in (Claim-F.Words ts) = None
fields_in (Claim-F.Object fields) = Some fields

-- the same of a claim
abbrev pub fields_of : Claim → Option (List ClaimField)
fields_of c = fields_in (out-Claim c)

-- the claim at a path of names, each but the last one that of an object
abbrev pub claim_at : List (List ℕ) → List ClaimField → Option Claim
claim_at [] fields = None
claim_at (name ∷ []) fields = field_of name fields
claim_at (name ∷ (next ∷ names)) fields = option_and_then (claim_at (next ∷ names)) (option_and_then fields_of (field_of name fields))

-- the text of a claim that is one
abbrev pub text_in : Claim-F Claim ClaimField → Option (List ℕ)
text_in (Claim-F.Word t) = Some t
text_in (Claim-F.Words ts) = None
text_in (Claim-F.Object fields) = None

-- the text of the claim of that name
abbrev pub text_claim : List ℕ → List ClaimField → Option (List ℕ)
text_claim name claims = option_and_then (λ c. text_in (out-Claim c)) (field_of name claims)

-- `iss/sub`, where both claims are texts
abbrev pub principal_of : List ClaimField → Option (List ℕ)
principal_of claims = option_and_then
    (λ issuer. option_map (λ subject. issuer ++ codes "/" ++ subject) (text_claim (codes "sub") claims))
    (text_claim (codes "iss") claims)

-- an object is no attribute
abbrev pub attribute_in : Claim-F Claim ClaimField → Attribute
attribute_in (Claim-F.Word t) = text t
attribute_in (Claim-F.Words ts) = texts ts
attribute_in (Claim-F.Object fields) = absent

-- a claim, where there is one
abbrev pub claim_or_absent : Option Claim → Attribute
claim_or_absent None = absent
claim_or_absent (Some c) = attribute_in (out-Claim c)

-- ---- the attribute of a field or key

-- what a field or key stands for in a case, by what is seen of it
abbrev pub attribute : Case → Seen → Key → Attribute
attribute case seen source_principal = text_or_absent (behind scheme (seen_peer case seen))
attribute case seen source_namespace = text_or_absent (option_map (λ peer. peer.namespace) (option_and_then peer_of (seen_peer case seen)))
attribute case seen source_ip = address case.source
attribute case seen remote_ip = address case.remote
attribute case seen destination_ip = address case.destination
attribute case seen destination_port = port case.port
attribute case seen server_name = text_or_absent (option_and_then (λ tls. tls.sni) case.tls)
attribute case seen host = text_or_absent (option_and_then (λ request. request.authority) (seen_request case seen))
attribute case seen method = text_or_absent (option_map (λ request. request.method) (seen_request case seen))
attribute case seen path = text_or_absent (option_map (λ request. path_of request.path) (seen_request case seen))
attribute case seen (header name) = text_or_absent (option_and_then (λ request. value_of name request.headers) (seen_request case seen))
attribute case seen request_principal = text_or_absent (option_and_then principal_of seen.claims)
attribute case seen (claim names) = claim_or_absent (option_and_then (claim_at names) seen.claims)
