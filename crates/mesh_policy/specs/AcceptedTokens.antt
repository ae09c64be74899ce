-- RequestAuthentications that are accepted (Istio reference, RequestAuthentication, JWTRule).
use Rattle.std.specs.Prelude.{◌<◌, ◌≤◌, Bool, true, false, ◌&&◌, not, All, IsTrue, nat_le, List, [], ◌∷◌, length, filter}
use Rattle.std.specs.List.{list_all}
use Rattle.std.specs.Option.{ForSome}
use Rattle.mesh_policy.specs.AcceptedLists.{AcceptedLabels, AcceptedList, AcceptedValues}
use Rattle.mesh_policy.specs.Values.{is_bounded, is_key_set, is_lower_name, is_short}
use Rattle.mesh_policy.specs.declared.jwt.JwtRule.{JwtRule}
use Rattle.mesh_policy.specs.declared.jwt.Keys.{Keys}
use Rattle.mesh_policy.specs.declared.jwt.Keys.TheVariants as keys
use Rattle.mesh_policy.specs.declared.jwt.RequestAuthentication.{RequestAuthentication}
use Rattle.mesh_policy.specs.declared.jwt.TokenPlace.{TokenPlace}
use Rattle.mesh_policy.specs.declared.jwt.TokenPlace.TheVariants as place
use Rattle.mesh_text.specs.Dns.{is_label, is_subdomain}

-- ---- a rule's key set and places

-- neither text is empty
abbrev pub are_keys : Keys → Bool
are_keys (keys.Inline set) = nat_le 1 (length set) && is_key_set set
are_keys (keys.Uri uri) = is_short uri

-- a header by its name in lower case, with a prefix that may be empty; a parameter
abbrev pub is_place : TokenPlace → Bool
is_place (place.Header name prefix) = is_lower_name name && is_bounded prefix
is_place (place.Param name) = is_short name

abbrev pub is_header : TokenPlace → Bool
is_header (place.Header name prefix) = true
is_header (place.Param name) = false

abbrev pub is_param : TokenPlace → Bool
is_param at = not (is_header at)

-- all headers stand before all parameters
abbrev pub has_headers_first : List TokenPlace → Bool
has_headers_first [] = true
has_headers_first (place.Header name prefix ∷ places) = has_headers_first places
has_headers_first (place.Param name ∷ places) = list_all is_param places

pub record AcceptedPlaces (places : List TokenPlace) : Type 0 where
  -- a rule that names no place has those of a bearer token
  pub written : 0 < length places
  pub headers_first : IsTrue (has_headers_first places)
  pub few_headers : length (filter is_header places) ≤ 2048
  pub few_params : length (filter is_param places) ≤ 2048
  pub each : All (λ at. IsTrue (is_place at)) places

-- ---- rules and policies

pub record AcceptedJwtRule (rule : JwtRule) : Type 0 where
  pub issuer : IsTrue (is_short rule.issuer)
  pub audiences : AcceptedValues is_short rule.audiences
  pub keys : IsTrue (are_keys rule.keys)
  pub places : AcceptedPlaces rule.places
  pub payload_header : ForSome rule.payload_header (λ name. IsTrue (is_lower_name name))

pub record AcceptedRequest (request : RequestAuthentication) : Type 0 where
  pub name : IsTrue (is_subdomain request.name)
  pub namespace : IsTrue (is_label request.namespace)
  pub labels : AcceptedLabels request.labels
  pub rules : AcceptedList AcceptedJwtRule request.rules
