-- The cases that verdicts are promised for: what a connection, a request and the checks of a token can be.
use Rattle.std.specs.Prelude.{◌≡◌, ℕ, ◌==◌, Bool, true, false, not, ◌&&◌, List, [], ◌∷◌, length, map, filter, flat_map, Option, is_some, IsTrue}
use Rattle.std.specs.List.{list_all, list_any}
use Rattle.std.specs.Option.{option_map_or}
use Rattle.std.specs.Str.{bytes_eq, str_to_ascii_lowercase}
use Rattle.mesh_text.specs.Token.{is_token}
use Rattle.mesh_policy.specs.declared.case.Case.{Case}
use Rattle.mesh_policy.specs.declared.case.Tls.{Tls}
use Rattle.mesh_policy.specs.declared.jwt.JwtRule.{JwtRule}
use Rattle.mesh_policy.specs.declared.jwt.TokenPlace.{TokenPlace}
use Rattle.mesh_policy.specs.declared.jwt.TokenPlace.TheVariants.{Header, Param}
use Rattle.mesh_policy.specs.declared.request.Request.{Request}
use Rattle.mesh_policy.specs.declared.token_verdict.Claim.{Claim-F}
use Rattle.mesh_policy.specs.declared.token_verdict.ClaimField.{ClaimField, fold-ClaimField}
use Rattle.mesh_policy.specs.PeerNames.{peer_of}
use Rattle.mesh_policy.specs.Template.{begins_with_slash}
use Rattle.mesh_policy.specs.Token.{token_at}

-- a test of what may be there
abbrev pub if_there : {A : Type 0} → (A → Bool) → Option A → Bool
if_there test o = option_map_or test o true

-- each text once
abbrev pub are_distinct : List (List ℕ) → Bool
are_distinct [] = true
are_distinct (t ∷ ts) = not (list_any (bytes_eq t) ts) && are_distinct ts

-- at least one byte
abbrev pub is_not_empty : List ℕ → Bool
is_not_empty t = not (length t == 0)

-- ---- the connection and the request

-- the peer's name is well-formed, if there is one
abbrev pub has_peer_name : Tls → Bool
has_peer_name tls = if_there (λ name. is_some (peer_of name)) tls.peer

-- no byte is of A to Z
abbrev pub is_lower : List ℕ → Bool
is_lower name = bytes_eq name (str_to_ascii_lowercase name)

-- the names of headers are in lower case
abbrev pub has_lower_names : Request → Bool
has_lower_names request = list_all (λ header. is_lower header.name) request.headers

-- no two headers have one name
abbrev pub has_distinct_names : Request → Bool
has_distinct_names request = are_distinct (map (λ header. header.name) request.headers)

-- ---- claims (RFC 7519, section 4)

-- a claim of an object by its name, and whether it is sound
pub record Told : Type 0 where
  pub key : List ℕ
  pub is_sound : Bool

-- the names of an object are distinct, and each of its claims is sound
abbrev pub object_is_sound : List Told → Bool
object_is_sound fields = are_distinct (map (λ field. field.key) fields) && list_all (λ field. field.is_sound) fields

-- no text is empty
abbrev pub claim_is_sound : Claim-F Bool Told → Bool
claim_is_sound (Claim-F.Word t) = is_not_empty t
claim_is_sound (Claim-F.Words ts) = list_all is_not_empty ts
claim_is_sound (Claim-F.Object fields) = object_is_sound fields

-- a claim of an object, judged to its depth
abbrev pub field_is_sound : ClaimField → Told
field_is_sound field = fold-ClaimField Bool Told claim_is_sound (λ told. record { key = told.key; is_sound = told.value }) field

-- the claims of a token are an object
abbrev pub claims_are_sound : List ClaimField → Bool
claims_are_sound claims = object_is_sound (map field_is_sound claims)

-- ---- tokens

-- places differ by kind, by name or by prefix
abbrev pub is_same_place : TokenPlace → TokenPlace → Bool
is_same_place (Header name prefix) (Header other behind) = bytes_eq name other && bytes_eq prefix behind
is_same_place (Param name) (Param other) = bytes_eq name other
is_same_place (Header name prefix) (Param other) = false
is_same_place (Param name) (Header other behind) = false

-- the places of the rules at which a request shows a token
abbrev pub shown_places : List JwtRule → Request → List TokenPlace
shown_places rules request = filter (λ place. is_some (token_at place request)) (flat_map (λ rule. rule.places) rules)

-- a token stands at two different places
abbrev pub shows_many_tokens : List JwtRule → Request → Bool
shows_many_tokens rules request =
    list_any (λ place. list_any (λ other. not (is_same_place place other)) (shown_places rules request)) (shown_places rules request)

-- a request shows more than one token
unfoldable pub many_tokens : List JwtRule → Case → Bool
many_tokens rules case = option_map_or (shows_many_tokens rules) case.request false

-- ---- the whole

-- what is asked of a case, under the rules for tokens of its workload
pub record WellFormedCase (case : Case) (rules : List JwtRule) : Type 0 where
  -- the peer's name, if there is one, is well-formed
  pub peer : IsTrue (if_there has_peer_name case.tls)
  -- the path begins with '/', and the method is a token (RFC 9110, sections 7.1 and 9.1)
  pub path : IsTrue (if_there (λ request. begins_with_slash request.path) case.request)
  pub method : IsTrue (if_there (λ request. is_token request.method) case.request)
  -- the names of headers are in lower case, and each stands once
  pub lower : IsTrue (if_there has_lower_names case.request)
  pub distinct : IsTrue (if_there has_distinct_names case.request)
  -- no text of a claim is empty, and no object has two claims of one name
  pub claims : IsTrue (list_all (λ verdict. claims_are_sound verdict.claims) case.verdicts)
  -- a token stands at one place of the rules at most
  pub one_token : many_tokens rules case ≡ false
