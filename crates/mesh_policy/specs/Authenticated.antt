-- What a request's token says of who sends it (Istio reference, "RequestAuthentication": a request without a token is
-- anonymous, one with an invalid token is rejected).
use Rattle.std.specs.Prelude.{ℕ, Bool, ◌&&◌, List, find, Option, Some, None, is_some, if◌then◌else◌}
use Rattle.std.specs.Cmp.Lexicographic.{pointwise}
use Rattle.std.specs.List.{list_any}
use Rattle.std.specs.Option.{option_and_then}
use Rattle.std.specs.Str.{bytes_eq}
use Rattle.mesh_policy.specs.declared.case.Case.{Case}
use Rattle.mesh_policy.specs.declared.jwt.JwtRule.{JwtRule}
use Rattle.mesh_policy.specs.declared.jwt.Keys.{Keys}
use Rattle.mesh_policy.specs.declared.jwt.Keys.TheVariants.{Inline, Uri}
use Rattle.mesh_policy.specs.declared.token_verdict.ClaimField.{ClaimField}
use Rattle.mesh_policy.specs.declared.token_verdict.TokenVerdict.{TokenVerdict}
use Rattle.mesh_policy.specs.Lists.{first_answer}
use Rattle.mesh_policy.specs.Token.{token_at}

-- what is asked of those who check tokens: whether one is valid for an issuer, audiences and keys
pub record Question : Type 0 where
  pub token : List ℕ
  pub issuer : List ℕ
  pub audiences : List (List ℕ)
  pub keys : List ℕ

-- no token was shown; one was, with these claims; one was, and none is valid
pub data Authentication : Type 0 where
  anonymous : Authentication
  valid : List ClaimField → Authentication
  bad : Authentication

-- the set, or where it is fetched from
abbrev pub text_of : Keys → List ℕ
text_of (Inline set) = set
text_of (Uri uri) = uri

-- the token of the first place of a rule that finds one
abbrev pub token_of : Case → JwtRule → Option (List ℕ)
token_of case rule = option_and_then (λ request. first_answer (λ place. token_at place request) rule.places) case.request

-- the question that a rule asks of a token
abbrev pub question_of : JwtRule → List ℕ → Question
question_of rule token = record { token = token; issuer = rule.issuer; audiences = rule.audiences; keys = text_of rule.keys }

-- audiences compare as lists, in order
abbrev pub is_answer : Question → TokenVerdict → Bool
is_answer question verdict =
    bytes_eq verdict.token question.token && bytes_eq verdict.issuer question.issuer
    && pointwise bytes_eq verdict.audiences question.audiences && bytes_eq verdict.keys question.keys

-- the first verdict that the case lists for the question of a rule
abbrev pub verdict_for : Case → JwtRule → Option TokenVerdict
verdict_for case rule = option_and_then (λ token. find (is_answer (question_of rule token)) case.verdicts) (token_of case rule)

-- by the first answer to a rule, and whether any token was shown
abbrev pub authentication_by : Option TokenVerdict → Bool → Authentication
authentication_by (Some verdict) shown = valid verdict.claims
authentication_by None shown = if shown then bad else anonymous

-- The claims of the first rule whose token is valid. Else the request is anonymous where no rule has a token, and bad
-- where one has.
unfoldable pub authenticated : List JwtRule → Case → Authentication
authenticated rules case = authentication_by (first_answer (verdict_for case) rules) (list_any (λ rule. is_some (token_of case rule)) rules)
