-- Where a request shows a token (Istio reference, "RequestAuthentication": JWTRule; the query of RFC 3986,
-- section 3.4, and its pairs as HTML forms write them).
use Rattle.std.specs.Prelude.{ℕ, ◌==◌, nat_eq, Bool, ◌&&◌, List, [], ◌∷◌, length, drop, find, Option, Some, None, if◌then◌else◌}
use Rattle.std.specs.List.{after_first, before_first, list_any, slice_split, starts_with}
use Rattle.std.specs.Option.{option_map}
use Rattle.std.specs.Str.{bytes_eq, str_to_ascii_lowercase}
use Rattle.mesh_text.specs.Bytes.{ampersand, equals, question}
use Rattle.mesh_policy.specs.Path.{before_fragment}
use Rattle.mesh_policy.specs.declared.jwt.TokenPlace.{TokenPlace}
use Rattle.mesh_policy.specs.declared.jwt.TokenPlace.TheVariants.{Header, Param}
use Rattle.mesh_policy.specs.declared.request.Header.{Header as HeaderField}
use Rattle.mesh_policy.specs.declared.request.Request.{Request}

-- an empty token is none
abbrev pub not_empty : Option (List ℕ) → Option (List ℕ)
not_empty None = None
not_empty (Some token) = if length token == 0 then None else Some token

-- the first header of the name, without regard to ASCII case
abbrev pub value_of : List ℕ → List HeaderField → Option (List ℕ)
value_of name [] = None
value_of name (header ∷ headers) =
    if bytes_eq (str_to_ascii_lowercase header.name) (str_to_ascii_lowercase name) then Some header.value
    else value_of name headers

-- what stands in the value behind the prefix, where it begins with it
abbrev pub behind : List ℕ → Option (List ℕ) → Option (List ℕ)
behind prefix None = None
behind prefix (Some value) = if starts_with nat_eq value prefix then Some (drop (length prefix) value) else None

-- what follows the first '?', and nothing where there is none
abbrev pub after_mark : List ℕ → List ℕ
after_mark path = after_first (λ c. c == question) path

-- the query of the path
abbrev pub query_of : List ℕ → List ℕ
query_of path = after_mark (before_fragment path)

-- a '=' stands in the piece, and the name before the first
abbrev pub is_named : List ℕ → List ℕ → Bool
is_named name piece = list_any (λ c. c == equals) piece && bytes_eq (before_first (λ c. c == equals) piece) name

-- what follows the first '='
abbrev pub value_in : List ℕ → List ℕ
value_in piece = after_first (λ c. c == equals) piece

-- the first piece of the name among those between '&'
abbrev pub parameter : List ℕ → List ℕ → Option (List ℕ)
parameter name query = option_map value_in (find (is_named name) (slice_split (λ c. c == ampersand) query))

-- where a header or a parameter shows a token that is not empty
abbrev pub token_at : TokenPlace → Request → Option (List ℕ)
token_at (Header name prefix) request = not_empty (behind prefix (value_of name request.headers))
token_at (Param name) request = not_empty (parameter name (query_of request.path))
