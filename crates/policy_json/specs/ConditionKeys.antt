-- The keys of conditions (Istio reference, "Authorization Policy Conditions").
use Rattle.std.specs.Prelude.{ℕ, ◌+◌, ◌==◌, Bool, ◌&&◌, nat_le, List, [], ◌∷◌, length, map, Option, Some, None, is_some}
use Rattle.std.specs.Prelude.{option_map, unwrap_or, if◌then◌else◌}
use Rattle.std.specs.List.{after_first, before_first, list_all, slice_split}
use Rattle.std.specs.Option.{option_or}
use Rattle.std.specs.Str.{bytes_eq}
use Rattle.serde_json.specs.Data.{Data}
use Rattle.mesh_doc.specs.Faults.{Check, ◌▸◌, demands}
use Rattle.mesh_doc.specs.Kinds.{text_faults, text_in}
use Rattle.mesh_doc.specs.declared.reason.Reason.TheVariants as reason
use Rattle.mesh_policy.specs.Values.{is_bounded, lowered}
use Rattle.mesh_policy.specs.declared.condition.BlockKey.{BlockKey}
use Rattle.mesh_policy.specs.declared.condition.BlockKey.TheVariants as block
use Rattle.mesh_policy.specs.declared.condition.TextKey.{TextKey}
use Rattle.mesh_policy.specs.declared.condition.TextKey.TheVariants as text
use Rattle.mesh_text.specs.Bytes.{open_bracket, close_bracket}
use Rattle.mesh_text.specs.Token.{is_token}
use Rattle.policy_json.specs.declared.condition_keys.ConditionKey.{ConditionKey}
use Rattle.policy_json.specs.declared.condition_keys.ConditionKey.TheVariants as key
use Rattle.policy_json.specs.declared.condition_keys.TheConstants.{SOURCE_IP, REMOTE_IP, DESTINATION_IP}
use Rattle.policy_json.specs.declared.condition_keys.TheConstants.{SOURCE_PRINCIPAL, SOURCE_NAMESPACE, SNI, AUDIENCES, PRESENTER}
use Rattle.policy_json.specs.declared.condition_keys.TheConstants.{AUTH_PRINCIPAL, DESTINATION_PORT, HEADERS, CLAIMS}

-- ---- keys without brackets

-- those of address blocks
abbrev pub block_key_of : List ℕ → Option BlockKey
block_key_of t =
    if bytes_eq t SOURCE_IP.now then Some block.SourceIp
    else if bytes_eq t REMOTE_IP.now then Some block.RemoteIp
    else if bytes_eq t DESTINATION_IP.now then Some block.DestinationIp
    else None

-- those of texts
abbrev pub text_key_of : List ℕ → Option TextKey
text_key_of t =
    if bytes_eq t SOURCE_PRINCIPAL.now then Some text.SourcePrincipal
    else if bytes_eq t SOURCE_NAMESPACE.now then Some text.SourceNamespace
    else if bytes_eq t SNI.now then Some text.Sni
    else if bytes_eq t AUDIENCES.now then Some text.Audiences
    else if bytes_eq t PRESENTER.now then Some text.Presenter
    else None

-- ---- names in brackets

-- the byte that begins a name
abbrev pub is_open : ℕ → Bool
is_open c = c == open_bracket

-- what stands before the `]`
abbrev pub name_in : List ℕ → List ℕ
name_in piece = before_first (λ c. c == close_bracket) piece

-- a name that is not empty, and the `]` that ends it
abbrev pub is_closed : List ℕ → Bool
is_closed piece = nat_le 1 (length (name_in piece)) && (length piece == length (name_in piece) + 1)

-- the names that stand behind the first `[` of a key, as `a][b]`: each `[` begins one, and a `]` ends it
abbrev pub names_of : List ℕ → Option (List (List ℕ))
names_of t = if list_all is_closed (slice_split is_open t) then Some (map name_in (slice_split is_open t)) else None

-- a header has one name, a token that is kept in lower case
abbrev pub header_of : List (List ℕ) → Option TextKey
header_of [] = None
header_of (name ∷ []) = if is_token name then Some (text.Header (lowered name)) else None
header_of (name ∷ next ∷ more) = None

-- the key of the front before the brackets and of the names in them, where the brackets are well-formed
abbrev pub bracketed_key : List ℕ → Option (List (List ℕ)) → Option TextKey
bracketed_key front None = None
bracketed_key front (Some names) =
    if bytes_eq front HEADERS.now then header_of names
    else if bytes_eq front CLAIMS.now then Some (text.Claim names)
    else None

-- `request.headers[H]` and `request.auth.claims[A][B]`
abbrev pub bracketed_key_of : List ℕ → Option TextKey
bracketed_key_of t = bracketed_key (before_first is_open t) (names_of (after_first is_open t))

-- ---- all keys, by the form of their values

-- the key that a text is, whatever its length
abbrev pub known_key_of : List ℕ → Option ConditionKey
known_key_of t =
    if bytes_eq t AUTH_PRINCIPAL.now then Some key.Principals
    else if bytes_eq t DESTINATION_PORT.now then Some key.Ports
    else option_or (option_map key.Blocks (block_key_of t)) (option_map key.Words (option_or (text_key_of t) (bracketed_key_of t)))

-- the key of that name, of at most 1,024 bytes
abbrev pub key_of : List ℕ → Option ConditionKey
key_of t = if is_bounded t then known_key_of t else None

-- `key` of a Condition: a text that is one of the keys
unfoldable pub key_faults : Check
key_faults = text_faults ▸ demands (λ d. is_some (key_of (text_in d))) reason.BadKey

-- the key of the text
unfoldable pub key_in : Data → ConditionKey
key_in d = unwrap_or (key_of (text_in d)) key.Ports
