-- The JSON of token providers (Envoy v3 API reference, `extensions.filters.http.jwt_authn.v3.JwtProvider`).
use Rattle.std.specs.Prelude.{ℕ, Bool, true, false, ◌&&◌, List, [], ◌∷◌, ◌++◌, Option, Some, None}
use Rattle.std.specs.Prelude.{unwrap_or}
use Rattle.std.specs.List.{filter_map, list_all}
use Rattle.serde_json.specs.Data.{Data, string}
use Rattle.mesh_doc.specs.Faults.{Check, ◌⨾◌}
use Rattle.mesh_doc.specs.Fields.{strict, optional_written, optional_written_in, required_written, required_written_in}
use Rattle.mesh_doc.specs.Kinds.{text_faults, text_in, truth_faults, truth_in}
use Rattle.mesh_doc.specs.Lists.{listed_written, listed_written_in}
use Rattle.mesh_doc.specs.Tested.{tested}
use Rattle.mesh_doc.specs.declared.reason.Reason.TheVariants as reason
use Rattle.mesh_policy.specs.Jwt.{or_default}
use Rattle.mesh_policy.specs.declared.jwt.JwtRule.{JwtRule}
use Rattle.mesh_policy.specs.declared.jwt.Keys.{Keys}
use Rattle.mesh_policy.specs.declared.jwt.Keys.TheVariants.{Inline, Uri}
use Rattle.mesh_policy.specs.declared.jwt.TokenPlace.{TokenPlace}
use Rattle.mesh_policy.specs.declared.jwt.TokenPlace.TheVariants as place
use Rattle.envoy_types.specs.HeaderForms.{is_lower_token}
use Rattle.envoy_types.specs.Jwt.{Provider}
use Rattle.envoy_types.specs.Order.{are_places}
use Rattle.envoy_types.specs.SmallForms.{fixed_faults, is_short_list, most_entries, one_of}
use Rattle.envoy_types.specs.WrittenFields.{Field, field, list_field, object_of, optional_field, sole_field, text_field, truth_field}
use Rattle.envoy_types.specs.declared.fixed.TheConstants.{KEYS_CLUSTER, KEYS_TIME, PAYLOAD}
use Rattle.envoy_types.specs.declared.keys.TheConstants.{AUDIENCES, CLUSTER, FORWARD, FORWARD_PAYLOAD_HEADER, FROM_HEADERS}
use Rattle.envoy_types.specs.declared.keys.TheConstants.{FROM_PARAMS, HTTP_URI, INLINE_STRING, ISSUER, LOCAL_JWKS, NAME}
use Rattle.envoy_types.specs.declared.keys.TheConstants.{PAYLOAD_IN_METADATA, REMOTE_JWKS, TIMEOUT, URI, VALUE_PREFIX}

-- ---- where tokens are found

-- the name of a header: a token in lower case
abbrev pub lower_token_faults : Check
lower_token_faults = tested is_lower_token reason.BadForm

-- `JwtHeader`: a header, and the prefix of the token in its value
unfoldable pub from_header_faults : Check
from_header_faults =
    strict (NAME.now ∷ VALUE_PREFIX.now ∷ [])
    (required_written NAME.now lower_token_faults
    ⨾ optional_written VALUE_PREFIX.now text_faults)

-- the header, with the empty prefix where none is written
unfoldable pub from_header_in : Data → TokenPlace
from_header_in d =
    place.Header (required_written_in NAME.now text_in d) (unwrap_or (optional_written_in VALUE_PREFIX.now text_in d) [])

-- a parameter of the query
unfoldable pub from_param_in : Data → TokenPlace
from_param_in d = place.Param (text_in d)

-- the headers, and then the parameters
unfoldable pub places_in : Data → List TokenPlace
places_in d =
    or_default (listed_written_in FROM_HEADERS.now from_header_in d ++ listed_written_in FROM_PARAMS.now from_param_in d)

-- the name and the prefix of a header
abbrev pub header_of : TokenPlace → Option (List ℕ × List ℕ)
header_of (place.Header name prefix) = Some (name, prefix)
header_of (place.Param name) = None

-- the name of a parameter
abbrev pub param_of : TokenPlace → Option (List ℕ)
param_of (place.Header name prefix) = None
param_of (place.Param name) = Some name

-- a header, and its prefix unless that is empty
unfoldable pub from_header_written : List ℕ × List ℕ → Data
from_header_written header = object_of (field NAME.now (string header.0) ∷ text_field VALUE_PREFIX.now header.1 ∷ [])

-- ---- the key set

-- `config.core.v3.DataSource`: the set itself
unfoldable pub local_keys_faults : Check
local_keys_faults = strict (INLINE_STRING.now ∷ []) (required_written INLINE_STRING.now text_faults)

-- the set
unfoldable pub local_keys_in : Data → Keys
local_keys_in d = Inline (required_written_in INLINE_STRING.now text_in d)

-- `config.core.v3.HttpUri`: where it is fetched
unfoldable pub keys_uri_faults : Check
keys_uri_faults =
    strict (CLUSTER.now ∷ TIMEOUT.now ∷ URI.now ∷ [])
    (required_written CLUSTER.now (fixed_faults KEYS_CLUSTER.now)
    ⨾ required_written TIMEOUT.now (fixed_faults KEYS_TIME.now)
    ⨾ required_written URI.now text_faults)

-- `RemoteJwks`
unfoldable pub remote_keys_faults : Check
remote_keys_faults = strict (HTTP_URI.now ∷ []) (required_written HTTP_URI.now keys_uri_faults)

-- the URI that it is fetched from
unfoldable pub remote_keys_in : Data → Keys
remote_keys_in d = Uri (required_written_in HTTP_URI.now (required_written_in URI.now text_in) d)

-- the alternative that is there
unfoldable pub keys_in : Data → Keys
keys_in d = unwrap_or (optional_written_in LOCAL_JWKS.now local_keys_in d) (required_written_in REMOTE_JWKS.now remote_keys_in d)

-- where the set is fetched, by its URI
unfoldable pub keys_uri_written : List ℕ → Data
keys_uri_written uri = object_of
    (field CLUSTER.now (string KEYS_CLUSTER.now)
    ∷ field TIMEOUT.now (string KEYS_TIME.now)
    ∷ field URI.now (string uri)
    ∷ [])

-- the key set as a field of its provider
abbrev pub keys_field : Keys → Field
keys_field (Inline set) = field LOCAL_JWKS.now (sole_field INLINE_STRING.now (string set))
keys_field (Uri uri) = field REMOTE_JWKS.now (sole_field HTTP_URI.now (keys_uri_written uri))

-- ---- the provider

-- what a provider may be asked beside its issuer and keys
abbrev pub token_fields_faults : Check
token_fields_faults =
    listed_written AUDIENCES.now most_entries text_faults
    ⨾ optional_written FORWARD.now truth_faults
    ⨾ optional_written FORWARD_PAYLOAD_HEADER.now lower_token_faults
    ⨾ listed_written FROM_HEADERS.now most_entries from_header_faults
    ⨾ listed_written FROM_PARAMS.now most_entries text_faults

-- a key set that is fetched is read behind the metadata, as keys stand in byte order
unfoldable pub provider_faults : List ℕ → Check
provider_faults name =
    strict (AUDIENCES.now ∷ FORWARD.now ∷ FORWARD_PAYLOAD_HEADER.now ∷ FROM_HEADERS.now ∷ FROM_PARAMS.now ∷ ISSUER.now
    ∷ LOCAL_JWKS.now ∷ PAYLOAD_IN_METADATA.now ∷ REMOTE_JWKS.now ∷ [])
    (one_of (LOCAL_JWKS.now ∷ REMOTE_JWKS.now ∷ [])
    ⨾ token_fields_faults
    ⨾ required_written ISSUER.now text_faults
    ⨾ optional_written LOCAL_JWKS.now local_keys_faults
    ⨾ required_written PAYLOAD_IN_METADATA.now (fixed_faults PAYLOAD.now)
    ⨾ optional_written REMOTE_JWKS.now remote_keys_faults)

-- the rule by which the provider judges tokens
unfoldable pub provider_rule_in : Data → JwtRule
provider_rule_in d = record {
  issuer = required_written_in ISSUER.now text_in d;
  audiences = listed_written_in AUDIENCES.now text_in d;
  keys = keys_in d;
  places = places_in d;
  forward = unwrap_or (optional_written_in FORWARD.now truth_in d) false;
  payload_header = optional_written_in FORWARD_PAYLOAD_HEADER.now text_in d;
}

-- the rule under its name
unfoldable pub provider_in : List ℕ → Data → Provider
provider_in name d = record { name = name; rule = provider_rule_in d }

-- the places are always written, the default ones too
unfoldable pub provider_written : Provider → Data
provider_written provider = object_of
    (list_field AUDIENCES.now string provider.rule.audiences
    ∷ truth_field FORWARD.now provider.rule.forward
    ∷ optional_field FORWARD_PAYLOAD_HEADER.now string provider.rule.payload_header
    ∷ list_field FROM_HEADERS.now from_header_written (filter_map header_of provider.rule.places)
    ∷ list_field FROM_PARAMS.now string (filter_map param_of provider.rule.places)
    ∷ field ISSUER.now (string provider.rule.issuer)
    ∷ keys_field provider.rule.keys
    ∷ field PAYLOAD_IN_METADATA.now (string PAYLOAD.now)
    ∷ [])

-- ---- what can be written

-- the names of headers are in lower case
abbrev pub place_is_printable : TokenPlace → Bool
place_is_printable (place.Header name prefix) = is_lower_token name
place_is_printable (place.Param name) = true

-- a place at least, headers before parameters, each list within its limit
abbrev pub places_are_printable : List TokenPlace → Bool
places_are_printable places =
    are_places places && list_all place_is_printable places
    && is_short_list (filter_map header_of places) && is_short_list (filter_map param_of places)

-- no header, or a name in lower case
abbrev pub payload_header_is_printable : Option (List ℕ) → Bool
payload_header_is_printable None = true
payload_header_is_printable (Some name) = is_lower_token name

-- audiences within the limit of lists, and places and a header that can be written
unfoldable pub provider_is_printable : Provider → Bool
provider_is_printable provider =
    is_short_list provider.rule.audiences && places_are_printable provider.rule.places
    && payload_header_is_printable provider.rule.payload_header
