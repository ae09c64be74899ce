-- The JSON of external authorization filters (Envoy v3 API reference, `extensions.filters.http.ext_authz.v3.ExtAuthz` and
-- `extensions.filters.network.ext_authz.v3.ExtAuthz`).
use Rattle.std.specs.Prelude.{ℕ, Bool, true, false, ◌&&◌, List, [], ◌∷◌, ◌++◌, unwrap_or}
use Rattle.serde_json.specs.Data.{Data, string}
use Rattle.mesh_doc.specs.Faults.{Check, ◌⨾◌}
use Rattle.mesh_doc.specs.Fields.{strict, optional_written, optional_written_in, required_written, required_written_in}
use Rattle.mesh_doc.specs.Kinds.{text_faults, text_in, truth_faults, truth_in}
use Rattle.envoy_types.specs.SmallForms.{config_in, fixed_faults, named_faults, one_of, sole_in, sole_list, type_faults}
use Rattle.envoy_types.specs.StringForms.{string_faults, string_in, string_is_printable, string_written}
use Rattle.envoy_types.specs.ValueForms.{segment_faults, segment_in, segment_written}
use Rattle.envoy_types.specs.WrittenFields.{Field, config_written, field, list_written, named_written, object_of, sole_field, truth_field}
use Rattle.envoy_types.specs.declared.authz.AuthService.{AuthService}
use Rattle.envoy_types.specs.declared.authz.AuthService.TheVariants.{Http, Grpc}
use Rattle.envoy_types.specs.declared.authz.ExtAuthz.{ExtAuthz}
use Rattle.envoy_types.specs.declared.fixed.TheConstants.{ANSWER_TIME, API_VERSION, TCP_PREFIX}
use Rattle.envoy_types.specs.declared.keys.TheConstants.{CLUSTER, CLUSTER_NAME, ENVOY_GRPC, FAILURE_MODE_ALLOW, FILTER}
use Rattle.envoy_types.specs.declared.keys.TheConstants.{FILTER_ENABLED_METADATA, GRPC_SERVICE, HTTP_SERVICE, PATH, SERVER_URI}
use Rattle.envoy_types.specs.declared.keys.TheConstants.{STAT_PREFIX, STRING_MATCH, TIMEOUT, TRANSPORT_API_VERSION, TYPE, URI, VALUE}
use Rattle.envoy_types.specs.declared.names.TheConstants.{HTTP_AUTHZ_NAME, HTTP_AUTHZ_TYPE, HTTP_RBAC_NAME}
use Rattle.envoy_types.specs.declared.names.TheConstants.{NETWORK_AUTHZ_NAME, NETWORK_AUTHZ_TYPE, NETWORK_RBAC_NAME}
use Rattle.envoy_types.specs.declared.strings.StringMatcher.{StringMatcher}

-- ---- when the authorizer is asked

-- `type.matcher.v3.ValueMatcher`, of a text alone
unfoldable pub enabled_value_faults : Check
enabled_value_faults = strict (STRING_MATCH.now ∷ []) (required_written STRING_MATCH.now string_faults)

-- `filter_enabled_metadata`: one key of what the RBAC filter of this name left, and a matcher of the text there
unfoldable pub enabled_faults : List ℕ → Check
enabled_faults rbac_name =
    strict (FILTER.now ∷ PATH.now ∷ VALUE.now ∷ [])
    (required_written FILTER.now (fixed_faults rbac_name)
    ⨾ required_written PATH.now (sole_list (segment_faults text_faults))
    ⨾ required_written VALUE.now enabled_value_faults)

-- the key
unfoldable pub enabled_key_in : Data → List ℕ
enabled_key_in d = required_written_in PATH.now (sole_in segment_in) d

-- the matcher
unfoldable pub enabled_in : Data → StringMatcher
enabled_in d = required_written_in VALUE.now (required_written_in STRING_MATCH.now string_in) d

-- the name of the RBAC filter, the key and the matcher, as an object
unfoldable pub enabled_written : List ℕ → ExtAuthz → Data
enabled_written rbac_name authz = object_of
    (field FILTER.now (string rbac_name)
    ∷ field PATH.now (list_written segment_written (authz.enabled_key ∷ []))
    ∷ field VALUE.now (sole_field STRING_MATCH.now (string_written authz.enabled))
    ∷ [])

-- ---- who is asked

-- `config.core.v3.GrpcService.EnvoyGrpc`
unfoldable pub envoy_grpc_faults : Check
envoy_grpc_faults = strict (CLUSTER_NAME.now ∷ []) (required_written CLUSTER_NAME.now text_faults)

-- `config.core.v3.GrpcService`
unfoldable pub grpc_service_faults : Check
grpc_service_faults =
    strict (ENVOY_GRPC.now ∷ TIMEOUT.now ∷ [])
    (required_written ENVOY_GRPC.now envoy_grpc_faults
    ⨾ required_written TIMEOUT.now (fixed_faults ANSWER_TIME.now))

-- its cluster
unfoldable pub grpc_service_in : Data → AuthService
grpc_service_in d = Grpc (required_written_in ENVOY_GRPC.now (required_written_in CLUSTER_NAME.now text_in) d)

-- `config.core.v3.HttpUri`
unfoldable pub server_uri_faults : Check
server_uri_faults =
    strict (CLUSTER.now ∷ TIMEOUT.now ∷ URI.now ∷ [])
    (required_written CLUSTER.now text_faults
    ⨾ required_written TIMEOUT.now (fixed_faults ANSWER_TIME.now)
    ⨾ required_written URI.now text_faults)

-- its cluster and its URI
unfoldable pub server_uri_in : Data → AuthService
server_uri_in d = Http (required_written_in CLUSTER.now text_in d) (required_written_in URI.now text_in d)

-- `extensions.filters.http.ext_authz.v3.HttpService`
unfoldable pub http_service_faults : Check
http_service_faults = strict (SERVER_URI.now ∷ []) (required_written SERVER_URI.now server_uri_faults)

-- what its URI means
unfoldable pub http_service_in : Data → AuthService
http_service_in d = required_written_in SERVER_URI.now server_uri_in d

-- the alternative that is there
unfoldable pub service_in : Data → AuthService
service_in d = unwrap_or (optional_written_in GRPC_SERVICE.now grpc_service_in d) (required_written_in HTTP_SERVICE.now http_service_in d)

-- an authorizer over gRPC, by its cluster
unfoldable pub grpc_written : List ℕ → Data
grpc_written cluster = object_of
    (field ENVOY_GRPC.now (sole_field CLUSTER_NAME.now (string cluster))
    ∷ field TIMEOUT.now (string ANSWER_TIME.now)
    ∷ [])

-- an authorizer over HTTP, by its cluster and its URI
unfoldable pub server_uri_written : List ℕ → List ℕ → Data
server_uri_written cluster uri = object_of
    (field CLUSTER.now (string cluster)
    ∷ field TIMEOUT.now (string ANSWER_TIME.now)
    ∷ field URI.now (string uri)
    ∷ [])

-- the service as a field of its filter
abbrev pub service_field : AuthService → Field
service_field (Grpc cluster) = field GRPC_SERVICE.now (grpc_written cluster)
service_field (Http cluster uri) = field HTTP_SERVICE.now (sole_field SERVER_URI.now (server_uri_written cluster uri))

-- ---- the filters

-- the filter of HTTP chains, with one of both services
unfoldable pub http_authz_config_faults : Check
http_authz_config_faults =
    strict (TYPE.now ∷ FAILURE_MODE_ALLOW.now ∷ FILTER_ENABLED_METADATA.now ∷ GRPC_SERVICE.now ∷ HTTP_SERVICE.now
    ∷ TRANSPORT_API_VERSION.now ∷ [])
    (one_of (GRPC_SERVICE.now ∷ HTTP_SERVICE.now ∷ [])
    ⨾ type_faults HTTP_AUTHZ_TYPE.now
    ⨾ optional_written FAILURE_MODE_ALLOW.now truth_faults
    ⨾ required_written FILTER_ENABLED_METADATA.now (enabled_faults HTTP_RBAC_NAME.now)
    ⨾ optional_written GRPC_SERVICE.now grpc_service_faults
    ⨾ optional_written HTTP_SERVICE.now http_service_faults
    ⨾ required_written TRANSPORT_API_VERSION.now (fixed_faults API_VERSION.now))

-- the filter of TCP chains, which asks over gRPC alone
unfoldable pub network_authz_config_faults : Check
network_authz_config_faults =
    strict (TYPE.now ∷ FAILURE_MODE_ALLOW.now ∷ FILTER_ENABLED_METADATA.now ∷ GRPC_SERVICE.now ∷ STAT_PREFIX.now
    ∷ TRANSPORT_API_VERSION.now ∷ [])
    (type_faults NETWORK_AUTHZ_TYPE.now
    ⨾ optional_written FAILURE_MODE_ALLOW.now truth_faults
    ⨾ required_written FILTER_ENABLED_METADATA.now (enabled_faults NETWORK_RBAC_NAME.now)
    ⨾ required_written GRPC_SERVICE.now grpc_service_faults
    ⨾ required_written STAT_PREFIX.now (fixed_faults TCP_PREFIX.now)
    ⨾ required_written TRANSPORT_API_VERSION.now (fixed_faults API_VERSION.now))

-- `ExtAuthz` of HTTP chains under its name
abbrev pub http_authz_faults : Check
http_authz_faults = named_faults HTTP_AUTHZ_NAME.now http_authz_config_faults

-- `ExtAuthz` of TCP chains under its name
abbrev pub network_authz_faults : Check
network_authz_faults = named_faults NETWORK_AUTHZ_NAME.now network_authz_config_faults

-- of either configuration
unfoldable pub authz_config_in : Data → ExtAuthz
authz_config_in d = record {
  service = service_in d;
  fail_open = unwrap_or (optional_written_in FAILURE_MODE_ALLOW.now truth_in d) false;
  enabled_key = required_written_in FILTER_ENABLED_METADATA.now enabled_key_in d;
  enabled = required_written_in FILTER_ENABLED_METADATA.now enabled_in d;
}

-- of either filter
abbrev pub authz_in : Data → ExtAuthz
authz_in = config_in authz_config_in

-- the fields of both, by the name of the RBAC filter whose metadata is looked at
abbrev pub authz_fields : List ℕ → ExtAuthz → List Field
authz_fields rbac_name authz =
    truth_field FAILURE_MODE_ALLOW.now authz.fail_open
    ∷ field FILTER_ENABLED_METADATA.now (enabled_written rbac_name authz)
    ∷ service_field authz.service
    ∷ []

-- a filter of HTTP chains, which looks at the metadata of the HTTP RBAC filter
unfoldable pub http_authz_written : ExtAuthz → Data
http_authz_written authz = named_written HTTP_AUTHZ_NAME.now (config_written HTTP_AUTHZ_TYPE.now
    (authz_fields HTTP_RBAC_NAME.now authz ++ field TRANSPORT_API_VERSION.now (string API_VERSION.now) ∷ []))

-- a filter of TCP chains, which looks at the metadata of the network RBAC filter
unfoldable pub network_authz_written : ExtAuthz → Data
network_authz_written authz = named_written NETWORK_AUTHZ_NAME.now (config_written NETWORK_AUTHZ_TYPE.now
    (authz_fields NETWORK_RBAC_NAME.now authz
    ++ field STAT_PREFIX.now (string TCP_PREFIX.now)
    ∷ field TRANSPORT_API_VERSION.now (string API_VERSION.now)
    ∷ []))

-- either service goes; the matcher of the metadata has to be one that can be written
unfoldable pub http_authz_is_printable : ExtAuthz → Bool
http_authz_is_printable authz = string_is_printable authz.enabled

-- over gRPC
abbrev pub is_grpc : AuthService → Bool
is_grpc (Grpc cluster) = true
is_grpc (Http cluster uri) = false

-- only a service over gRPC, and such a matcher
unfoldable pub network_authz_is_printable : ExtAuthz → Bool
network_authz_is_printable authz = is_grpc authz.service && string_is_printable authz.enabled
