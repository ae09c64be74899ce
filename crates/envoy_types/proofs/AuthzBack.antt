-- What is written of external authorization filters is read back.
use Rattle.std.proofs.Common.{◌≡◌, ℕ, true, List, [], ◌∷◌, Some, None, unwrap_or, refl, ap, ap₂, ◌∙◌}
use Rattle.std.proofs.lemmas.Bool.{and_parts}
use Rattle.serde_json.specs.Data.{string}
use Rattle.mesh_doc.specs.Fields.{required_written_in}
use Rattle.mesh_doc.specs.Kinds.{text_faults, text_in}
use Rattle.mesh_doc.specs.Known.{is_known}
use Rattle.envoy_types.proofs.FieldsBack.{Passes, both, found, get-object, strict-object}
use Rattle.envoy_types.proofs.ObjectsBack.{absent-at, optional-at, optional-means, required-at, required-field, required-means, truth-at}
use Rattle.envoy_types.proofs.PartsBack.{Back, fixed-passes, named-back, one-passes, sole-back, text-back, text-passes}
use Rattle.envoy_types.proofs.StringsBack.{string-back}
use Rattle.envoy_types.proofs.ValuesBack.{segment-back}
use Rattle.envoy_types.specs.AuthzForms.{authz_config_in, authz_in, enabled_faults, enabled_in, enabled_key_in}
use Rattle.envoy_types.specs.AuthzForms.{enabled_value_faults, enabled_written, envoy_grpc_faults, grpc_service_faults, grpc_service_in}
use Rattle.envoy_types.specs.AuthzForms.{grpc_written, http_authz_config_faults, http_authz_faults, http_authz_is_printable}
use Rattle.envoy_types.specs.AuthzForms.{http_authz_written, http_service_faults, http_service_in, is_grpc, network_authz_config_faults}
use Rattle.envoy_types.specs.AuthzForms.{network_authz_faults, network_authz_is_printable, network_authz_written, server_uri_faults}
use Rattle.envoy_types.specs.AuthzForms.{server_uri_in, server_uri_written, service_field, service_in}
use Rattle.envoy_types.specs.SmallForms.{sole_in, sole_list}
use Rattle.envoy_types.specs.StringForms.{string_in, string_is_printable, string_written}
use Rattle.envoy_types.specs.ValueForms.{segment_faults, segment_in, segment_written}
use Rattle.envoy_types.specs.WrittenFields.{Field, are_different, field, field_names, list_written, object_of, sole_field, truth_field}
use Rattle.envoy_types.specs.declared.authz.AuthService.{AuthService}
use Rattle.envoy_types.specs.declared.authz.AuthService.TheVariants.{Http, Grpc}
use Rattle.envoy_types.specs.declared.authz.ExtAuthz.{ExtAuthz}
use Rattle.envoy_types.specs.declared.fixed.TheConstants.{ANSWER_TIME, API_VERSION, TCP_PREFIX}
use Rattle.envoy_types.specs.declared.keys.TheConstants.{CLUSTER, CLUSTER_NAME, ENVOY_GRPC, FAILURE_MODE_ALLOW, FILTER}
use Rattle.envoy_types.specs.declared.keys.TheConstants.{FILTER_ENABLED_METADATA, GRPC_SERVICE, HTTP_SERVICE, PATH, SERVER_URI}
use Rattle.envoy_types.specs.declared.keys.TheConstants.{STAT_PREFIX, STRING_MATCH, TIMEOUT, TRANSPORT_API_VERSION, TYPE, URI, VALUE}
use Rattle.envoy_types.specs.declared.names.TheConstants.{HTTP_AUTHZ_NAME, HTTP_AUTHZ_TYPE, HTTP_RBAC_NAME}
use Rattle.envoy_types.specs.declared.names.TheConstants.{NETWORK_AUTHZ_NAME, NETWORK_AUTHZ_TYPE, NETWORK_RBAC_NAME}

-- ---- when the authorizer is asked

path-back : (key : List ℕ)
    → Back (sole_list (segment_faults text_faults)) (sole_in segment_in) (list_written segment_written (key ∷ [])) key
unfolding list_written
path-back key = sole-back (segment_faults text_faults) segment_in (segment_written key) key (segment-back text_faults key (text-passes key))

module _ (rbac_name : List ℕ) (authz : ExtAuthz) where
  -- the fields of `filter_enabled_metadata`
  abbrev asked : List Field
  asked =
      field FILTER.now (string rbac_name)
      ∷ field PATH.now (list_written segment_written (authz.enabled_key ∷ []))
      ∷ field VALUE.now (sole_field STRING_MATCH.now (string_written authz.enabled))
      ∷ []

  value-back : string_is_printable authz.enabled ≡ true
      → Back enabled_value_faults (required_written_in STRING_MATCH.now string_in)
      (sole_field STRING_MATCH.now (string_written authz.enabled)) authz.enabled
  unfolding enabled_value_faults is_known
  value-back h =
      let fs : List Field = field STRING_MATCH.now (string_written authz.enabled) ∷ [] in
      let found = required-field fs refl STRING_MATCH.now _ string_in _ _ refl (string-back authz.enabled h) in
      record { passes = strict-object (STRING_MATCH.now ∷ []) _ fs refl found.passes; back = found.back }

  enabled-passes : string_is_printable authz.enabled ≡ true → Passes (enabled_faults rbac_name) (enabled_written rbac_name authz)
  unfolding enabled_faults enabled_written is_known
  enabled-passes h =
      strict-object (FILTER.now ∷ PATH.now ∷ VALUE.now ∷ []) _ asked refl
      (both (required-at asked refl FILTER.now _ _ refl (fixed-passes rbac_name))
      (both (required-at asked refl PATH.now _ _ refl (path-back authz.enabled_key).passes)
      (required-at asked refl VALUE.now _ _ refl (value-back h).passes)))

  key-back : enabled_key_in (enabled_written rbac_name authz) ≡ authz.enabled_key
  unfolding enabled_key_in enabled_written
  key-back = required-means asked refl PATH.now (sole_in segment_in) _ _ refl (path-back authz.enabled_key).back

  enabled-back : string_is_printable authz.enabled ≡ true → enabled_in (enabled_written rbac_name authz) ≡ authz.enabled
  unfolding enabled_in enabled_written
  enabled-back h = required-means asked refl VALUE.now (required_written_in STRING_MATCH.now string_in) _ _ refl (value-back h).back

-- ---- who is asked

grpc-back : (cluster : List ℕ) → Back grpc_service_faults grpc_service_in (grpc_written cluster) (Grpc cluster)
unfolding grpc_service_faults grpc_service_in grpc_written envoy_grpc_faults is_known
grpc-back cluster =
    let inner : List Field = field CLUSTER_NAME.now (string cluster) ∷ [] in
    let fs : List Field = field ENVOY_GRPC.now (object_of inner) ∷ field TIMEOUT.now (string ANSWER_TIME.now) ∷ [] in
    let name = required-field inner refl CLUSTER_NAME.now _ text_in _ _ refl (text-back cluster) in
    record {
      passes = strict-object (ENVOY_GRPC.now ∷ TIMEOUT.now ∷ []) _ fs refl
          (both (required-at fs refl ENVOY_GRPC.now _ _ refl (strict-object (CLUSTER_NAME.now ∷ []) _ inner refl name.passes))
          (required-at fs refl TIMEOUT.now _ _ refl (fixed-passes ANSWER_TIME.now)));
      back = ap (λ c. Grpc c) (required-means fs refl ENVOY_GRPC.now (required_written_in CLUSTER_NAME.now text_in) _ _ refl name.back);
    }

server-back : (cluster uri : List ℕ) → Back server_uri_faults server_uri_in (server_uri_written cluster uri) (Http cluster uri)
unfolding server_uri_faults server_uri_in server_uri_written is_known
server-back cluster uri =
    let fs : List Field =
    field CLUSTER.now (string cluster) ∷ field TIMEOUT.now (string ANSWER_TIME.now) ∷ field URI.now (string uri) ∷ [] in
    let first = required-field fs refl CLUSTER.now _ text_in _ _ refl (text-back cluster) in
    let last = required-field fs refl URI.now _ text_in _ _ refl (text-back uri) in
    record {
      passes = strict-object (CLUSTER.now ∷ TIMEOUT.now ∷ URI.now ∷ []) _ fs refl
          (both first.passes (both (required-at fs refl TIMEOUT.now _ _ refl (fixed-passes ANSWER_TIME.now)) last.passes));
      back = ap₂ (λ c u. Http c u) first.back last.back;
    }

http-back : (cluster uri : List ℕ)
    → Back http_service_faults http_service_in (sole_field SERVER_URI.now (server_uri_written cluster uri)) (Http cluster uri)
unfolding http_service_faults http_service_in is_known
http-back cluster uri =
    let fs : List Field = field SERVER_URI.now (server_uri_written cluster uri) ∷ [] in
    let found = required-field fs refl SERVER_URI.now _ server_uri_in _ _ refl (server-back cluster uri) in
    record { passes = strict-object (SERVER_URI.now ∷ []) _ fs refl found.passes; back = found.back }

-- ---- the filters

-- a filter by its parts
authz-path : {one other : ExtAuthz} → one.service ≡ other.service → one.fail_open ≡ other.fail_open → one.enabled_key ≡ other.enabled_key
    → one.enabled ≡ other.enabled → one ≡ other
authz-path e f g h = λ i. record { service = e i; fail_open = f i; enabled_key = g i; enabled = h i }

-- what the parts of a configuration mean, whatever fields stand behind them
module _ (fs : List Field) (apart : are_different (field_names fs) ≡ true) where
  grpc-means : (cluster : List ℕ) → found GRPC_SERVICE.now fs ≡ Some (grpc_written cluster)
      → service_in (object_of fs) ≡ Grpc cluster
  unfolding service_in
  grpc-means cluster is =
      ap (λ o. unwrap_or o (required_written_in HTTP_SERVICE.now http_service_in (object_of fs)))
      (optional-means fs apart GRPC_SERVICE.now grpc_service_in _ is) ∙ (grpc-back cluster).back

  http-means : (cluster uri : List ℕ) → found GRPC_SERVICE.now fs ≡ None
      → found HTTP_SERVICE.now fs ≡ Some (sole_field SERVER_URI.now (server_uri_written cluster uri))
      → service_in (object_of fs) ≡ Http cluster uri
  unfolding service_in
  http-means cluster uri none is =
      ap (λ o. unwrap_or o (required_written_in HTTP_SERVICE.now http_service_in (object_of fs)))
      (optional-means fs apart GRPC_SERVICE.now grpc_service_in _ none)
      ∙ required-means fs apart HTTP_SERVICE.now http_service_in _ _ is (http-back cluster uri).back

  config-means : (rbac_name : List ℕ) (authz : ExtAuthz) → string_is_printable authz.enabled ≡ true
      → found FAILURE_MODE_ALLOW.now fs ≡ (truth_field FAILURE_MODE_ALLOW.now authz.fail_open).1
      → found FILTER_ENABLED_METADATA.now fs ≡ Some (enabled_written rbac_name authz)
      → service_in (object_of fs) ≡ authz.service → authz_config_in (object_of fs) ≡ authz
  unfolding authz_config_in
  config-means rbac_name authz h opens enabled service = authz-path service
      (truth-at fs apart FAILURE_MODE_ALLOW.now authz.fail_open opens).back
      (required-means fs apart FILTER_ENABLED_METADATA.now enabled_key_in _ _ enabled (key-back rbac_name authz))
      (required-means fs apart FILTER_ENABLED_METADATA.now enabled_in _ _ enabled (enabled-back rbac_name authz h))

-- the fields of either configuration, with those that stand behind the service
abbrev config_fields : (type rbac_name : List ℕ) → ExtAuthz → List Field → List Field
config_fields type rbac_name authz behind =
    field TYPE.now (string type)
    ∷ truth_field FAILURE_MODE_ALLOW.now authz.fail_open
    ∷ field FILTER_ENABLED_METADATA.now (enabled_written rbac_name authz)
    ∷ service_field authz.service
    ∷ behind

abbrev version_field : Field
version_field = field TRANSPORT_API_VERSION.now (string API_VERSION.now)

abbrev network_fields : ExtAuthz → List Field
network_fields authz =
    config_fields NETWORK_AUTHZ_TYPE.now NETWORK_RBAC_NAME.now authz (field STAT_PREFIX.now (string TCP_PREFIX.now) ∷ version_field ∷ [])

network-config-back : (service : AuthService) (rest : ExtAuthz) → is_grpc service ≡ true → string_is_printable rest.enabled ≡ true
    → let authz : ExtAuthz = record rest { service = service } in
    Back network_authz_config_faults authz_config_in (object_of (network_fields authz)) authz
unfolding network_authz_config_faults is_known
network-config-back (Http cluster uri) rest over h = cc
network-config-back (Grpc cluster) rest over h =
    let authz : ExtAuthz = record rest { service = Grpc cluster } in
    let fs : List Field = network_fields authz in
    record {
      passes = strict-object (TYPE.now ∷ FAILURE_MODE_ALLOW.now ∷ FILTER_ENABLED_METADATA.now ∷ GRPC_SERVICE.now ∷ STAT_PREFIX.now
          ∷ TRANSPORT_API_VERSION.now ∷ []) _ fs refl
          (both (required-at fs refl TYPE.now _ _ refl (fixed-passes NETWORK_AUTHZ_TYPE.now))
          (both (truth-at fs refl FAILURE_MODE_ALLOW.now authz.fail_open refl).passes
          (both (required-at fs refl FILTER_ENABLED_METADATA.now _ _ refl (enabled-passes NETWORK_RBAC_NAME.now authz h))
          (both (required-at fs refl GRPC_SERVICE.now _ _ refl (grpc-back cluster).passes)
          (both (required-at fs refl STAT_PREFIX.now _ _ refl (fixed-passes TCP_PREFIX.now))
          (required-at fs refl TRANSPORT_API_VERSION.now _ _ refl (fixed-passes API_VERSION.now)))))));
      back = config-means fs refl NETWORK_RBAC_NAME.now authz h refl refl (grpc-means fs refl cluster refl);
    }

pub network-authz-back : (authz : ExtAuthz) → network_authz_is_printable authz ≡ true
    → Back network_authz_faults authz_in (network_authz_written authz) authz
unfolding network_authz_is_printable network_authz_written
network-authz-back authz h =
    named-back NETWORK_AUTHZ_NAME.now network_authz_config_faults authz_config_in _ authz
    (network-config-back authz.service authz (and_parts _ _ h).0 (and_parts _ _ h).1)

abbrev http_fields : ExtAuthz → List Field
http_fields authz = config_fields HTTP_AUTHZ_TYPE.now HTTP_RBAC_NAME.now authz (version_field ∷ [])

-- the names of its fields
abbrev http_names : List (List ℕ)
http_names =
    TYPE.now ∷ FAILURE_MODE_ALLOW.now ∷ FILTER_ENABLED_METADATA.now ∷ GRPC_SERVICE.now ∷ HTTP_SERVICE.now ∷ TRANSPORT_API_VERSION.now ∷ []

http-config-back : (service : AuthService) (rest : ExtAuthz) → string_is_printable rest.enabled ≡ true
    → let authz : ExtAuthz = record rest { service = service } in
    Back http_authz_config_faults authz_config_in (object_of (http_fields authz)) authz
unfolding http_authz_config_faults is_known
http-config-back (Grpc cluster) rest h =
    let authz : ExtAuthz = record rest { service = Grpc cluster } in
    let fs : List Field = http_fields authz in
    record {
      passes = strict-object http_names _ fs refl
          (both (one-passes _ (object_of fs) (rw (get-object GRPC_SERVICE.now fs refl, get-object HTTP_SERVICE.now fs refl) refl))
          (both (required-at fs refl TYPE.now _ _ refl (fixed-passes HTTP_AUTHZ_TYPE.now))
          (both (truth-at fs refl FAILURE_MODE_ALLOW.now authz.fail_open refl).passes
          (both (required-at fs refl FILTER_ENABLED_METADATA.now _ _ refl (enabled-passes HTTP_RBAC_NAME.now authz h))
          (both (optional-at fs refl GRPC_SERVICE.now _ _ refl (grpc-back cluster).passes)
          (both (absent-at fs refl HTTP_SERVICE.now _ refl)
          (required-at fs refl TRANSPORT_API_VERSION.now _ _ refl (fixed-passes API_VERSION.now))))))));
      back = config-means fs refl HTTP_RBAC_NAME.now authz h refl refl (grpc-means fs refl cluster refl);
    }
http-config-back (Http cluster uri) rest h =
    let authz : ExtAuthz = record rest { service = Http cluster uri } in
    let fs : List Field = http_fields authz in
    record {
      passes = strict-object http_names _ fs refl
          (both (one-passes _ (object_of fs) (rw (get-object GRPC_SERVICE.now fs refl, get-object HTTP_SERVICE.now fs refl) refl))
          (both (required-at fs refl TYPE.now _ _ refl (fixed-passes HTTP_AUTHZ_TYPE.now))
          (both (truth-at fs refl FAILURE_MODE_ALLOW.now authz.fail_open refl).passes
          (both (required-at fs refl FILTER_ENABLED_METADATA.now _ _ refl (enabled-passes HTTP_RBAC_NAME.now authz h))
          (both (absent-at fs refl GRPC_SERVICE.now _ refl)
          (both (optional-at fs refl HTTP_SERVICE.now _ _ refl (http-back cluster uri).passes)
          (required-at fs refl TRANSPORT_API_VERSION.now _ _ refl (fixed-passes API_VERSION.now))))))));
      back = config-means fs refl HTTP_RBAC_NAME.now authz h refl refl (http-means fs refl cluster uri refl refl);
    }

pub http-authz-back : (authz : ExtAuthz) → http_authz_is_printable authz ≡ true
    → Back http_authz_faults authz_in (http_authz_written authz) authz
unfolding http_authz_is_printable http_authz_written
http-authz-back authz h =
    named-back HTTP_AUTHZ_NAME.now http_authz_config_faults authz_config_in _ authz (http-config-back authz.service authz h)
