-- The JSON of TLS sockets and of listener filters, which have no field that may differ (Envoy v3 API reference,
-- `extensions.transport_sockets.tls.v3.DownstreamTlsContext` and `config.listener.v3.ListenerFilter`).
use Rattle.std.specs.Prelude.{ℕ, ◌+◌, ◌==◌, true, List, [], ◌∷◌, if◌then◌else◌}
use Rattle.serde_json.specs.Data.{Data, array, boolean, string}
use Rattle.serde_json.specs.View.{items_of}
use Rattle.mesh_doc.specs.Faults.{Check, ◌⨾◌}
use Rattle.mesh_doc.specs.Fields.{strict, required_written}
use Rattle.envoy_types.specs.SmallForms.{fixed_faults, list_in_turn_that, named_faults, plain_config_faults, sole_list}
use Rattle.envoy_types.specs.SmallForms.{true_faults, type_faults}
use Rattle.envoy_types.specs.WrittenFields.{config_written, field, named_written, object_of, sole_field}
use Rattle.envoy_types.specs.declared.fixed.TheConstants.{MESH_ROOTS, OWN_CERTIFICATE}
use Rattle.envoy_types.specs.declared.keys.TheConstants.{COMMON_TLS_CONTEXT, NAME, REQUIRE_CLIENT_CERTIFICATE, TLS_CERTIFICATES, TYPE}
use Rattle.envoy_types.specs.declared.keys.TheConstants.{VALIDATION_CONTEXT}
use Rattle.envoy_types.specs.declared.names.TheConstants.{ORIGINAL_DST_NAME, ORIGINAL_DST_TYPE, TLS_INSPECTOR_NAME, TLS_INSPECTOR_TYPE}
use Rattle.envoy_types.specs.declared.names.TheConstants.{TLS_SOCKET_NAME, TLS_SOCKET_TYPE}

-- ---- the TLS socket that asks for the peer's certificate

-- `SdsSecretConfig`: a secret by its name
unfoldable pub secret_faults : List ℕ → Check
secret_faults name = strict (NAME.now ∷ []) (required_written NAME.now (fixed_faults name))

-- `CommonTlsContext`: the workload's certificate, and the roots of the mesh
unfoldable pub certificates_faults : Check
certificates_faults =
    strict (TLS_CERTIFICATES.now ∷ VALIDATION_CONTEXT.now ∷ [])
    (required_written TLS_CERTIFICATES.now (sole_list (secret_faults OWN_CERTIFICATE.now))
    ⨾ required_written VALIDATION_CONTEXT.now (secret_faults MESH_ROOTS.now))

-- `DownstreamTlsContext`
unfoldable pub tls_context_faults : Check
tls_context_faults =
    strict (TYPE.now ∷ COMMON_TLS_CONTEXT.now ∷ REQUIRE_CLIENT_CERTIFICATE.now ∷ [])
    (type_faults TLS_SOCKET_TYPE.now
    ⨾ required_written COMMON_TLS_CONTEXT.now certificates_faults
    ⨾ required_written REQUIRE_CLIENT_CERTIFICATE.now true_faults)

-- `DownstreamTlsContext` under its name
abbrev pub socket_faults : Check
socket_faults = named_faults TLS_SOCKET_NAME.now tls_context_faults

-- a secret by its name
abbrev pub secret_written : List ℕ → Data
secret_written name = sole_field NAME.now (string name)

-- the workload's certificate and the roots of the mesh
unfoldable pub certificates_written : Data
certificates_written = object_of
    (field TLS_CERTIFICATES.now (array (items_of (secret_written OWN_CERTIFICATE.now ∷ [])))
    ∷ field VALIDATION_CONTEXT.now (secret_written MESH_ROOTS.now)
    ∷ [])

-- the one TLS socket that a chain may have
unfoldable pub socket_written : Data
socket_written = named_written TLS_SOCKET_NAME.now (config_written TLS_SOCKET_TYPE.now
    (field COMMON_TLS_CONTEXT.now certificates_written
    ∷ field REQUIRE_CLIENT_CERTIFICATE.now (boolean true)
    ∷ []))

-- ---- listener filters

-- the original destination, and then the TLS inspector
unfoldable pub original_dst_faults : Check
original_dst_faults = named_faults ORIGINAL_DST_NAME.now (plain_config_faults ORIGINAL_DST_TYPE.now)

-- the TLS inspector, which has no field either
unfoldable pub tls_inspector_faults : Check
tls_inspector_faults = named_faults TLS_INSPECTOR_NAME.now (plain_config_faults TLS_INSPECTOR_TYPE.now)

-- by its index; an entry behind the two is read as the second
abbrev pub listener_filter_faults : ℕ → Check
listener_filter_faults index = if index == 0 then original_dst_faults else tls_inspector_faults

-- these two
unfoldable pub listener_filters_faults : Check
listener_filters_faults = list_in_turn_that {S = ℕ} (λ n. n == 2) listener_filter_faults (λ index _. index + 1) 0

-- both filters, in their order
unfoldable pub listener_filters_written : Data
listener_filters_written = array (items_of (
    named_written ORIGINAL_DST_NAME.now (config_written ORIGINAL_DST_TYPE.now [])
    ∷ named_written TLS_INSPECTOR_NAME.now (config_written TLS_INSPECTOR_TYPE.now [])
    ∷ []))
