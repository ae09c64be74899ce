-- Values without fault are those of filters of external authorization that can be written.
use Rattle.std.proofs.Common.{◌≡◌, ℕ, true, List, [], ◌∷◌, Option, Some, None, option_map, unwrap_or, refl}
use Rattle.std.proofs.lemmas.Bool.{and_from}
use Rattle.std.specs.Bool.{⊤}
use Rattle.serde_json.specs.Data.{Data}
use Rattle.serde_json.specs.Find.{get}
use Rattle.mesh_doc.proofs.NoFault as no_fault
use Rattle.mesh_doc.proofs.NoFault.{Ensures, ◌⨾⨾◌, anything, strict_object}
use Rattle.mesh_doc.specs.Faults.{fault, first}
use Rattle.mesh_doc.specs.Fields.{found_faults, optional_written_in, required_written, required_written_in}
use Rattle.mesh_doc.specs.Places.{Steps, at_key}
use Rattle.mesh_doc.specs.declared.reason.Reason.{Reason}
use Rattle.envoy_types.specs.AuthzForms.{authz_config_in, authz_in, enabled_faults, enabled_in, enabled_value_faults, grpc_service_faults}
use Rattle.envoy_types.specs.AuthzForms.{grpc_service_in, http_authz_config_faults, http_authz_faults, http_authz_is_printable}
use Rattle.envoy_types.specs.AuthzForms.{http_service_faults, http_service_in, is_grpc, network_authz_config_faults, network_authz_faults}
use Rattle.envoy_types.specs.AuthzForms.{network_authz_is_printable, service_in}
use Rattle.envoy_types.specs.StringForms.{string_in, string_is_printable}
use Rattle.envoy_types.specs.declared.authz.AuthService.{AuthService}
use Rattle.envoy_types.specs.declared.fixed.TheConstants.{API_VERSION, TCP_PREFIX}
use Rattle.envoy_types.specs.declared.keys.TheConstants.{FAILURE_MODE_ALLOW, FILTER_ENABLED_METADATA, GRPC_SERVICE, HTTP_SERVICE}
use Rattle.envoy_types.specs.declared.keys.TheConstants.{STAT_PREFIX, STRING_MATCH, TRANSPORT_API_VERSION, VALUE}
use Rattle.envoy_types.specs.declared.names.TheConstants.{HTTP_AUTHZ_NAME, HTTP_AUTHZ_TYPE, HTTP_RBAC_NAME, NETWORK_AUTHZ_NAME}
use Rattle.envoy_types.specs.declared.names.TheConstants.{NETWORK_AUTHZ_TYPE, NETWORK_RBAC_NAME}
use Rattle.listener_reader.proofs.PartsPrintable.{any-truth, behind, fixed, named, one, typed}
use Rattle.listener_reader.proofs.StringsPrintable.{string-printable}

-- ---- when the authorizer is asked

value-printable : Ensures enabled_value_faults (required_written_in STRING_MATCH.now string_in) (λ m. string_is_printable m ≡ true)
unfolding enabled_value_faults
value-printable = strict_object _ (no_fault.required_written STRING_MATCH.now string-printable)

enabled-printable : (rbac_name : List ℕ) → Ensures (enabled_faults rbac_name) enabled_in (λ m. string_is_printable m ≡ true)
unfolding enabled_faults enabled_in
enabled-printable rbac_name = strict_object _ (behind (behind (no_fault.required_written VALUE.now value-printable)))

-- ---- the service of TCP chains is one over gRPC

over-grpc : (found : Option Data) (other : AuthService) (reason : Reason) (at : Steps)
    → first (found_faults (fault reason at) grpc_service_faults found at) ≡ None
    → is_grpc (unwrap_or (option_map grpc_service_in found) other) ≡ true
unfolding grpc_service_in
over-grpc None other reason at h = cc
over-grpc (Some d) other reason at h = refl

grpc-there : Ensures (required_written GRPC_SERVICE.now grpc_service_faults) service_in (λ service. is_grpc service ≡ true)
unfolding required_written service_in optional_written_in
grpc-there = record {
  holds = λ d at h.
      over-grpc (get GRPC_SERVICE.now d) (required_written_in HTTP_SERVICE.now http_service_in d) _ (at_key GRPC_SERVICE.now at) h;
}

any-grpc : Ensures grpc_service_faults grpc_service_in (λ _. ⊤)
any-grpc = anything

any-http : Ensures http_service_faults http_service_in (λ _. ⊤)
any-http = anything

-- ---- the filters

http-config-printable : Ensures http_authz_config_faults authz_config_in (λ authz. http_authz_is_printable authz ≡ true)
unfolding http_authz_config_faults authz_config_in http_authz_is_printable
http-config-printable = strict_object _ (record {
  holds = λ d at h.
      let parts = (one (GRPC_SERVICE.now ∷ HTTP_SERVICE.now ∷ [])
      ⨾⨾ typed HTTP_AUTHZ_TYPE.now
      ⨾⨾ no_fault.optional_written FAILURE_MODE_ALLOW.now any-truth
      ⨾⨾ no_fault.required_written FILTER_ENABLED_METADATA.now (enabled-printable HTTP_RBAC_NAME.now)
      ⨾⨾ no_fault.optional_written GRPC_SERVICE.now any-grpc
      ⨾⨾ no_fault.optional_written HTTP_SERVICE.now any-http
      ⨾⨾ no_fault.required_written TRANSPORT_API_VERSION.now (fixed API_VERSION.now)).holds d at h in
      parts.1.1.1.0;
})

network-config-printable : Ensures network_authz_config_faults authz_config_in (λ authz. network_authz_is_printable authz ≡ true)
unfolding network_authz_config_faults authz_config_in network_authz_is_printable
network-config-printable = strict_object _ (record {
  holds = λ d at h.
      let parts = (typed NETWORK_AUTHZ_TYPE.now
      ⨾⨾ no_fault.optional_written FAILURE_MODE_ALLOW.now any-truth
      ⨾⨾ no_fault.required_written FILTER_ENABLED_METADATA.now (enabled-printable NETWORK_RBAC_NAME.now)
      ⨾⨾ grpc-there
      ⨾⨾ no_fault.required_written STAT_PREFIX.now (fixed TCP_PREFIX.now)
      ⨾⨾ no_fault.required_written TRANSPORT_API_VERSION.now (fixed API_VERSION.now)).holds d at h in
      and_from _ _ parts.1.1.1.0 parts.1.1.0;
})

pub http-authz-printable : Ensures http_authz_faults authz_in (λ authz. http_authz_is_printable authz ≡ true)
http-authz-printable = named HTTP_AUTHZ_NAME.now http-config-printable

pub network-authz-printable : Ensures network_authz_faults authz_in (λ authz. network_authz_is_printable authz ≡ true)
network-authz-printable = named NETWORK_AUTHZ_NAME.now network-config-printable
