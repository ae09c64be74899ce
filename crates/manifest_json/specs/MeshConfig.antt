-- The `spec` of a MeshConfig (Istio reference, Global Mesh Options): the root namespace and the external authorizers.
use Rattle.std.specs.Prelude.{ℕ, Bool, false, not, List, [], ◌∷◌, ◌++◌, Option, Some, None, is_some, unwrap_or}
use Rattle.std.specs.List.{list_any}
use Rattle.std.specs.Str.{bytes_eq}
use Rattle.serde_json.specs.Data.{Data, null}
use Rattle.mesh_doc.specs.Faults.{Check, Faults, ◌⨾◌, ◌▸◌, demands, at_field, fault}
use Rattle.mesh_doc.specs.Places.{Steps, at_key}
use Rattle.mesh_doc.specs.Fields.{field_in, optional, optional_in, or_empty, or_empty_in, required, required_in, strict}
use Rattle.mesh_doc.specs.Kinds.{number_in, text_in, truth_faults, truth_in}
use Rattle.mesh_doc.specs.Lists.{listed_in}
use Rattle.mesh_doc.specs.Turns.{listed_in_turn}
use Rattle.mesh_doc.specs.declared.reason.Reason.TheVariants as reason
use Rattle.mesh_policy.specs.declared.bundle.MeshConfig.{MeshConfig}
use Rattle.mesh_policy.specs.declared.names.TheConstants.{ROOT_NAMESPACE}
use Rattle.mesh_policy.specs.declared.provider.Provider.{Provider}
use Rattle.policy_json.specs.Texts.{token_faults}
use Rattle.manifest_json.specs.Metadata.{name_faults, namespace_faults}
use Rattle.manifest_json.specs.Ports.{port_faults}
use Rattle.manifest_json.specs.declared.mesh_config.Authorizer.{Authorizer}
use Rattle.manifest_json.specs.declared.mesh_config.TheConstants.{ENVOY_EXT_AUTHZ_GRPC, ENVOY_EXT_AUTHZ_HTTP, EXTENSION_PROVIDERS, FAIL_OPEN, ROOT_NAMESPACE_FIELD, SERVICE}
use Rattle.manifest_json.specs.declared.items.TheConstants.{SPEC}
use Rattle.manifest_json.specs.declared.metadata.TheConstants.{NAME}
use Rattle.manifest_json.specs.declared.ports.TheConstants.{PORT}

-- ---- the Service of an authorizer

-- its host, its port, and what holds where it gives no answer
unfoldable pub authorizer_faults : Check
authorizer_faults = strict (SERVICE.now ∷ PORT.now ∷ FAIL_OPEN.now ∷ [])
    (required SERVICE.now name_faults
    ⨾ required PORT.now port_faults
    ⨾ optional FAIL_OPEN.now truth_faults)

unfoldable pub authorizer_in : Data → Authorizer
authorizer_in d = record {
  service = required_in SERVICE.now text_in d;
  port = required_in PORT.now number_in d;
  fail_open = unwrap_or (optional_in FAIL_OPEN.now truth_in d) false;
}

-- ---- an authorizer by its name

-- no earlier authorizer has the name
abbrev pub is_new_name : List (List ℕ) → Data → Bool
is_new_name seen d = not (list_any (bytes_eq (required_in NAME.now text_in d)) seen)

-- a name that no earlier authorizer has
unfoldable pub name_in_turn_faults : List (List ℕ) → Check
name_in_turn_faults seen =
    required NAME.now token_faults
    ▸ at_field NAME.now (demands (is_new_name seen) reason.DuplicateItem)

-- it is asked by HTTP or by gRPC, and by one of them alone
abbrev pub single_form_faults : Option Data → Option Data → Steps → Faults
single_form_faults None None at = fault reason.MissingField (at_key ENVOY_EXT_AUTHZ_HTTP.now at)
single_form_faults (Some http) None at = authorizer_faults http (at_key ENVOY_EXT_AUTHZ_HTTP.now at)
single_form_faults None (Some grpc) at = authorizer_faults grpc (at_key ENVOY_EXT_AUTHZ_GRPC.now at)
single_form_faults (Some http) (Some grpc) at = fault reason.BadValue at

-- what can be wrong with its Service
unfoldable pub forms_faults : Check
forms_faults d at = single_form_faults (field_in ENVOY_EXT_AUTHZ_HTTP.now d) (field_in ENVOY_EXT_AUTHZ_GRPC.now d) at

-- that of the form that is there
abbrev pub form_of : Option Data → Option Data → Authorizer
form_of (Some http) grpc = authorizer_in http
form_of None grpc = authorizer_in (unwrap_or grpc null)

-- the Service that it means
unfoldable pub form_in : Data → Authorizer
form_in d = form_of (field_in ENVOY_EXT_AUTHZ_HTTP.now d) (field_in ENVOY_EXT_AUTHZ_GRPC.now d)

-- an external authorizer (Istio reference, MeshConfig.ExtensionProvider)
unfoldable pub provider_faults : List (List ℕ) → Check
provider_faults seen = strict (NAME.now ∷ ENVOY_EXT_AUTHZ_HTTP.now ∷ ENVOY_EXT_AUTHZ_GRPC.now ∷ [])
    (name_in_turn_faults seen
    ⨾ forms_faults)

unfoldable pub provider_in : Data → Provider
provider_in d = record {
  name = required_in NAME.now text_in d;
  service = (form_in d).service;
  port = (form_in d).port;
  fail_open = (form_in d).fail_open;
  http = is_some (field_in ENVOY_EXT_AUTHZ_HTTP.now d);
}

-- the names behind it
unfoldable pub after_provider : List (List ℕ) → Data → List (List ℕ)
after_provider seen d = seen ++ required_in NAME.now text_in d ∷ []

-- ---- the whole

-- the root namespace, and at most 2,048 authorizers
unfoldable pub mesh_config_faults : Check
mesh_config_faults = strict (ROOT_NAMESPACE_FIELD.now ∷ EXTENSION_PROVIDERS.now ∷ [])
    (optional ROOT_NAMESPACE_FIELD.now namespace_faults
    ⨾ listed_in_turn EXTENSION_PROVIDERS.now 2048 provider_faults after_provider [])

unfoldable pub mesh_config_in : Data → MeshConfig
mesh_config_in d = record {
  root = unwrap_or (optional_in ROOT_NAMESPACE_FIELD.now text_in d) ROOT_NAMESPACE.now;
  providers = listed_in EXTENSION_PROVIDERS.now provider_in d;
}

-- its metadata are not read
unfoldable pub mesh_item_faults : Check
mesh_item_faults = or_empty SPEC.now mesh_config_faults

unfoldable pub mesh_item_in : Data → MeshConfig
mesh_item_in d = or_empty_in SPEC.now mesh_config_in d
