-- The fields of a token provider that come before its issuer.
use Rattle.std.specs.Prelude.{List, [], ◌∷◌}
use Rattle.std.specs.List.{filter_map}
use Rattle.serde_json.specs.Data.{string}
use Rattle.mesh_policy.specs.declared.jwt.JwtRule.{JwtRule}
use Rattle.envoy_types.specs.ProviderForms.{from_header_written, header_of, param_of}
use Rattle.envoy_types.specs.WrittenFields.{Field, list_field, optional_field, truth_field}
use Rattle.envoy_types.specs.declared.keys.TheConstants.{AUDIENCES, FORWARD, FORWARD_PAYLOAD_HEADER, FROM_HEADERS, FROM_PARAMS}

-- which tokens are taken, where they are found, and what is handed on of them
abbrev pub token_fields : JwtRule → List Field
token_fields rule =
    list_field AUDIENCES.now string rule.audiences
    ∷ truth_field FORWARD.now rule.forward
    ∷ optional_field FORWARD_PAYLOAD_HEADER.now string rule.payload_header
    ∷ list_field FROM_HEADERS.now from_header_written (filter_map header_of rule.places)
    ∷ list_field FROM_PARAMS.now string (filter_map param_of rule.places)
    ∷ []
