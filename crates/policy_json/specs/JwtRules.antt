-- The rules of a RequestAuthentication (Istio reference, JWTRule).
use Rattle.std.specs.Prelude.{ℕ, Bool, true, false, List, [], ◌∷◌, Option, is_some, unwrap_or}
use Rattle.serde_json.specs.Data.{Data}
use Rattle.mesh_doc.specs.Faults.{Check, ◌⨾◌, demands}
use Rattle.mesh_doc.specs.Fields.{strict, required, required_in, optional, optional_in}
use Rattle.mesh_doc.specs.Kinds.{text_in, truth_faults, truth_in}
use Rattle.mesh_doc.specs.Lists.{listed, listed_in}
use Rattle.mesh_doc.specs.Tested.{tested}
use Rattle.mesh_doc.specs.declared.reason.Reason.TheVariants as reason
use Rattle.mesh_policy.specs.Values.{is_key_set, is_name}
use Rattle.mesh_policy.specs.declared.jwt.JwtRule.{JwtRule}
use Rattle.mesh_policy.specs.declared.jwt.Keys.{Keys}
use Rattle.mesh_policy.specs.declared.jwt.Keys.TheVariants as keys
use Rattle.policy_json.specs.KeySets.{keys_of, unless_empty}
use Rattle.policy_json.specs.Texts.{bounded_text_faults, lower_name_in, short_text_faults}
use Rattle.policy_json.specs.TokenPlaces.{header_faults, header_in, param_faults, param_in, places_of}
use Rattle.policy_json.specs.declared.jwt_rules.TheConstants.{ISSUER, AUDIENCES, JWKS_URI, JWKS, FROM_HEADERS, FROM_PARAMS}
use Rattle.policy_json.specs.declared.jwt_rules.TheConstants.{FORWARD, PAYLOAD_HEADER}

-- the name of a header, or an empty text, which stands for none
abbrev pub is_empty_or_name : List ℕ → Bool
is_empty_or_name [] = true
is_empty_or_name (c ∷ t) = is_name (c ∷ t)

-- `jwks`: the set itself (RFC 7517, section 5), of at most 16,384 bytes
abbrev pub key_set_faults : Check
key_set_faults = tested is_key_set reason.BadValue

-- `outputPayloadToHeader`
abbrev pub payload_header_faults : Check
payload_header_faults = tested is_empty_or_name reason.BadName

-- The keys, where exactly one of `jwksUri` and `jwks` is there. For this a text that is too long is there, and a value
-- that is no text is not. It makes no difference to the first fault: that of the field itself comes before JwtKeys.
abbrev pub keys_in : Data → Option Keys
keys_in d = keys_of (unless_empty (optional_in JWKS_URI.now text_in d)) (unless_empty (optional_in JWKS.now text_in d))

-- JWTRule
unfoldable pub jwt_rule_faults : Check
jwt_rule_faults =
    strict (ISSUER.now ∷ AUDIENCES.now ∷ JWKS_URI.now ∷ JWKS.now
    ∷ FROM_HEADERS.now ∷ FROM_PARAMS.now ∷ FORWARD.now ∷ PAYLOAD_HEADER.now ∷ [])
    (required ISSUER.now short_text_faults
    ⨾ listed AUDIENCES.now 2048 short_text_faults
    ⨾ optional JWKS_URI.now bounded_text_faults
    ⨾ optional JWKS.now key_set_faults
    ⨾ listed FROM_HEADERS.now 2048 header_faults
    ⨾ listed FROM_PARAMS.now 2048 param_faults
    ⨾ optional FORWARD.now truth_faults
    ⨾ optional PAYLOAD_HEADER.now payload_header_faults
    ⨾ demands (λ d. is_some (keys_in d)) reason.JwtKeys)

-- what a JWTRule means
unfoldable pub jwt_rule_in : Data → JwtRule
jwt_rule_in d = record {
  issuer = required_in ISSUER.now text_in d;
  audiences = listed_in AUDIENCES.now text_in d;
  keys = unwrap_or (keys_in d) (keys.Inline []);
  places = places_of (listed_in FROM_HEADERS.now header_in d) (listed_in FROM_PARAMS.now param_in d);
  forward = unwrap_or (optional_in FORWARD.now truth_in d) false;
  payload_header = unless_empty (optional_in PAYLOAD_HEADER.now lower_name_in d);
}
