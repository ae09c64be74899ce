-- The `spec` of a RequestAuthentication (Istio reference, RequestAuthentication).
use Rattle.std.specs.Prelude.{ℕ, List, [], ◌∷◌, unwrap_or}
use Rattle.serde_json.specs.Data.{Data}
use Rattle.mesh_doc.specs.Faults.{Check, ◌⨾◌}
use Rattle.mesh_doc.specs.Fields.{strict, optional, optional_in}
use Rattle.mesh_doc.specs.Lists.{listed, listed_in}
use Rattle.mesh_policy.specs.declared.jwt.RequestAuthentication.{RequestAuthentication}
use Rattle.policy_json.specs.JwtRules.{jwt_rule_faults, jwt_rule_in}
use Rattle.policy_json.specs.Labels.{selector_faults, selector_in}
use Rattle.policy_json.specs.TargetRefs.{targets_faults}
use Rattle.policy_json.specs.declared.labels.TheConstants.{SELECTOR}
use Rattle.policy_json.specs.declared.request.TheConstants.{JWT_RULES}
use Rattle.policy_json.specs.declared.target_refs.TheConstants.{TARGET_REFS, TARGET_REF}

-- what can be wrong with a RequestAuthentication
unfoldable pub request_faults : Check
request_faults = strict (SELECTOR.now ∷ TARGET_REFS.now ∷ TARGET_REF.now ∷ JWT_RULES.now ∷ [])
    (optional SELECTOR.now selector_faults
    ⨾ targets_faults
    ⨾ listed JWT_RULES.now 2048 jwt_rule_faults)

-- RequestAuthentication
unfoldable pub request_in : List ℕ → List ℕ → Data → RequestAuthentication
request_in name namespace d = record {
  name = name;
  namespace = namespace;
  labels = unwrap_or (optional_in SELECTOR.now selector_in d) [];
  rules = listed_in JWT_RULES.now jwt_rule_in d;
}
