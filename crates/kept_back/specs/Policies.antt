-- The places of an AuthorizationPolicy that no listener is built for yet (Istio reference, "Authorization Policy", "Authorization
-- Policy Conditions").
use Rattle.std.specs.Prelude.{Bool, ◌||◌, not}
use Rattle.std.specs.Str.{bytes_eq}
use Rattle.serde_json.specs.Data.{Data}
use Rattle.mesh_doc.specs.Faults.{Check, ◌⨾◌}
use Rattle.mesh_doc.specs.Fields.{optional, or_empty}
use Rattle.mesh_doc.specs.Kinds.{text_in}
use Rattle.mesh_doc.specs.Lists.{listed}
use Rattle.mesh_text.specs.Parts.{is_prefix}
use Rattle.kept_back.specs.Fields.{kept_unless, no_entries}
use Rattle.kept_back.specs.declared.items.TheConstants.{SPEC}
use Rattle.kept_back.specs.declared.policies.TheConstants.{ACTION, ALLOW, DENY, RULES, FROM, WHEN, SOURCE, KEY}
use Rattle.kept_back.specs.declared.policies.TheConstants.{REQUEST_PRINCIPALS, NOT_REQUEST_PRINCIPALS, REQUEST_AUTH}

-- the principals of a request's token
unfoldable pub source_kept : Check
source_kept = no_entries REQUEST_PRINCIPALS.now ⨾ no_entries NOT_REQUEST_PRINCIPALS.now

-- an entry of `from`
unfoldable pub from_kept : Check
from_kept = or_empty SOURCE.now source_kept

-- a key on the token of a request: `request.auth.*`
unfoldable pub is_token_key : Data → Bool
is_token_key d = is_prefix REQUEST_AUTH.now (text_in d)

-- a condition on such a key, at the key
unfoldable pub condition_kept : Check
condition_kept = optional KEY.now (kept_unless (λ d. not (is_token_key d)))

-- a rule, its sources first and its conditions last; no operation asks for a token
unfoldable pub rule_kept : Check
rule_kept = listed FROM.now 2048 from_kept ⨾ listed WHEN.now 2048 condition_kept

-- the words `ALLOW` and `DENY`
unfoldable pub is_decided_word : Data → Bool
is_decided_word d = bytes_eq (text_in d) ALLOW.now || bytes_eq (text_in d) DENY.now

-- every action but these two
unfoldable pub action_kept : Check
action_kept = kept_unless is_decided_word

-- the `spec`
unfoldable pub spec_kept : Check
spec_kept = optional ACTION.now action_kept ⨾ listed RULES.now 2048 rule_kept

-- the policy
unfoldable pub policy_kept : Check
policy_kept = or_empty SPEC.now spec_kept
