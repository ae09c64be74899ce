-- When a matcher of metadata holds for a token's claims (Envoy v3 API reference, `type.matcher.v3.MetadataMatcher`,
-- `type.matcher.v3.ValueMatcher` and `type.matcher.v3.ListMatcher`).
use Rattle.std.specs.Prelude.{ℕ, ◌==◌, Bool, true, false, not, List, length, Option}
use Rattle.std.specs.List.{list_any}
use Rattle.std.specs.Option.{option_and_then}
use Rattle.mesh_policy.specs.Attributes.{claim_at}
use Rattle.mesh_policy.specs.declared.token_verdict.Claim.{Claim, Claim-F, out-Claim}
use Rattle.mesh_policy.specs.declared.token_verdict.ClaimField.{ClaimField}
use Rattle.envoy_types.specs.State.{holds_of}
use Rattle.envoy_types.specs.Strings.{string_holds}
use Rattle.envoy_types.specs.declared.metadata.ValueMatcher.{ValueMatcher}
use Rattle.envoy_types.specs.declared.metadata.ValueMatcher.TheVariants.{Present, Words, OneOfPresent, OneOf}

-- a claim that is a text
abbrev pub text_holds : ValueMatcher → List ℕ → Bool
text_holds Present t = true
text_holds (Words m) t = string_holds m t
text_holds OneOfPresent t = false
text_holds (OneOf m) t = false

-- a claim that is a list of texts
abbrev pub list_holds : ValueMatcher → List (List ℕ) → Bool
list_holds Present ts = false
list_holds (Words m) ts = false
list_holds OneOfPresent ts = not (length ts == 0)
list_holds (OneOf m) ts = list_any (string_holds m) ts

-- an object matches nothing
abbrev pub value_holds : ValueMatcher → Claim-F Claim ClaimField → Bool
value_holds value (Claim-F.Word t) = text_holds value t
value_holds value (Claim-F.Words ts) = list_holds value ts
value_holds value (Claim-F.Object fields) = false

-- the same of a claim
abbrev pub is_match : ValueMatcher → Claim → Bool
is_match value claim = value_holds value (out-Claim claim)

-- the claim at a path of keys matches
abbrev pub claim_holds : ValueMatcher → List (List ℕ) → Option (List ClaimField) → Bool
claim_holds value path claims = holds_of (is_match value) (option_and_then (claim_at path) claims)
