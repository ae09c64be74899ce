-- The rules of a RequestAuthentication without fault are accepted.
use Rattle.std.proofs.Common.{◌≡◌, ℕ, ◌≤◌, true, false, List, [], ◌∷◌, ◌++◌, length, refl}
use Rattle.std.proofs.Common.{arith, ap, Option, Some, None, is_some, unwrap_or, IsTrue, All, not, subst}
use Rattle.std.proofs.Common.{lit<, lit≤}
use Rattle.std.proofs.lemmas.Bool.{and_from, le-leb}
use Rattle.std.proofs.lemmas.List.Elements.{All-append, All-cons, All-nil, All-weaker, recursion_from_All}
use Rattle.std.specs.Bool.{⊤}
use Rattle.std.specs.List.{AllByRecursion, filter, list_all}
use Rattle.std.specs.Option.{ForSome}
use Rattle.mesh_doc.proofs.NoFault as no_fault
use Rattle.mesh_doc.proofs.NoFault.{Ensures, ◌⨾⨾◌, anything, earlier, later, strict_object}
use Rattle.mesh_doc.specs.Kinds.{text_in, truth_faults, truth_in}
use Rattle.mesh_doc.specs.Fields.{optional, optional_in}
use Rattle.mesh_doc.specs.declared.reason.Reason.TheVariants as reason
use Rattle.mesh_policy.specs.AcceptedLists.{AcceptedList}
use Rattle.mesh_policy.specs.AcceptedTokens.{AcceptedJwtRule, AcceptedPlaces, are_keys, has_headers_first, is_header, is_param, is_place}
use Rattle.mesh_policy.specs.Values.{is_bounded, is_key_set, is_lower_name, is_name, lowered}
use Rattle.mesh_policy.specs.Jwt.{default_places, or_default}
use Rattle.mesh_policy.specs.declared.jwt.Keys.TheVariants as keys
use Rattle.mesh_policy.specs.declared.jwt.TokenPlace.{TokenPlace}
use Rattle.mesh_policy.specs.declared.jwt.TokenPlace.TheVariants as place
use Rattle.mesh_policy.specs.declared.names.TheConstants.{ACCESS_TOKEN, AUTHORIZATION, BEARER}
use Rattle.policy_json.proofs.AcceptedRules.{entries, short_ensures}
use Rattle.policy_json.proofs.LowerCase.{lower_name}
use Rattle.policy_json.specs.JwtRules.{is_empty_or_name, jwt_rule_faults, jwt_rule_in, key_set_faults, keys_in, payload_header_faults}
use Rattle.policy_json.specs.KeySets.{keys_of, unless_empty}
use Rattle.policy_json.specs.Texts.{bounded_text_faults, lower_name_faults, lower_name_in}
use Rattle.policy_json.specs.TokenPlaces.{header_faults, header_in, param_faults, param_in, places_of}
use Rattle.policy_json.specs.declared.jwt_rules.TheConstants.{AUDIENCES, FORWARD, FROM_HEADERS, FROM_PARAMS, ISSUER}
use Rattle.policy_json.specs.declared.jwt_rules.TheConstants.{JWKS, JWKS_URI, PAYLOAD_HEADER}
use Rattle.policy_json.specs.declared.token_places.TheConstants.{NAME, PREFIX}

-- ---- texts

bounded_ensures : Ensures bounded_text_faults text_in (λ t. IsTrue (is_bounded t))
bounded_ensures = no_fault.tested is_bounded reason.BadValue

set_ensures : Ensures key_set_faults text_in (λ t. IsTrue (is_key_set t))
set_ensures = no_fault.tested is_key_set reason.BadValue

name_ensures : Ensures lower_name_faults lower_name_in (λ t. IsTrue (is_lower_name t))
unfolding lower_name_in
name_ensures = record { holds = λ d at h. lower_name (text_in d) ((no_fault.tested is_name reason.BadName).holds d at h) }

-- ---- the header of the payload

-- nothing, or a name in lower case
abbrev IsEmptyOrLower : List ℕ → Type 0
IsEmptyOrLower [] = Unit {0}
IsEmptyOrLower (c ∷ t) = IsTrue (is_lower_name (c ∷ t))

empty_or_lower : (t : List ℕ) → is_empty_or_name t ≡ true → IsEmptyOrLower (lowered t)
empty_or_lower [] h = tt
empty_or_lower (c ∷ t) h = lower_name (c ∷ t) h

payload_ensures : Ensures payload_header_faults lower_name_in IsEmptyOrLower
unfolding lower_name_in
payload_ensures = record { holds = λ d at h. empty_or_lower (text_in d) ((no_fault.tested is_empty_or_name reason.BadName).holds d at h) }

unless_empty_lower : (o : Option (List ℕ)) → ForSome o IsEmptyOrLower → ForSome (unless_empty o) (λ t. IsTrue (is_lower_name t))
unless_empty_lower None h t e = cc
unless_empty_lower (Some []) h t e = cc
unless_empty_lower (Some (c ∷ cs)) h t e = subst (λ (o : Option (List ℕ)). IsTrue (is_lower_name (unwrap_or o []))) e (h (c ∷ cs) refl)

-- ---- the keys

keys_there : (uri set : Option (List ℕ)) → ForSome uri (λ t. IsTrue (is_bounded t)) → ForSome set (λ t. IsTrue (is_key_set t))
    → is_some (keys_of (unless_empty uri) (unless_empty set)) ≡ true
    → IsTrue (are_keys (unwrap_or (keys_of (unless_empty uri) (unless_empty set)) (keys.Inline [])))
keys_there None None h k some = cc
keys_there None (Some []) h k some = cc
keys_there None (Some (c ∷ t)) h k some = and_from _ _ (le-leb 1 (length (c ∷ t)) (omega arith)) (k (c ∷ t) refl)
keys_there (Some []) None h k some = cc
keys_there (Some []) (Some []) h k some = cc
keys_there (Some []) (Some (c ∷ t)) h k some = and_from _ _ (le-leb 1 (length (c ∷ t)) (omega arith)) (k (c ∷ t) refl)
keys_there (Some (b ∷ s)) None h k some = and_from _ _ (le-leb 1 (length (b ∷ s)) (omega arith)) (h (b ∷ s) refl)
keys_there (Some (b ∷ s)) (Some []) h k some = and_from _ _ (le-leb 1 (length (b ∷ s)) (omega arith)) (h (b ∷ s) refl)
keys_there (Some (b ∷ s)) (Some (c ∷ t)) h k some = cc

-- ---- the places

-- a header, a parameter
abbrev IsHeaderPlace : TokenPlace → Type 0
IsHeaderPlace at = (is_header at ≡ true) × (is_place at ≡ true)

abbrev IsParamPlace : TokenPlace → Type 0
IsParamPlace at = (is_header at ≡ false) × (is_place at ≡ true)

params_first : (ps : List TokenPlace) → AllByRecursion IsParamPlace ps → has_headers_first ps ≡ true
params_first [] p = refl
params_first (place.Header name prefix ∷ ps) p = cc (p.0.0)
params_first (place.Param name ∷ ps) p = all_params ps p.1
  where
    all_params : (ps : List TokenPlace) → AllByRecursion IsParamPlace ps → list_all is_param ps ≡ true
    all_params [] p = refl
    all_params (at ∷ ps) p = and_from _ _ (ap not p.0.0) (all_params ps p.1)

headers_first : (hs ps : List TokenPlace) → AllByRecursion IsHeaderPlace hs → AllByRecursion IsParamPlace ps
    → has_headers_first (hs ++ ps) ≡ true
headers_first [] ps h p = params_first ps p
headers_first (place.Header name prefix ∷ hs) ps h p = headers_first hs ps h.1 p
headers_first (place.Param name ∷ hs) ps h p = cc (h.0.0)

no_header : (ps : List TokenPlace) → AllByRecursion IsParamPlace ps → length (filter is_header ps) ≡ 0
no_header [] p = refl
no_header (at ∷ ps) p = rw p.0.0 (no_header ps p.1)

count_headers : (hs ps : List TokenPlace) → AllByRecursion IsHeaderPlace hs → AllByRecursion IsParamPlace ps
    → length (filter is_header (hs ++ ps)) ≡ length hs
count_headers [] ps h p = no_header ps p
count_headers (at ∷ hs) ps h p = rw h.0.0 (omega (arith, count_headers hs ps h.1 p))

only_params : (ps : List TokenPlace) → AllByRecursion IsParamPlace ps → length (filter is_param ps) ≡ length ps
only_params [] p = refl
only_params (at ∷ ps) p = rw p.0.0 (omega (arith, only_params ps p.1))

count_params : (hs ps : List TokenPlace) → AllByRecursion IsHeaderPlace hs → AllByRecursion IsParamPlace ps
    → length (filter is_param (hs ++ ps)) ≡ length ps
count_params [] ps h p = only_params ps p
count_params (at ∷ hs) ps h p = rw h.0.0 (count_params hs ps h.1 p)

-- what holds of the headers and parameters that are written
record ArePlaces (places : List TokenPlace) : Type 0 where
  headers_first : IsTrue (has_headers_first places)
  few_headers : length (filter is_header places) ≤ 2048
  few_params : length (filter is_param places) ≤ 2048
  each : All (λ at. IsTrue (is_place at)) places

-- the places of a bearer token
default_each : All (λ at. IsTrue (is_place at)) default_places
default_each =
    All-cons (λ at. IsTrue (is_place at)) (place.Header AUTHORIZATION.now BEARER.now) (place.Param ACCESS_TOKEN.now ∷ []) refl
    (All-cons (λ at. IsTrue (is_place at)) (place.Param ACCESS_TOKEN.now) [] refl (All-nil _))

or_default_accepted : (places : List TokenPlace) → ArePlaces places → AcceptedPlaces (or_default places)
or_default_accepted [] are = record { written = lit< tt; headers_first = refl; few_headers = lit≤ tt; few_params = lit≤ tt; each = default_each }
or_default_accepted (first ∷ more) are = record {
  written = omega arith;
  headers_first = are.headers_first;
  few_headers = are.few_headers;
  few_params = are.few_params;
  each = are.each;
}

places_accepted : (headers params : List TokenPlace) → AcceptedList IsHeaderPlace headers → AcceptedList IsParamPlace params
    → AcceptedPlaces (places_of headers params)
places_accepted headers params h p =
    let hs = recursion_from_All IsHeaderPlace headers h.each in
    let ps = recursion_from_All IsParamPlace params p.each in
    or_default_accepted (headers ++ params) (record {
      headers_first = headers_first headers params hs ps;
      few_headers = omega (arith, h.few, count_headers headers params hs ps);
      few_params = omega (arith, p.few, count_params headers params hs ps);
      each = All-append (λ at. IsTrue (is_place at)) headers params
          (All-weaker IsHeaderPlace (λ at. IsTrue (is_place at)) (λ at is. is.1) headers h.each)
          (All-weaker IsParamPlace (λ at. IsTrue (is_place at)) (λ at is. is.1) params p.each);
    })

bounded_or_empty : (o : Option (List ℕ)) → ForSome o (λ t. IsTrue (is_bounded t)) → is_bounded (unwrap_or o []) ≡ true
bounded_or_empty None h = refl
bounded_or_empty (Some t) h = h t refl

header_ensures : Ensures header_faults header_in IsHeaderPlace
unfolding header_faults header_in
header_ensures = strict_object _ (record {
  holds = λ d at h. (
    refl,
    and_from _ _ ((no_fault.required NAME.now name_ensures).holds d at (earlier _ _ h)) (bounded_or_empty _
        ((no_fault.optional PREFIX.now bounded_ensures).holds d at (later _ _ h))),
  );
})

param_ensures : Ensures param_faults param_in IsParamPlace
unfolding param_faults param_in
param_ensures = record { holds = λ d at h. (refl, short_ensures.holds d at h) }

-- ---- rules

forward_ensures : Ensures (optional FORWARD.now truth_faults) (optional_in FORWARD.now truth_in) (λ _. ⊤)
forward_ensures = anything

pub jwt_rule_ensures : Ensures jwt_rule_faults jwt_rule_in AcceptedJwtRule
unfolding jwt_rule_faults jwt_rule_in
jwt_rule_ensures = strict_object _ (record {
  holds = λ d at h.
      let parts = (no_fault.required ISSUER.now short_ensures
      ⨾⨾ entries AUDIENCES.now short_ensures
      ⨾⨾ no_fault.optional JWKS_URI.now bounded_ensures
      ⨾⨾ no_fault.optional JWKS.now set_ensures
      ⨾⨾ entries FROM_HEADERS.now header_ensures
      ⨾⨾ entries FROM_PARAMS.now param_ensures
      ⨾⨾ forward_ensures
      ⨾⨾ no_fault.optional PAYLOAD_HEADER.now payload_ensures
      ⨾⨾ no_fault.demanded (λ d. is_some (keys_in d)) reason.JwtKeys).holds d at h in
      record {
        issuer = parts.0;
        audiences = parts.1.0;
        keys = keys_there _ _ parts.1.1.0 parts.1.1.1.0 parts.1.1.1.1.1.1.1.1;
        places = places_accepted _ _ parts.1.1.1.1.0 parts.1.1.1.1.1.0;
        payload_header = unless_empty_lower _ parts.1.1.1.1.1.1.1.0;
      };
})
