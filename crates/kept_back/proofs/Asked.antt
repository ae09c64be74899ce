-- What a policy asks for of which nothing is kept back. The lemmas have the names of what they speak of.
use Rattle.std.proofs.Common.{◌≡◌, ℕ, Bool, true, false, not, ◌&&◌, ◌||◌, ◌⊎◌, inl, inr, List, [], ◌∷◌, Option, Some, None}
use Rattle.std.proofs.Common.{unwrap_or, refl, ap}
use Rattle.std.proofs.lemmas.Bool.{and_from, not_from_false, not-true, or_cases, or_from}
use Rattle.std.proofs.lemmas.List.Folds.{list_any_none}
use Rattle.std.proofs.lemmas.Slice.Eq.{bytes_eq-Decides}
use Rattle.std.specs.List.{list_any}
use Rattle.std.specs.Str.{bytes_eq}
use Rattle.serde_json.specs.Data.{Data, null, boolean, number, string, array, object, no_items, item}
use Rattle.mesh_doc.proofs.NoFault as no_fault
use Rattle.mesh_doc.proofs.NoFault.{Ensures, earlier, later, listed, optional_or, passed}
use Rattle.mesh_doc.specs.Faults.{first, none}
use Rattle.mesh_doc.specs.Fields.{field_in, found_faults, optional, required_in}
use Rattle.mesh_doc.specs.Kinds.{text_in}
use Rattle.mesh_doc.specs.Lists.{found_list, list_in, listed_in}
use Rattle.mesh_doc.specs.Places.{Steps, at_key}
use Rattle.manifest_json.specs.PolicyItems.{authorization_item_in}
use Rattle.mesh_policy.specs.RuleHolds.{is_written, source_needs_http}
use Rattle.mesh_policy.specs.Workload.{is_action}
use Rattle.mesh_policy.specs.declared.policy.Action.{Action}
use Rattle.mesh_policy.specs.declared.policy.Action.TheVariants.{Allow, Deny, Custom}
use Rattle.mesh_policy.specs.declared.policy.AuthorizationPolicy.{AuthorizationPolicy}
use Rattle.authz_gen.specs.Policies.{condition_needs_token, needs_token}
use Rattle.policy_json.specs.Authorization.{action_in, action_of, authorization_in}
use Rattle.policy_json.specs.ConditionKeys.{key_in}
use Rattle.policy_json.specs.Conditions.{condition_in, values_in}
use Rattle.policy_json.specs.Rules.{from_in, rule_in}
use Rattle.policy_json.specs.Sources.{source_in}
use Rattle.policy_json.specs.TargetRefs.{is_empty_list}
use Rattle.policy_json.specs.declared.condition_keys.ConditionKey.{ConditionKey}
use Rattle.policy_json.specs.declared.condition_keys.ConditionKey.TheVariants as key
use Rattle.kept_back.specs.Fields.{kept_unless, no_entries}
use Rattle.kept_back.specs.Policies.{action_kept, condition_kept, from_kept, is_decided_word}
use Rattle.kept_back.specs.Policies.{is_token_key, policy_kept, rule_kept, source_kept, spec_kept}
use Rattle.kept_back.specs.declared.items.TheConstants.{SPEC}
use Rattle.kept_back.specs.declared.policies.TheConstants.{ACTION, ALLOW, DENY, FROM}
use Rattle.kept_back.specs.declared.policies.TheConstants.{KEY, NOT_REQUEST_PRINCIPALS, REQUEST_PRINCIPALS, RULES}
use Rattle.kept_back.specs.declared.policies.TheConstants.{SOURCE, WHEN}
use Rattle.kept_back.proofs.Keys.{needs, needs_none}

-- ---- sources

no_entry : {A : Type 0} (value : Data → A) (d : Data) → is_empty_list d ≡ true → list_in value d ≡ []
unfolding list_in
no_entry value null h = cc
no_entry value (boolean b) h = cc
no_entry value (number n) h = cc
no_entry value (string s) h = cc
no_entry value (array no_items) h = refl
no_entry value (array (item d ds)) h = cc
no_entry value (object ms) h = cc

unwritten : {A : Type 0} (value : Data → A) (o : Option Data) (at : Steps)
    → first (found_faults none (kept_unless is_empty_list) o at) ≡ None → is_written (found_list value o) ≡ false
unwritten value None at h = refl
unwritten value (Some d) at h = ap (λ xs. is_written xs) (no_entry value d (passed (is_empty_list d) _ at h))

list : {A : Type 0} (value : Data → A) (name : List ℕ) → Ensures (no_entries name) (listed_in name value) (λ xs. is_written xs ≡ false)
unfolding no_entries optional listed_in
list value name = record { holds = λ d at h. unwritten value (field_in name d) (at_key name at) h }

source : Ensures source_kept source_in (λ s. source_needs_http s ≡ false)
unfolding source_kept source_in
source = record {
  holds = λ d at h.
      or_from _ _ ((list text_in REQUEST_PRINCIPALS.now).holds d at (earlier _ _ h))
      ((list text_in NOT_REQUEST_PRINCIPALS.now).holds d at (later _ _ h));
}

entry : Ensures from_kept from_in (λ s. source_needs_http s ≡ false)
unfolding from_kept from_in
entry = no_fault.or_empty SOURCE.now source

-- ---- conditions

values : (k : ConditionKey) (d : Data) → needs k ≡ false → condition_needs_token (values_in k d) ≡ false
values (key.Words word) d h = h
values key.Principals d h = h
values (key.Blocks address) d h = refl
values key.Ports d h = refl

told : (o : Option Data) (at : Steps) → first (found_faults none (kept_unless (λ d. not (is_token_key d))) o at) ≡ None
    → needs (key_in (unwrap_or o null)) ≡ false
unfolding is_token_key key_in text_in
told None at h = needs_none (text_in null) refl
told (Some d) at h = needs_none (text_in d) (not-true _ (passed (not (is_token_key d)) _ at h))

condition : Ensures condition_kept condition_in (λ c. condition_needs_token c ≡ false)
unfolding condition_kept condition_in optional required_in
condition = record { holds = λ d at h. values _ d (told (field_in KEY.now d) (at_key KEY.now at) h) }

-- ---- rules

rule : Ensures rule_kept rule_in (λ r. needs_token r ≡ false)
unfolding rule_kept rule_in
rule = record {
  holds = λ d at h.
      or_from _ _ (list_any_none source_needs_http _ ((listed FROM.now 2048 entry).holds d at (earlier _ _ h)).each)
      (list_any_none condition_needs_token _ ((listed WHEN.now 2048 condition).holds d at (later _ _ h)).each);
}

-- ---- policies

-- an action that no authorizer is asked for
abbrev not_custom : Action → Type 0
not_custom a = not (is_action Custom a) ≡ true

named_allow : (word : List ℕ) → word ≡ ALLOW.now → action_of word ≡ Some Allow
named_allow word same = ap action_of same

named_deny : (word : List ℕ) → word ≡ DENY.now → action_of word ≡ Some Deny
named_deny word same = ap action_of same

of_word : (d : Data) → (bytes_eq (text_in d) ALLOW.now ≡ true) ⊎ (bytes_eq (text_in d) DENY.now ≡ true) → not_custom (action_in d)
unfolding action_in
of_word d (inl allow) = rw (named_allow (text_in d) ((bytes_eq-Decides (text_in d) ALLOW.now).0 allow)) refl
of_word d (inr deny) = rw (named_deny (text_in d) ((bytes_eq-Decides (text_in d) DENY.now).0 deny)) refl

action : Ensures action_kept action_in not_custom
unfolding action_kept is_decided_word
action = record {
  holds = λ d at h.
      of_word d (or_cases (bytes_eq (text_in d) ALLOW.now) (bytes_eq (text_in d) DENY.now) (passed _ _ at h));
}

-- no authorizer is asked for it
abbrev pub asks_nobody : AuthorizationPolicy → Bool
asks_nobody policy = not (is_action Custom policy.action)

-- none of its rules asks for a token
abbrev pub asks_no_token : AuthorizationPolicy → Bool
asks_no_token policy = not (list_any needs_token policy.rules)

-- a policy of which nothing is kept back
abbrev pub is_told : AuthorizationPolicy → Bool
is_told policy = asks_nobody policy && asks_no_token policy

spec : (name namespace : List ℕ) → Ensures spec_kept (authorization_in name namespace) (λ p. is_told p ≡ true)
unfolding spec_kept authorization_in
spec name namespace = record {
  holds = λ d at h.
      and_from _ _ ((optional_or ACTION.now Allow refl action).holds d at (earlier _ _ h))
      (not_from_false _ (list_any_none needs_token _ ((listed RULES.now 2048 rule).holds d at (later _ _ h)).each));
}

pub policy : Ensures policy_kept authorization_item_in (λ p. is_told p ≡ true)
unfolding policy_kept authorization_item_in
policy = record { holds = λ d at h. (no_fault.or_empty SPEC.now (spec _ _)).holds d at h }
