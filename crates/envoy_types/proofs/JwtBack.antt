-- What is written of a token filter is read back: requirements, the rules that ask them and the filter whole.
use Rattle.std.proofs.Common.{◌≡◌, ℕ, ◌+◌, ◌-◌, ◌==◌, Bool, true, false, nat_le, List, [], ◌∷◌, ◌++◌, map, Option, Some, None}
use Rattle.std.proofs.Common.{is_none, unwrap_or, refl, sym, subst, ap, ap₂, ◌∙◌, arith, if◌then◌else◌}
use Rattle.std.proofs.lemmas.Bool.{and_parts}
use Rattle.std.specs.List.{filter_map, list_all, list_any}
use Rattle.serde_json.specs.Data.{Data, array, object, string, no_members}
use Rattle.serde_json.specs.Events.{items_len}
use Rattle.serde_json.specs.Find.{get}
use Rattle.serde_json.specs.View.{items_of}
use Rattle.mesh_doc.specs.Faults.{Check, first}
use Rattle.mesh_doc.specs.Fields.{required_written, required_written_in}
use Rattle.mesh_doc.specs.Kinds.{length_in, list_faults, object_faults, text_faults, text_in}
use Rattle.mesh_doc.specs.Known.{is_known, unknown_faults}
use Rattle.mesh_doc.specs.Lists.{each_in, list_in}
use Rattle.mesh_doc.specs.Maps.{map_in, map_of}
use Rattle.mesh_doc.specs.Places.{Steps, at_index}
use Rattle.mesh_doc.specs.Turns.{each_in_turn, list_in_turn}
use Rattle.mesh_doc.specs.declared.reason.Reason.TheVariants as reason
use Rattle.envoy_types.specs.JwtForms.{any_of, count_entries, empty_faults, is_provider, missing_entries, provider_name_faults}
use Rattle.envoy_types.specs.JwtForms.{provider_name_written, requirement_entry_faults, requirement_entry_in}
use Rattle.envoy_types.specs.JwtForms.{requirement_faults, requirement_in, requirement_is_printable, requirement_list_faults}
use Rattle.envoy_types.specs.JwtForms.{requirement_written, requires_any_faults, requires_any_in, check_faults, check_in}
use Rattle.envoy_types.specs.JwtForms.{check_is_printable, check_written, jwt_config_faults, jwt_config_in, jwt_faults, jwt_in}
use Rattle.envoy_types.specs.JwtForms.{jwt_is_printable, jwt_written, prefix_match_faults, provider_names, providers_in}
use Rattle.envoy_types.specs.Jwt.{Authentication, Provider}
use Rattle.envoy_types.specs.Order.{names_rise}
use Rattle.envoy_types.specs.ProviderForms.{provider_faults, provider_in, provider_is_printable}
use Rattle.envoy_types.specs.ProviderForms.{provider_written}
use Rattle.envoy_types.specs.SmallForms.{any_list, given, is_short_list, is_written, list_in_turn_that, most_entries, short_list_faults}
use Rattle.envoy_types.specs.WrittenFields.{Field, field, list_written, map_written, object_of, optional_field, sole_field}
use Rattle.envoy_types.specs.declared.jwt.JwtCheck.{JwtCheck}
use Rattle.envoy_types.specs.declared.jwt.Requirement.{Requirement}
use Rattle.envoy_types.specs.declared.jwt.Requirement.TheVariants.{One, AnyOf}
use Rattle.envoy_types.specs.declared.keys.TheConstants.{ALLOW_MISSING, MATCH, PREFIX, PROVIDERS, PROVIDER_NAME, REQUIREMENTS}
use Rattle.envoy_types.specs.declared.keys.TheConstants.{REQUIRES, REQUIRES_ANY, RULES, TYPE}
use Rattle.envoy_types.specs.declared.names.TheConstants.{JWT_NAME, JWT_TYPE}
use Rattle.envoy_types.proofs.FieldsBack.{Passes, absent-passes, both, demanded, get-object, none-in-both, optional-passes}
use Rattle.envoy_types.proofs.FieldsBack.{optional-back, required-back, required-passes, strict-object}
use Rattle.envoy_types.proofs.MapsBack.{map-back}
use Rattle.envoy_types.proofs.PartsBack.{Back, list-back, named-back, one-passes, option-all, optional-field-back, tested-back}
use Rattle.envoy_types.proofs.PartsBack.{text-back, type-passes}
use Rattle.envoy_types.proofs.ProvidersBack.{provider-back, sole-field-back}

-- ---- an entry of a list of requirements

-- a provider, wherever it stands
name-passes : (known : List (List ℕ)) (name : List ℕ) (is_last : Bool) → is_provider known name ≡ true
    → Passes (requirement_entry_faults known is_last) (provider_name_written name)
unfolding requirement_entry_faults is_known
name-passes known name is_last h =
    let fs = field PROVIDER_NAME.now (string name) ∷ [] in
    let lacks = get-object ALLOW_MISSING.now fs refl in
    let there = get-object PROVIDER_NAME.now fs refl in
    strict-object (ALLOW_MISSING.now ∷ PROVIDER_NAME.now ∷ []) _ fs refl
    (both (one-passes (ALLOW_MISSING.now ∷ PROVIDER_NAME.now ∷ []) (object_of fs) refl)
    (both (demanded (λ d. if is_written ALLOW_MISSING.now d then is_last else true) reason.BadForm (object_of fs) refl)
    (both (optional-passes PROVIDER_NAME.now (provider_name_faults known) (object_of fs) (string name) there
    (tested-back (is_provider known) reason.BadForm name h).passes)
    (absent-passes ALLOW_MISSING.now empty_faults (object_of fs) lacks))))

name-back : (name : List ℕ) → requirement_entry_in (provider_name_written name) ≡ Some name
unfolding requirement_entry_in text_in
name-back name =
    let fs = field PROVIDER_NAME.now (string name) ∷ [] in
    optional-back PROVIDER_NAME.now text_in (object_of fs) (Some (string name)) (get-object PROVIDER_NAME.now fs refl)

empty-passes : Passes empty_faults (object no_members)
unfolding empty_faults unknown_faults object_faults
empty-passes = record { clean = λ at. refl }

abbrev missing-written : Data
missing-written = sole_field ALLOW_MISSING.now (object no_members)

-- that a token may be missing, at the end
missing-passes : (known : List (List ℕ)) → Passes (requirement_entry_faults known true) missing-written
unfolding requirement_entry_faults is_known
missing-passes known =
    let fs = field ALLOW_MISSING.now (object no_members) ∷ [] in
    let there = get-object ALLOW_MISSING.now fs refl in
    let lacks = get-object PROVIDER_NAME.now fs refl in
    strict-object (ALLOW_MISSING.now ∷ PROVIDER_NAME.now ∷ []) _ fs refl
    (both (one-passes (ALLOW_MISSING.now ∷ PROVIDER_NAME.now ∷ []) (object_of fs) refl)
    (both (demanded (λ d. if is_written ALLOW_MISSING.now d then true else true) reason.BadForm (object_of fs) refl)
    (both (absent-passes PROVIDER_NAME.now (provider_name_faults known) (object_of fs) lacks)
    (optional-passes ALLOW_MISSING.now empty_faults (object_of fs) (object no_members) there empty-passes))))

missing-back : requirement_entry_in missing-written ≡ None
unfolding requirement_entry_in
missing-back =
    let fs = field ALLOW_MISSING.now (object no_members) ∷ [] in
    optional-back PROVIDER_NAME.now text_in (object_of fs) None (get-object PROVIDER_NAME.now fs refl)

-- ---- a list of names, at whose end a token may be missing

abbrev entries-written : List (List ℕ) → Bool → List Data
entries-written names allow_missing = map provider_name_written names ++ missing_entries allow_missing

abbrev entries-of : List (List ℕ) → Bool → List (Option (List ℕ))
entries-of [] allow_missing = if allow_missing then None ∷ [] else []
entries-of (name ∷ names) allow_missing = Some name ∷ entries-of names allow_missing

entries-length : (names : List (List ℕ)) (allow_missing : Bool)
    → items_len (items_of (entries-written names allow_missing)) ≡ count_entries names allow_missing
entries-length [] true = refl
entries-length [] false = refl
entries-length (name ∷ names) allow_missing =
    let rest = entries-length names allow_missing in omega (arith, rest)

entries-back : (names : List (List ℕ)) (allow_missing : Bool)
    → each_in requirement_entry_in (items_of (entries-written names allow_missing)) ≡ entries-of names allow_missing
entries-back [] true = ap (λ (o : Option (List ℕ)). o ∷ []) missing-back
entries-back [] false = refl
entries-back (name ∷ names) allow_missing =
    ap₂ (λ (o : Option (List ℕ)) (os : List (Option (List ℕ))). o ∷ os) (name-back name) (entries-back names allow_missing)

their-names : (names : List (List ℕ)) (allow_missing : Bool) → filter_map (λ entry. entry) (entries-of names allow_missing) ≡ names
their-names [] true = refl
their-names [] false = refl
their-names (name ∷ names) allow_missing = ap (λ (ns : List (List ℕ)). name ∷ ns) (their-names names allow_missing)

may-miss : (names : List (List ℕ)) (allow_missing : Bool) → list_any is_none (entries-of names allow_missing) ≡ allow_missing
may-miss [] true = refl
may-miss [] false = refl
may-miss (name ∷ names) allow_missing = may-miss names allow_missing

-- so many entries are left behind the first one
abbrev AreLeft : ℕ → List (List ℕ) → Bool → Type 0
AreLeft left names allow_missing = left ≡ count_entries names allow_missing - 1

last-passes : (known : List (List ℕ)) (left : ℕ) (at : Steps) → left ≡ 0
    → first (requirement_entry_faults known (left == 0) missing-written at) ≡ None
last-passes known left at e = rw e ((missing-passes known).clean at)

entries-pass : (known names : List (List ℕ)) (allow_missing : Bool) (left index : ℕ) (at : Steps)
    → list_all (is_provider known) names ≡ true → AreLeft left names allow_missing
    → first (each_in_turn {S = ℕ} (λ left. requirement_entry_faults known (left == 0)) (λ left _. left - 1) left index
    (items_of (entries-written names allow_missing)) at) ≡ None
entries-pass known [] true left index at h e = none-in-both _ _ (last-passes known left (at_index index at) e) refl
entries-pass known [] false left index at h e = refl
entries-pass known (name ∷ names) allow_missing left index at h e =
    none-in-both _ _ ((name-passes known name (left == 0) (and_parts _ _ h).0).clean (at_index index at))
    (entries-pass known names allow_missing (left - 1) (index + 1) at (and_parts _ _ h).1 (omega (arith, e)))

abbrev requirements-written : List (List ℕ) → Bool → Data
requirements-written names allow_missing = array (items_of (entries-written names allow_missing))

module _ (known names : List (List ℕ)) (allow_missing : Bool) (h : list_all (is_provider known) names ≡ true)
    (long : nat_le 2 (count_entries names allow_missing) ≡ true)
    (short : nat_le (count_entries names allow_missing) most_entries ≡ true) where
  written-passes : Passes (requirement_list_faults known) (requirements-written names allow_missing)
  unfolding requirement_list_faults list_in_turn_that short_list_faults list_faults list_in_turn length_in
  written-passes =
      let count = entries-length names allow_missing in
      let size = items_len (items_of (entries-written names allow_missing)) in
      let few : nat_le size most_entries ≡ true = ap (λ n. nat_le n most_entries) count ∙ short in
      let many : nat_le 2 size ≡ true = ap (nat_le 2) count ∙ long in
      let left = ap (λ n. n - 1) count in
      record { clean = λ at. rw (few, many) (entries-pass known names allow_missing _ 0 at h left) }

  written-back : Back (requirement_list_faults known) (list_in requirement_entry_in) (requirements-written names allow_missing)
      (entries-of names allow_missing)
  unfolding list_in
  written-back = record { passes = written-passes; back = entries-back names allow_missing }

  any-back : Back (requires_any_faults known) requires_any_in (sole_field REQUIREMENTS.now (requirements-written names allow_missing))
      (AnyOf names allow_missing)
  unfolding requires_any_faults requires_any_in
  any-back =
      let sole = sole-field-back REQUIREMENTS.now (requirement_list_faults known) (list_in requirement_entry_in)
      (requirements-written names allow_missing) (entries-of names allow_missing) written-back in
      record {
        passes = sole.passes;
        back = ap any_of sole.back ∙ ap₂ AnyOf (their-names names allow_missing) (may-miss names allow_missing);
      }

-- ---- a requirement

one-back : (known : List (List ℕ)) (name : List ℕ) → is_provider known name ≡ true
    → Back (requirement_faults known) requirement_in (provider_name_written name) (One name)
unfolding requirement_faults requirement_in is_known
one-back known name h =
    let fs = field PROVIDER_NAME.now (string name) ∷ [] in
    let there = get-object PROVIDER_NAME.now fs refl in
    let lacks = get-object REQUIRES_ANY.now fs refl in
    let known-name = tested-back (is_provider known) reason.BadForm name h in
    record {
      passes = strict-object (PROVIDER_NAME.now ∷ REQUIRES_ANY.now ∷ []) _ fs refl
          (both (one-passes (PROVIDER_NAME.now ∷ REQUIRES_ANY.now ∷ []) (object_of fs) refl)
          (both (optional-passes PROVIDER_NAME.now (provider_name_faults known) (object_of fs) (string name) there known-name.passes)
          (absent-passes REQUIRES_ANY.now (requires_any_faults known) (object_of fs) lacks)));
      back = ap (λ o. unwrap_or o (One (required_written_in PROVIDER_NAME.now text_in (object_of fs))))
          (optional-back REQUIRES_ANY.now requires_any_in (object_of fs) None lacks)
          ∙ ap (λ t. One t) (required-back PROVIDER_NAME.now text_in (object_of fs) (string name) there ∙ known-name.back);
    }

several-back : (known : List (List ℕ)) (d : Data) (a : Requirement) → Back (requires_any_faults known) requires_any_in d a
    → Back (requirement_faults known) requirement_in (sole_field REQUIRES_ANY.now d) a
unfolding requirement_faults requirement_in is_known
several-back known d a these =
    let fs = field REQUIRES_ANY.now d ∷ [] in
    let there = get-object REQUIRES_ANY.now fs refl in
    let lacks = get-object PROVIDER_NAME.now fs refl in
    record {
      passes = strict-object (PROVIDER_NAME.now ∷ REQUIRES_ANY.now ∷ []) _ fs refl
          (both (one-passes (PROVIDER_NAME.now ∷ REQUIRES_ANY.now ∷ []) (object_of fs) refl)
          (both (absent-passes PROVIDER_NAME.now (provider_name_faults known) (object_of fs) lacks)
          (optional-passes REQUIRES_ANY.now (requires_any_faults known) (object_of fs) d there these.passes)));
      back = ap (λ o. unwrap_or o (One (required_written_in PROVIDER_NAME.now text_in (object_of fs))))
          (optional-back REQUIRES_ANY.now requires_any_in (object_of fs) (Some d) there) ∙ these.back;
    }

pub requirement-back : (known : List (List ℕ)) (requirement : Requirement) → requirement_is_printable known requirement ≡ true
    → Back (requirement_faults known) requirement_in (requirement_written requirement) requirement
unfolding requirement_is_printable requirement_written
requirement-back known (One name) h = one-back known name h
requirement-back known (AnyOf names allow_missing) h =
    let size = and_parts _ _ (and_parts _ _ h).1 in
    several-back known (sole_field REQUIREMENTS.now (requirements-written names allow_missing)) (AnyOf names allow_missing)
    (any-back known names allow_missing (and_parts _ _ h).0 size.0 size.1)

-- ---- a rule

abbrev prefix_in : Data → List ℕ
prefix_in d = required_written_in PREFIX.now text_in d

abbrev prefix-written : List ℕ → Data
prefix-written prefix = sole_field PREFIX.now (string prefix)

prefix-back : (prefix : List ℕ) → Back prefix_match_faults prefix_in (prefix-written prefix) prefix
unfolding prefix_match_faults
prefix-back prefix = sole-field-back PREFIX.now text_faults text_in (string prefix) prefix (text-back prefix)

asked-all : (known : List (List ℕ)) (o : Option Requirement) → check_is_printable known o ≡ true
    → option-all (requirement_is_printable known) o ≡ true
asked-all known None h = refl
asked-all known (Some requirement) h = h

pub check-back : (known : List (List ℕ)) (check : JwtCheck) → check_is_printable known check.requirement ≡ true
    → Back (check_faults known) check_in (check_written check) check
unfolding check_faults check_in check_written is_known
check-back known check h =
    let path = prefix-written check.prefix in
    let fs = field MATCH.now path ∷ optional_field REQUIRES.now requirement_written check.requirement ∷ [] in
    let prefix = prefix-back check.prefix in
    let there = get-object MATCH.now fs refl in
    let asked = optional-field-back REQUIRES.now (requirement_faults known) requirement_in requirement_written
    (requirement_is_printable known) (requirement-back known) (object_of fs) check.requirement (get-object REQUIRES.now fs refl)
    (asked-all known check.requirement h) in
    record {
      passes = strict-object (MATCH.now ∷ REQUIRES.now ∷ []) _ fs refl
          (both (required-passes MATCH.now prefix_match_faults (object_of fs) path there prefix.passes)
          asked.passes);
      back = rw (
        required-back MATCH.now prefix_in (object_of fs) path there,
        prefix.back,
        asked.back,
      ) refl;
    }

-- ---- the filter

given-passes : (f : Data → Check) (d : Data) → Passes (f d) d → Passes (given f) d
given-passes f d p = record { clean = p.clean }

abbrev name-of : Provider → List ℕ
name-of provider = provider.name

module _ (jwt : Authentication) (rise : names_rise name-of jwt.providers ≡ true)
    (each : list_all provider_is_printable jwt.providers ≡ true) (short : is_short_list jwt.rules ≡ true)
    (asked : list_all (λ rule. check_is_printable (provider_names jwt.providers) rule.requirement) jwt.rules ≡ true) where
  abbrev providers-written : Data
  providers-written = map_written name-of provider_written jwt.providers

  abbrev rules-written : Data
  rules-written = list_written check_written jwt.rules

  abbrev own-fields : List Field
  own-fields = field PROVIDERS.now providers-written ∷ field RULES.now rules-written ∷ []

  -- behind the type URL
  abbrev config-fields : List Field
  config-fields = field TYPE.now (string JWT_TYPE.now) ∷ own-fields

  abbrev config : Data
  config = object_of config-fields

  -- the rules, asked by the names of these providers
  abbrev rules-faults : List Provider → Check
  rules-faults providers = any_list (check_faults (provider_names providers))

  all-providers : Back (map_of provider_faults) (map_in provider_in) providers-written jwt.providers
  all-providers =
      map-back provider_faults provider_in name-of provider_written provider_is_printable provider-back jwt.providers rise each

  all-rules : Back (rules-faults jwt.providers) (list_in check_in) rules-written jwt.rules
  all-rules =
      let names = provider_names jwt.providers in
      list-back (check_faults names) check_in check_written (λ rule. check_is_printable names rule.requirement) (check-back names)
      most_entries jwt.rules short asked

  providers-found : get PROVIDERS.now config ≡ Some providers-written
  providers-found = get-object PROVIDERS.now config-fields refl

  rules-found : get RULES.now config ≡ Some rules-written
  rules-found = get-object RULES.now config-fields refl

  providers-read : providers_in config ≡ jwt.providers
  unfolding providers_in
  providers-read = required-back PROVIDERS.now (map_in provider_in) config providers-written providers-found ∙ all-providers.back

  -- the rules are read with the providers that were
  rules-pass : Passes (given (λ d. required_written RULES.now (rules-faults (providers_in d)))) config
  rules-pass =
      let these = required-passes RULES.now (rules-faults jwt.providers) config rules-written rules-found all-rules.passes in
      given-passes (λ d. required_written RULES.now (rules-faults (providers_in d))) config
      (subst (λ ps. Passes (required_written RULES.now (rules-faults ps)) config) (sym providers-read) these)

  providers-pass : Passes (required_written PROVIDERS.now (map_of provider_faults)) config
  providers-pass = required-passes PROVIDERS.now (map_of provider_faults) config providers-written providers-found all-providers.passes

  config-back : Back jwt_config_faults jwt_config_in config jwt
  unfolding jwt_config_faults jwt_config_in is_known
  config-back = record {
    passes = strict-object (TYPE.now ∷ PROVIDERS.now ∷ RULES.now ∷ []) _ config-fields refl
        (both (type-passes JWT_TYPE.now own-fields refl) (both providers-pass rules-pass));
    back = rw (providers-read, required-back RULES.now (list_in check_in) config rules-written rules-found, all-rules.back) refl;
  }

-- a printable token filter is read back
pub jwt-back : (jwt : Authentication) → jwt_is_printable jwt ≡ true → Back jwt_faults jwt_in (jwt_written jwt) jwt
unfolding jwt_is_printable jwt_written
jwt-back jwt h =
    let three = and_parts _ _ (and_parts _ _ h).0 in
    let two = and_parts _ _ three.0 in
    let rules = (and_parts _ _ h).1 in
    named-back JWT_NAME.now jwt_config_faults jwt_config_in (config jwt two.0 two.1 three.1 rules) jwt
    (config-back jwt two.0 two.1 three.1 rules)
