-- A value without fault is that of a requirement that can be written: its list tells no token as missing but in its last entry.
use Rattle.std.proofs.Common.{◌≡◌, ℕ, ◌+◌, ◌-◌, ◌==◌, Bool, true, false, nat_le, List, [], ◌∷◌, length, Option, Some, None, is_some}
use Rattle.std.proofs.Common.{is_none, option_map, unwrap_or, if◌then◌else◌, refl, sym, ap, ◌∙◌, subst, arith}
use Rattle.std.proofs.lemmas.Bool.{and_from, ne_eqb}
use Rattle.std.specs.List.{filter_map, list_all, list_any}
use Rattle.std.specs.Option.{ForSome}
use Rattle.serde_json.specs.Data.{Data, null, Items, no_items, item}
use Rattle.serde_json.specs.Events.{items_len}
use Rattle.serde_json.specs.Find.{get}
use Rattle.mesh_doc.proofs.NoFault as no_fault
use Rattle.mesh_doc.proofs.NoFault.{Ensures, ◌⨾⨾◌, anything, earlier, later, strict_object}
use Rattle.mesh_doc.specs.Faults.{Check, first}
use Rattle.mesh_doc.specs.Fields.{optional_written_in, required_written_in}
use Rattle.mesh_doc.specs.Kinds.{items_of, length_in, text_in}
use Rattle.mesh_doc.specs.Lists.{each_in, list_in}
use Rattle.mesh_doc.specs.Places.{Steps, at_index}
use Rattle.mesh_doc.specs.Turns.{each_in_turn}
use Rattle.mesh_doc.specs.declared.reason.Reason.TheVariants as reason
use Rattle.envoy_types.specs.JwtForms.{any_of, count_entries, empty_faults, is_provider, provider_name_faults, requirement_entry_faults}
use Rattle.envoy_types.specs.JwtForms.{requirement_entry_in, requirement_faults, requirement_in, requirement_is_printable}
use Rattle.envoy_types.specs.JwtForms.{requirement_list_faults, requires_any_faults, requires_any_in}
use Rattle.envoy_types.specs.SmallForms.{is_within, is_written, most_entries}
use Rattle.envoy_types.specs.declared.jwt.Requirement.TheVariants.{One}
use Rattle.envoy_types.specs.declared.keys.TheConstants.{ALLOW_MISSING, PROVIDER_NAME, REQUIREMENTS, REQUIRES_ANY}
use Rattle.listener_reader.proofs.PartsPrintable.{list-in-turn, listed-within, one, turns}

module _ (names : List (List ℕ)) where
  provider-there : Ensures (provider_name_faults names) text_in (λ name. is_provider names name ≡ true)
  provider-there = no_fault.tested (is_provider names) reason.BadForm

  -- ---- entries of a list

  -- the name of a provider, and a name there if the entry isn't the last
  abbrev Entry : Bool → Option (List ℕ) → Type 0
  Entry is_last entry = ForSome entry (λ name. is_provider names name ≡ true) × (is_last ≡ false → is_some entry ≡ true)

  entry-there : (is_last : Bool) (missing name : Option Data)
      → ((if is_some missing then 1 else 0) + ((if is_some name then 1 else 0) + 0) == 1) ≡ true
      → (if is_some missing then is_last else true) ≡ true → is_last ≡ false → is_some (option_map text_in name) ≡ true
  entry-there is_last (Some m) name counted last other = let none : true ≡ false = sym last ∙ other in cc
  entry-there is_last None (Some t) counted last other = refl
  entry-there is_last None None counted last other = cc

  entry-holds : (is_last : Bool) → Ensures (requirement_entry_faults names is_last) requirement_entry_in (Entry is_last)
  unfolding requirement_entry_faults requirement_entry_in optional_written_in
  entry-holds is_last = strict_object _ (record {
    holds = λ d at h.
        let parts = (one (ALLOW_MISSING.now ∷ PROVIDER_NAME.now ∷ [])
        ⨾⨾ no_fault.demanded (λ v. if is_written ALLOW_MISSING.now v then is_last else true) reason.BadForm
        ⨾⨾ no_fault.optional_written PROVIDER_NAME.now provider-there
        ⨾⨾ no_fault.optional_written ALLOW_MISSING.now (anything {f = empty_faults} {value = λ v. v})).holds d at h in
        (parts.1.1.0, entry-there is_last (get ALLOW_MISSING.now d) (get PROVIDER_NAME.now d) parts.0 parts.1.0);
  })

  -- ---- the list

  -- as many entries are written as there were, and each name is that of a provider
  abbrev Counted : List (Option (List ℕ)) → Type 0
  Counted entries =
      (count_entries (filter_map (λ e. e) entries) (list_any is_none entries) ≡ length entries)
      × (list_all (is_provider names) (filter_map (λ e. e) entries) ≡ true)

  last-counted : (entry : Option (List ℕ)) → Entry true entry → Counted (entry ∷ [])
  last-counted None h = (refl, refl)
  last-counted (Some name) h = (refl, and_from _ _ (h.0 name refl) refl)

  one-more : (entry : Option (List ℕ)) (entries : List (Option (List ℕ))) → Entry false entry → Counted entries → Counted (entry ∷ entries)
  one-more None entries h counted = let none : false ≡ true = h.1 refl in cc
  one-more (Some name) entries h counted =
      (omega (arith, counted.0), and_from _ _ (h.0 name refl) counted.1)

  -- the entries, each with how many are left behind it
  entries-counted : (ds : Items) (left index : ℕ) (at : Steps) → left ≡ items_len ds - 1
      → first (each_in_turn {S = ℕ} (λ n. requirement_entry_faults names (n == 0)) (λ n _. n - 1) left index ds at) ≡ None
      → Counted (each_in requirement_entry_in ds)
  entries-counted no_items left index at e h = (refl, refl)
  entries-counted (item d no_items) left index at e h =
      let here = first (requirement_entry_faults names (left == 0) d (at_index index at)) in
      let none : left ≡ 0 = omega (arith, e) in
      let last : (left == 0) ≡ true = rw none refl in
      last-counted (requirement_entry_in d)
      (subst (λ b. Entry b (requirement_entry_in d)) last ((entry-holds (left == 0)).holds d (at_index index at) (earlier here _ h)))
  entries-counted (item d (item e ds)) left index at is h =
      let here = first (requirement_entry_faults names (left == 0) d (at_index index at)) in
      let some : (left == 0) ≡ false = ne_eqb left 0 (λ z. absurd (omega (arith, is, z))) in
      one-more (requirement_entry_in d) (each_in requirement_entry_in (item e ds))
      (subst (λ b. Entry b (requirement_entry_in d)) some ((entry-holds (left == 0)).holds d (at_index index at) (earlier here _ h)))
      (entries-counted (item e ds) (left - 1) (index + 1) at (omega (arith, is)) (later here _ h))

  list-printable : Ensures (requirement_list_faults names) (list_in requirement_entry_in)
      (λ entries. requirement_is_printable names (any_of entries) ≡ true)
  unfolding requirement_list_faults requirement_is_printable list_in length_in
  list-printable = record {
    holds = λ d at h.
        let entries = list_in requirement_entry_in d in
        let asked : ℕ → Check = λ left. requirement_entry_faults names (left == 0) in
        let listed = (list-in-turn {f = asked} {value = requirement_entry_in} (nat_le 2) (λ left _. left - 1) (length_in d - 1)
        (λ left. anything)).holds d at h in
        let counted = entries-counted (items_of d) (length_in d - 1) 0 at refl
        (turns asked (nat_le 2) (λ left _. left - 1) (length_in d - 1) d at h) in
        and_from _ _ counted.1
        (ap (is_within 2 most_entries) counted.0 ∙ listed-within 2 most_entries entries listed);
  }

  any-printable : Ensures (requires_any_faults names) requires_any_in (λ requirement. requirement_is_printable names requirement ≡ true)
  unfolding requires_any_faults requires_any_in
  any-printable =
      no_fault.therefore any_of (λ requirement. requirement_is_printable names requirement ≡ true) (λ entries h. h)
      (strict_object _ (no_fault.required_written REQUIREMENTS.now list-printable))

  -- ---- the requirement

  chosen-printable : (name any : Option Data)
      → ((if is_some name then 1 else 0) + ((if is_some any then 1 else 0) + 0) == 1) ≡ true
      → ForSome (option_map text_in name) (λ t. is_provider names t ≡ true)
      → ForSome (option_map requires_any_in any) (λ requirement. requirement_is_printable names requirement ≡ true)
      → requirement_is_printable names (unwrap_or (option_map requires_any_in any) (One (text_in (unwrap_or name null)))) ≡ true
  unfolding requirement_is_printable
  chosen-printable name (Some a) counted n a-holds = a-holds (requires_any_in a) refl
  chosen-printable (Some t) None counted n a-holds = n (text_in t) refl
  chosen-printable None None counted n a-holds = cc

  pub requirement-printable : Ensures (requirement_faults names) requirement_in
      (λ requirement. requirement_is_printable names requirement ≡ true)
  unfolding requirement_faults requirement_in optional_written_in required_written_in
  requirement-printable = strict_object _ (record {
    holds = λ d at h.
        let parts = (one (PROVIDER_NAME.now ∷ REQUIRES_ANY.now ∷ [])
        ⨾⨾ no_fault.optional_written PROVIDER_NAME.now provider-there
        ⨾⨾ no_fault.optional_written REQUIRES_ANY.now any-printable).holds d at h in
        chosen-printable (get PROVIDER_NAME.now d) (get REQUIRES_ANY.now d) parts.0 parts.1.0 parts.1.1;
  })
