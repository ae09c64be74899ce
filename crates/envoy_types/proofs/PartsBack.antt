-- What is written of a part is read back: single values, lists, alternatives and configurations.
use Rattle.std.proofs.Common.{◌≡◌, ℕ, ◌+◌, ◌==◌, Bool, true, false, nat_le, List, [], ◌∷◌, length, map, Option, Some, None}
use Rattle.std.proofs.Common.{option_map, refl, ap, ◌∙◌, suc, if◌then◌else◌, arith}
use Rattle.std.proofs.lemmas.Bool.{and_parts, ne_eqb}
use Rattle.std.proofs.lemmas.Slice.Eq.{bytes_eq-Decides}
use Rattle.std.specs.List.{list_all}
use Rattle.std.specs.Str.{bytes_eq}
use Rattle.serde_json.specs.Data.{Data, array, boolean, string}
use Rattle.serde_json.specs.Events.{items_len}
use Rattle.serde_json.specs.Find.{get}
use Rattle.serde_json.specs.View.{items_of}
use Rattle.mesh_doc.specs.Faults.{Check, first}
use Rattle.mesh_doc.specs.Fields.{optional_written, optional_written_in}
use Rattle.mesh_doc.specs.Kinds.{length_in, list_faults, number_faults, number_in, text_faults, text_in, truth_faults, truth_in}
use Rattle.mesh_doc.specs.Known.{is_known}
use Rattle.mesh_doc.specs.Lists.{each_in, found_list, list_in, list_of, listed_written, listed_written_in}
use Rattle.mesh_doc.specs.Places.{Steps, at_index}
use Rattle.mesh_doc.specs.Tested.{tested}
use Rattle.mesh_doc.specs.Turns.{each_in_turn, list_in_turn}
use Rattle.mesh_doc.specs.declared.reason.Reason.{Reason}
use Rattle.mesh_doc.specs.declared.reason.Reason.TheVariants as reason
use Rattle.envoy_types.proofs.FieldsBack.{Passes, behind, both, demanded, get-object, none-in-both, optional-passes}
use Rattle.envoy_types.proofs.FieldsBack.{absent-passes, required-back, required-passes, strict-object}
use Rattle.envoy_types.specs.SmallForms.{config_in, count_written, fixed_faults, is_within, list_that}
use Rattle.envoy_types.specs.SmallForms.{most_entries}
use Rattle.envoy_types.specs.SmallForms.{named_faults, number_within_faults, one_of, plain_config_faults}
use Rattle.envoy_types.specs.SmallForms.{short_list_faults, sole_in}
use Rattle.envoy_types.specs.SmallForms.{sole_list, true_faults, type_faults}
use Rattle.envoy_types.specs.WrittenFields.{Field, are_different, config_written, field, field_names, list_field, list_written}
use Rattle.envoy_types.specs.WrittenFields.{named_written, number_written, object_of}
use Rattle.envoy_types.specs.declared.keys.TheConstants.{NAME, TYPED_CONFIG, TYPE}

-- the value has no fault, wherever it stands, and means this
pub record Back {A : Type 0} (f : Check) (value : Data → A) (d : Data) (a : A) : Type 0 where
  pub passes : Passes f d
  pub back : value d ≡ a

-- ---- single values

pub text-passes : (t : List ℕ) → Passes text_faults (string t)
unfolding text_faults
text-passes t = record { clean = λ at. refl }

pub text-back : (t : List ℕ) → Back text_faults text_in (string t) t
unfolding text_in
text-back t = record { passes = text-passes t; back = refl }

pub tested-back : (test : List ℕ → Bool) (why : Reason) (t : List ℕ) → test t ≡ true → Back (tested test why) text_in (string t) t
unfolding text_in tested
tested-back test why t h = record {
  passes = behind (text-passes t) (demanded (λ d. test (text_in d)) why (string t) h);
  back = refl;
}

pub same-text : (t : List ℕ) → bytes_eq t t ≡ true
same-text t = (bytes_eq-Decides t t).1 refl

pub fixed-passes : (word : List ℕ) → Passes (fixed_faults word) (string word)
fixed-passes word = (tested-back (λ t. bytes_eq t word) reason.BadForm word (same-text word)).passes

pub truth-back : (b : Bool) → Back truth_faults truth_in (boolean b) b
unfolding truth_faults truth_in
truth-back b = record { passes = record { clean = λ at. refl }; back = refl }

pub true-passes : Passes true_faults (boolean true)
unfolding true_faults truth_faults truth_in
true-passes = record { clean = λ at. refl }

pub number-back : (n : ℕ) → Back number_faults number_in (number_written n) n
unfolding number_faults number_in
number-back n = record { passes = record { clean = λ at. refl }; back = refl }

pub number-within-back : (least most n : ℕ) → is_within least most n ≡ true
    → Back (number_within_faults least most) number_in (number_written n) n
unfolding number_within_faults
number-within-back least most n h =
    let known = number-back n in
    record {
      passes = behind known.passes
          (demanded (λ d. is_within least most (number_in d)) reason.BadForm (number_written n) (ap (is_within least most) known.back ∙ h));
      back = known.back;
    }

-- ---- lists

items-length : (ds : List Data) → items_len (items_of ds) ≡ length ds
items-length [] = refl
items-length (d ∷ ds) = ap suc (items-length ds)

map-length : {A : Type 0} (written : A → Data) (xs : List A) → length (map written xs) ≡ length xs
map-length written [] = refl
map-length written (x ∷ xs) = ap suc (map-length written xs)

-- as many entries are written as there are
pub written-length : {A : Type 0} (written : A → Data) (xs : List A) → length_in (list_written written xs) ≡ length xs
unfolding length_in list_written
written-length written xs = items-length (map written xs) ∙ map-length written xs

-- a list that may have so many entries
pub list-passes : (most : ℕ) (ds : List Data) → nat_le (length ds) most ≡ true → Passes (short_list_faults most) (array (items_of ds))
unfolding short_list_faults list_faults length_in
list-passes most ds h = record { clean = λ at. rw (items-length ds, h) refl }

module _ {A : Type 0} (f : Check) (value : Data → A) (written : A → Data) (P : A → Bool)
    (each : (x : A) → P x ≡ true → Back f value (written x) x) where
  pub entries-pass : (k : ℕ) (xs : List A) (at : Steps) → list_all P xs ≡ true
      → first (each_in_turn {S = Unit {0}} (λ _. f) (λ seen _. seen) tt k (items_of (map written xs)) at) ≡ None
  entries-pass k [] at h = refl
  entries-pass k (x ∷ xs) at h =
      none-in-both _ _ ((each x (and_parts _ _ h).0).passes.clean (at_index k at)) (entries-pass (k + 1) xs at (and_parts _ _ h).1)

  -- what the entries mean
  pub each-back : (xs : List A) → list_all P xs ≡ true → each_in value (items_of (map written xs)) ≡ xs
  each-back [] h = refl
  each-back (x ∷ xs) h =
      let here : value (written x) ≡ x = (each x (and_parts _ _ h).0).back in
      let behind : each_in value (items_of (map written xs)) ≡ xs = each-back xs (and_parts _ _ h).1 in
      rw (here, behind) refl

  pub list-back : (most : ℕ) (xs : List A) → nat_le (length xs) most ≡ true → list_all P xs ≡ true
      → Back (list_of most f) (list_in value) (list_written written xs) xs
  unfolding list_of list_in_turn list_written list_in list_faults
  list-back most xs short h = record {
    passes = record {
      clean = λ at. none-in-both _ _ (rw (items-length (map written xs), map-length written xs, short) refl) (entries-pass 0 xs at h);
    };
    back = each-back xs h;
  }

  short-passes : (most : ℕ) (xs : List A) → nat_le (length xs) most ≡ true → Passes (short_list_faults most) (list_written written xs)
  unfolding list_written
  short-passes most xs short = list-passes most (map written xs) (rw (map-length written xs) short)

  -- a list whose length fits
  pub list-that-back : (fits : ℕ → Bool) (most : ℕ) (xs : List A) → nat_le (length xs) most ≡ true → fits (length xs) ≡ true
      → list_all P xs ≡ true → Back (list_that fits most f) (list_in value) (list_written written xs) xs
  unfolding list_that
  list-that-back fits most xs short fitting h =
      let all = list-back most xs short h in
      let long : fits (length_in (list_written written xs)) ≡ true = ap fits (written-length written xs) ∙ fitting in
      record {
        passes = behind (short-passes most xs short)
            (both (demanded (λ d. fits (length_in d)) reason.BadForm (list_written written xs) long) all.passes);
        back = all.back;
      }

-- one entry alone
pub sole-back : {A : Type 0} (f : Check) (value : Data → A) (d : Data) (a : A) → Back f value d a
    → Back (sole_list f) (sole_in value) (array (items_of (d ∷ []))) a
unfolding list_that list_of list_in_turn short_list_faults list_faults length_in sole_in
sole-back f value d a known = record {
  passes = record { clean = λ at. rw (known.passes.clean (at_index 0 at)) refl };
  back = known.back;
}

-- ---- alternatives

-- exactly one of the fields is there
pub one-passes : (names : List (List ℕ)) (d : Data) → count_written names d ≡ 1 → Passes (one_of names) d
unfolding one_of
one-passes names d h = demanded (λ v. count_written names v == 1) reason.BadForm d (rw h refl)

-- ---- configurations

pub type-passes : (type : List ℕ) (fs : List Field) → are_different (field_names (field TYPE.now (string type) ∷ fs)) ≡ true
    → Passes (type_faults type) (config_written type fs)
type-passes type fs apart =
    required-passes TYPE.now (fixed_faults type) (config_written type fs) (string type)
    (get-object TYPE.now (field TYPE.now (string type) ∷ fs) apart) (fixed-passes type)

pub named-back : {A : Type 0} (name : List ℕ) (f : Check) (value : Data → A) (d : Data) (a : A) → Back f value d a
    → Back (named_faults name f) (config_in value) (named_written name d) a
unfolding named_faults named_written config_in is_known
named-back name f value d a known =
    let fs = field NAME.now (string name) ∷ field TYPED_CONFIG.now d ∷ [] in
    record {
      passes = strict-object (NAME.now ∷ TYPED_CONFIG.now ∷ []) _ fs refl
          (both (required-passes NAME.now (fixed_faults name) (object_of fs) (string name) (get-object NAME.now fs refl) (fixed-passes name))
          (required-passes TYPED_CONFIG.now f (object_of fs) d (get-object TYPED_CONFIG.now fs refl) known.passes));
      back = required-back TYPED_CONFIG.now value (object_of fs) d (get-object TYPED_CONFIG.now fs refl) ∙ known.back;
    }

-- the same without a meaning
pub named-passes : (name : List ℕ) (f : Check) (d : Data) → Passes f d → Passes (named_faults name f) (named_written name d)
named-passes name f d p = (named-back name f (λ v. v) d d (record { passes = p; back = refl })).passes

pub plain-passes : (type : List ℕ) → Passes (plain_config_faults type) (config_written type [])
unfolding plain_config_faults is_known
plain-passes type =
    strict-object (TYPE.now ∷ []) _ (field TYPE.now (string type) ∷ []) refl (type-passes type [] refl)

-- ---- lists that are written unless they are empty

pub not-zero : (n : ℕ) → (suc n == 0) ≡ false
not-zero n = ne_eqb (suc n) 0 (λ h. absurd (omega arith))

listed-at : {A : Type 0} (name : List ℕ) (f : Check) (value : Data → A) (written : A → Data) (d : Data) (xs : List A)
    → get name d ≡ (list_field name written xs).1 → Back (list_of most_entries f) (list_in value) (list_written written xs) xs
    → Back (listed_written name most_entries f) (listed_written_in name value) d xs
unfolding listed_written listed_written_in
listed-at name f value written d [] e known =
    record { passes = absent-passes name (list_of most_entries f) d e; back = rw e refl }
listed-at name f value written d (x ∷ xs) e known =
    let there : get name d ≡ Some (list_written written (x ∷ xs)) =
    e ∙ ap (λ b. if b then None else Some (list_written written (x ∷ xs))) (not-zero (length xs)) in
    record {
      passes = optional-passes name (list_of most_entries f) d (list_written written (x ∷ xs)) there known.passes;
      back = ap (found_list value) there ∙ known.back;
    }

pub listed-back : {A : Type 0} (name : List ℕ) (f : Check) (value : Data → A) (written : A → Data) (P : A → Bool)
    → ((x : A) → P x ≡ true → Back f value (written x) x)
    → (d : Data) (xs : List A) → get name d ≡ (list_field name written xs).1 → nat_le (length xs) most_entries ≡ true → list_all P xs ≡ true
    → Back (listed_written name most_entries f) (listed_written_in name value) d xs
listed-back name f value written P each d xs e short h =
    listed-at name f value written d xs e (list-back f value written P each most_entries xs short h)

-- a field that is there or not
abbrev pub option-all : {A : Type 0} → (A → Bool) → Option A → Bool
option-all P None = true
option-all P (Some a) = P a

pub optional-field-back : {A : Type 0} (name : List ℕ) (f : Check) (value : Data → A) (written : A → Data) (P : A → Bool)
    → ((x : A) → P x ≡ true → Back f value (written x) x)
    → (d : Data) (o : Option A) → get name d ≡ option_map written o → option-all P o ≡ true
    → Back (optional_written name f) (optional_written_in name value) d o
unfolding optional_written_in
optional-field-back name f value written P each d None e h = record { passes = absent-passes name f d e; back = rw e refl }
optional-field-back name f value written P each d (Some a) e h =
    let known = each a h in
    record { passes = optional-passes name f d (written a) e known.passes; back = rw e (ap (λ x. Some x) known.back) }
