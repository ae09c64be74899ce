-- Fields of an object that was written field by field: each passes as what was written of it does, and means that.
use Rattle.std.proofs.Common.{◌≡◌, ℕ, Bool, true, false, List, [], ◌∷◌, Option, Some, None}
use Rattle.std.proofs.Common.{option_map, unwrap_or, length, if◌then◌else◌, refl, ap, ◌∙◌}
use Rattle.std.specs.List.{list_all}
use Rattle.serde_json.specs.Data.{Data, boolean, string}
use Rattle.serde_json.specs.Find.{get}
use Rattle.mesh_doc.specs.Faults.{Check}
use Rattle.mesh_doc.specs.Fields.{optional_written, optional_written_in, required_written, required_written_in}
use Rattle.mesh_doc.specs.Kinds.{text_faults, text_in, truth_faults, truth_in}
use Rattle.mesh_doc.specs.Lists.{listed_written, listed_written_in}
use Rattle.envoy_types.proofs.FieldsBack.{Passes, absent-passes, found, get-object, optional-back, optional-passes}
use Rattle.envoy_types.proofs.FieldsBack.{required-back, required-passes}
use Rattle.envoy_types.proofs.PartsBack.{Back, listed-back, not-zero, option-all, optional-field-back, text-back, text-passes, truth-back}
use Rattle.envoy_types.specs.SmallForms.{given, is_short_list, most_entries}
use Rattle.envoy_types.specs.WrittenFields.{Field, are_different, field_names, list_field, object_of, text_field, truth_field}

-- a check that looks at the value itself
pub given-passes : (f : Data → Check) (d : Data) → Passes (f d) d → Passes (given f) d
given-passes f d p = record { clean = p.clean }

-- no meaning is asked for
pub passing : {f : Check} {d : Data} → Passes f d → Back f (λ v. v) d d
passing p = record { passes = p; back = refl }

-- ---- fields that are not written where they have their default

-- a text that may be empty
pub text-field-back : (name : List ℕ) (d : Data) (t : List ℕ) → get name d ≡ (text_field name t).1
    → Back (optional_written name text_faults) (λ v. unwrap_or (optional_written_in name text_in v) []) d t
unfolding optional_written_in
text-field-back name d [] e = record { passes = absent-passes name text_faults d e; back = rw e refl }
text-field-back name d (c ∷ cs) e =
    let there : get name d ≡ Some (string (c ∷ cs)) = e ∙ ap (λ b. if b then None else Some (string (c ∷ cs))) (not-zero (length cs)) in
    record {
      passes = optional-passes name text_faults d (string (c ∷ cs)) there (text-passes (c ∷ cs));
      back = rw there (text-back (c ∷ cs)).back;
    }

-- a truth value that is written where it is `true`
pub truth-field-back : (name : List ℕ) (d : Data) (b : Bool) → get name d ≡ (truth_field name b).1
    → Back (optional_written name truth_faults) (λ v. unwrap_or (optional_written_in name truth_in v) false) d b
unfolding optional_written_in
truth-field-back name d false e = record { passes = absent-passes name truth_faults d e; back = rw e refl }
truth-field-back name d true e = record {
  passes = optional-passes name truth_faults d (boolean true) e (truth-back true).passes;
  back = rw e (truth-back true).back;
}

-- ---- lists of texts

all-pass : (ts : List (List ℕ)) → list_all (λ _. true) ts ≡ true
all-pass [] = refl
all-pass (t ∷ ts) = all-pass ts

-- a list of any texts
pub texts-back : (name : List ℕ) (d : Data) (ts : List (List ℕ)) → get name d ≡ (list_field name string ts).1
    → is_short_list ts ≡ true → Back (listed_written name most_entries text_faults) (listed_written_in name text_in) d ts
texts-back name d ts e short = listed-back name text_faults text_in string (λ _. true) (λ t _. text-back t) d ts e short (all-pass ts)

-- ---- fields of an object by what is written of them

module _ (fs : List Field) (apart : are_different (field_names fs) ≡ true) where
  pub required-at : (name : List ℕ) (f : Check) (v : Data) → found name fs ≡ Some v → Passes f v
      → Passes (required_written name f) (object_of fs)
  required-at name f v is p = required-passes name f (object_of fs) v (get-object name fs apart ∙ is) p

  pub required-means : {A : Type 0} (name : List ℕ) (value : Data → A) (v : Data) (a : A) → found name fs ≡ Some v → value v ≡ a
      → required_written_in name value (object_of fs) ≡ a
  required-means name value v a is e = required-back name value (object_of fs) v (get-object name fs apart ∙ is) ∙ e

  pub optional-at : (name : List ℕ) (f : Check) (v : Data) → found name fs ≡ Some v → Passes f v
      → Passes (optional_written name f) (object_of fs)
  optional-at name f v is p = optional-passes name f (object_of fs) v (get-object name fs apart ∙ is) p

  pub absent-at : (name : List ℕ) (f : Check) → found name fs ≡ None → Passes (optional_written name f) (object_of fs)
  absent-at name f is = absent-passes name f (object_of fs) (get-object name fs apart ∙ is)

  pub optional-means : {A : Type 0} (name : List ℕ) (value : Data → A) (o : Option Data) → found name fs ≡ o
      → optional_written_in name value (object_of fs) ≡ option_map value o
  optional-means name value o is = optional-back name value (object_of fs) o (get-object name fs apart ∙ is)

  -- a field that has to be there
  pub required-field : {A : Type 0} (name : List ℕ) (f : Check) (value : Data → A) (v : Data) (a : A) → found name fs ≡ Some v
      → Back f value v a → Back (required_written name f) (required_written_in name value) (object_of fs) a
  required-field name f value v a is known = record {
    passes = required-at name f v is known.passes;
    back = required-means name value v a is known.back;
  }

  -- one that is there or not
  pub optional-field : {A : Type 0} (name : List ℕ) (f : Check) (value : Data → A) (written : A → Data) (P : A → Bool)
      → ((x : A) → P x ≡ true → Back f value (written x) x) → (o : Option A) → found name fs ≡ option_map written o
      → option-all P o ≡ true → Back (optional_written name f) (optional_written_in name value) (object_of fs) o
  optional-field name f value written P each o is h =
      optional-field-back name f value written P each (object_of fs) o (get-object name fs apart ∙ is) h

  -- a truth value, which is `false` where it is not written
  pub truth-at : (name : List ℕ) (b : Bool) → found name fs ≡ (truth_field name b).1
      → Back (optional_written name truth_faults) (λ d. unwrap_or (optional_written_in name truth_in d) false) (object_of fs) b
  truth-at name b is = truth-field-back name (object_of fs) b (get-object name fs apart ∙ is)

  -- a text, which is empty where it is not written
  pub text-at : (name : List ℕ) (t : List ℕ) → found name fs ≡ (text_field name t).1
      → Back (optional_written name text_faults) (λ d. unwrap_or (optional_written_in name text_in d) []) (object_of fs) t
  text-at name t is = text-field-back name (object_of fs) t (get-object name fs apart ∙ is)
