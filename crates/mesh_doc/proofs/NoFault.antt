-- What a value without fault is: from what a form ensures of its values to what fields, lists and maps of the form
-- ensure. The lemmas have the names of the words of a definition, so that a proof reads as the definition does.
use Rattle.std.proofs.Common.{◌≡◌, ℕ, ◌+◌, ◌≤◌, Bool, true, false, List, [], ◌∷◌, ◌++◌, length, Option, Some, None, Result, Ok, Err, IfOk, unwrap_or, option_map, All, IsTrue, nat_le, refl, sym, ap, subst, append-nil, append_assoc, suc, arith}
use Rattle.std.proofs.lemmas.Bool.{leb-true}
use Rattle.std.proofs.lemmas.List.Elements.{All-cons, All-nil}
use Rattle.std.specs.Bool.{⊤}
use Rattle.std.specs.Option.{ForSome}
use Rattle.serde_json.specs.Data.{Data, Items, no_items, item, Members, no_members, member, null}
use Rattle.serde_json.specs.Events.{items_len}
use Rattle.serde_json.specs.Find.{get}
use Rattle.mesh_doc.specs.Faults.{Check, Reads, ◌⨾◌, ◌▸◌, demands, fault, first, none, or_else, unless}
use Rattle.mesh_doc.specs.Fields as fields
use Rattle.mesh_doc.specs.Fields.{field_in, found_faults, open_object, optional_in, optional_written_in, or_empty_in, required_in, required_written_in, spec_of, strict, within}
use Rattle.mesh_doc.specs.Kinds.{is_object, items_of, object_faults, text_in}
use Rattle.mesh_doc.specs.Known.{unknown_faults}
use Rattle.mesh_doc.specs.Lists as lists
use Rattle.mesh_doc.specs.Lists.{each_in, found_list, list_in, listed_in, listed_written_in}
use Rattle.mesh_doc.specs.Maps as maps
use Rattle.mesh_doc.specs.Maps.{each_member_faults, each_member_in, map_in, unique_members}
use Rattle.mesh_doc.specs.Places.{Steps, at_index, at_key}
use Rattle.mesh_doc.specs.Tested as texts
use Rattle.mesh_doc.specs.Turns as turns
use Rattle.mesh_doc.specs.Turns.{each_in_turn}
use Rattle.mesh_doc.specs.declared.fault.DocError.{DocError}
use Rattle.mesh_doc.specs.declared.fault.Fault.{Fault}
use Rattle.mesh_doc.specs.declared.reason.Reason.{Reason}

-- ---- the parts of a whole without fault

-- `f` of `f ⨾ g`, and of `f ▸ g`
pub earlier : (a b : Option Fault) → or_else a b ≡ None → a ≡ None
earlier None b h = refl
earlier (Some f) b h = cc

-- `g` of them
pub later : (a b : Option Fault) → or_else a b ≡ None → b ≡ None
later None b h = h
later (Some f) b h = cc

-- the test of `demands`
pub passed : (b : Bool) (reason : Reason) (at : Steps) → first (unless b reason at) ≡ None → IsTrue b
passed true reason at h = refl
passed false reason at h = cc

pub object_without_fault : (d : Data) (at : Steps) → first (object_faults d at) ≡ None → is_object d ≡ true
unfolding object_faults
object_without_fault d at h = passed (is_object d) _ at h

-- the fields of an object
pub within_object : (fs : Check) (d : Data) (at : Steps) → is_object d ≡ true → first (within fs d at) ≡ None → first (fs d at) ≡ None
within_object fs d at is h = rw is at h

-- ---- what a form ensures

-- a value without fault has the property
pub record Ensures {A : Type 0} (f : Check) (value : Data → A) (P : A → Type 0) : Type 0 where
  pub holds : (d : Data) (at : Steps) → first (f d at) ≡ None → P (value d)

-- so a reader's value has it
pub ok_ensures : {A : Type 0} {f : Check} {value : Data → A} {P : A → Type 0} → Ensures f value P
    → (d : Data) (at : Steps) (r : Result A DocError) → Reads r (f d at) (value d) → IfOk r P
ok_ensures {P = P} e d at (Ok a) reads = subst P (sym reads.1) (e.holds d at reads.0)
ok_ensures e d at (Err error) reads = tt

-- nothing is asked of the value
pub anything : {A : Type 0} {f : Check} {value : Data → A} → Ensures f value (λ _. ⊤)
anything = record { holds = λ d at h. tt }

-- what follows
pub therefore : {A B : Type 0} {f : Check} {value : Data → A} {P : A → Type 0} (g : A → B) (Q : B → Type 0)
    → ((a : A) → P a → Q (g a)) → Ensures f value P → Ensures f (λ d. g (value d)) Q
therefore {value = value} g Q follows e = record { holds = λ d at h. follows (value d) (e.holds d at h) }

-- the value itself passes the test
pub demanded : (test : Data → Bool) (reason : Reason) → Ensures (demands test reason) (λ d. d) (λ d. IsTrue (test d))
demanded test reason = record { holds = λ d at h. passed (test d) reason at h }

-- a text passes its test
pub tested : (passes : List ℕ → Bool) (reason : Reason) → Ensures (texts.tested passes reason) text_in (λ t. IsTrue (passes t))
unfolding texts.tested
tested passes reason = record { holds = λ d at h. passed (passes (text_in d)) reason at (later _ _ h) }

-- each of two checks ensures its part
infixr 8 ◌⨾⨾◌
pub ◌⨾⨾◌ : {A B : Type 0} {f g : Check} {value : Data → A} {P : A → Type 0} {value' : Data → B} {Q : B → Type 0}
    → Ensures f value P → Ensures g value' Q → Ensures {A = A × B} (f ⨾ g) (λ d. (value d, value' d)) (λ x. P x.0 × Q x.1)
◌⨾⨾◌ {f = f} {g = g} e e' = record {
  holds = λ d at h.
      let one = first (f d at) in
      let two = first (g d at) in
      (e.holds d at (earlier one two h), e'.holds d at (later one two h));
}

infixl 10 ◌▸▸◌
pub ◌▸▸◌ : {A B : Type 0} {f g : Check} {value : Data → A} {P : A → Type 0} {value' : Data → B} {Q : B → Type 0}
    → Ensures f value P → Ensures g value' Q → Ensures {A = A × B} (f ▸ g) (λ d. (value d, value' d)) (λ x. P x.0 × Q x.1)
◌▸▸◌ {f = f} {g = g} e e' = record {
  holds = λ d at h.
      let one = first (f d at) in
      let two = first (g d at) in
      (e.holds d at (earlier one two h), e'.holds d at (later one two h));
}

-- ---- objects

pub strict_object : {A : Type 0} {f : Check} {value : Data → A} {P : A → Type 0} (known : List (List ℕ))
    → Ensures f value P → Ensures (strict known f) value P
unfolding unknown_faults
strict_object {f = f} known e = record {
  holds = λ d at h.
      let is = object_without_fault d at (earlier _ _ (earlier _ _ h)) in
      e.holds d at (within_object f d at is (later _ _ h));
}

pub any_object : {A : Type 0} {f : Check} {value : Data → A} {P : A → Type 0} → Ensures f value P → Ensures (open_object f) value P
any_object {f = f} e = record {
  holds = λ d at h. e.holds d at (within_object f d at (object_without_fault d at (earlier _ _ h)) (later _ _ h));
}

-- ---- one field

module _ {A : Type 0} {f : Check} {value : Data → A} {P : A → Type 0} (e : Ensures f value P) where
  there : (reason : Reason) (o : Option Data) (at : Steps) → first (found_faults (fault reason at) f o at) ≡ None
      → P (value (unwrap_or o null))
  there reason None at h = cc
  there reason (Some d) at h = e.holds d at h

  if_there : (o : Option Data) (at : Steps) → first (found_faults none f o at) ≡ None → ForSome (option_map value o) P
  if_there None at h x is = cc
  if_there (Some d) at h x is = let same : value d ≡ x = cc in subst P same (e.holds d at h)

  or_default : (default : A) → P default → (o : Option Data) (at : Steps) → first (found_faults none f o at) ≡ None
      → P (unwrap_or (option_map value o) default)
  or_default default p None at h = p
  or_default default p (Some d) at h = e.holds d at h

module _ {A : Type 0} {f : Check} {value : Data → A} {P : A → Type 0} (name : List ℕ) where
  pub required : Ensures f value P → Ensures (fields.required name f) (required_in name value) P
  unfolding fields.required required_in
  required e = record { holds = λ d at h. there e _ (field_in name d) (at_key name at) h }

  pub optional : Ensures f value P → Ensures (fields.optional name f) (optional_in name value) (λ o. ForSome o P)
  unfolding fields.optional optional_in
  optional e = record { holds = λ d at h. if_there e (field_in name d) (at_key name at) h }

  -- with a value where it is absent
  pub optional_or : (default : A) → P default → Ensures f value P
      → Ensures (fields.optional name f) (λ d. unwrap_or (optional_in name value d) default) P
  unfolding fields.optional optional_in
  optional_or default p e = record { holds = λ d at h. or_default e default p (field_in name d) (at_key name at) h }

  pub or_empty : Ensures f value P → Ensures (fields.or_empty name f) (or_empty_in name value) P
  unfolding fields.or_empty or_empty_in
  or_empty e = record { holds = λ d at h. e.holds (spec_of (field_in name d)) (at_key name at) h }

  pub required_written : Ensures f value P → Ensures (fields.required_written name f) (required_written_in name value) P
  unfolding fields.required_written required_written_in
  required_written e = record { holds = λ d at h. there e _ (get name d) (at_key name at) h }

  pub optional_written : Ensures f value P → Ensures (fields.optional_written name f) (optional_written_in name value) (λ o. ForSome o P)
  unfolding fields.optional_written optional_written_in
  optional_written e = record { holds = λ d at h. if_there e (get name d) (at_key name at) h }

-- ---- lists

-- the entries of a list: so many at most, and each with the property
pub record IsListOf {A : Type 0} (most : ℕ) (P : A → Type 0) (entries : List A) : Type 0 where
  pub few : length entries ≤ most
  pub each : All P entries

length-each_in : {A : Type 0} (value : Data → A) (ds : Items) → length (each_in value ds) ≡ items_len ds
length-each_in value no_items = refl
length-each_in value (item d ds) = ap suc (length-each_in value ds)

few_entries : {A : Type 0} (value : Data → A) (most : ℕ) (ds : Items) → nat_le (items_len ds) most ≡ true → length (each_in value ds) ≤ most
few_entries value most ds h = rw (length-each_in value ds) (leb-true (items_len ds) most h)

-- a field with a list that is absent has no entries
or_no_entries : {A : Type 0} {f : Check} (value : Data → A) (P : A → Type 0) {most : ℕ} → Ensures f (list_in value) (IsListOf most P)
    → (o : Option Data) (at : Steps) → first (found_faults none f o at) ≡ None → IsListOf most P (found_list value o)
or_no_entries value P e None at h = record { few = omega arith; each = All-nil P }
or_no_entries value P e (Some d) at h = e.holds d at h

-- what holds of a state and of the entries that were read before it, at the start and behind each entry
module _ {S A : Type 0} (f : S → Check) (after : S → Data → S) (value : Data → A) (I : S → List A → Type 0)
    (step : (seen : S) (xs : List A) (d : Data) (at : Steps)
    → I seen xs → first (f seen d at) ≡ None → I (after seen d) (xs ++ value d ∷ [])) where
  along : (ds : Items) (seen : S) (xs : List A) (index : ℕ) (at : Steps) → I seen xs → first (each_in_turn f after seen index ds at) ≡ None
      → (s : S) × I s (xs ++ each_in value ds)
  along no_items seen xs index at i h = (seen, rw (append-nil xs) i)
  along (item d ds) seen xs index at i h =
      let now = first (f seen d (at_index index at)) in
      let behind = first (each_in_turn f after (after seen d) (index + 1) ds at) in
      let here : I (after seen d) (xs ++ value d ∷ []) = step seen xs d (at_index index at) i (earlier now behind h) in
      let rest : (s : S) × I s ((xs ++ value d ∷ []) ++ each_in value ds) =
      along ds (after seen d) (xs ++ value d ∷ []) (index + 1) at here (later now behind h) in
      (rest.0, rw (sym (append_assoc xs (value d ∷ []) (each_in value ds))) rest.1)

  pub list_along : (most : ℕ) (seen : S) → I seen [] → (d : Data) (at : Steps)
      → first (turns.list_in_turn most f after seen d at) ≡ None → (s : S) × I s (list_in value d)
  unfolding turns.list_in_turn list_in
  list_along most seen i d at h = along (items_of d) seen [] 0 at i (later _ _ (later _ _ h))

module _ {S A : Type 0} {f : S → Check} {value : Data → A} {P : A → Type 0}
    (after : S → Data → S) (e : (seen : S) → Ensures (f seen) value P) where
  each : (ds : Items) (seen : S) (index : ℕ) (at : Steps) → first (each_in_turn f after seen index ds at) ≡ None → All P (each_in value ds)
  each no_items seen index at h = All-nil P
  each (item d ds) seen index at h =
      let here = (e seen).holds d (at_index index at) (earlier _ _ h) in
      All-cons P (value d) (each_in value ds) here (each ds (after seen d) (index + 1) at (later _ _ h))

  pub list_in_turn : (most : ℕ) (seen : S) → Ensures (turns.list_in_turn most f after seen) (list_in value) (IsListOf most P)
  unfolding turns.list_in_turn list_in
  list_in_turn most seen = record {
    holds = λ d at h. record {
      few = few_entries value most (items_of d) (passed _ _ at (earlier _ _ (later _ _ h)));
      each = each (items_of d) seen 0 at (later _ _ (later _ _ h));
    };
  }

  pub listed_in_turn : (name : List ℕ) (most : ℕ) (seen : S)
      → Ensures (turns.listed_in_turn name most f after seen) (listed_in name value) (IsListOf most P)
  unfolding turns.listed_in_turn fields.optional listed_in
  listed_in_turn name most seen =
      record { holds = λ d at h. or_no_entries value P (list_in_turn most seen) (field_in name d) (at_key name at) h }

module _ {A : Type 0} {f : Check} {value : Data → A} {P : A → Type 0} where
  pub list_of : (most : ℕ) → Ensures f value P → Ensures (lists.list_of most f) (list_in value) (IsListOf most P)
  unfolding lists.list_of
  list_of most e = list_in_turn (λ seen _. seen) (λ _. e) most tt

  pub listed : (name : List ℕ) (most : ℕ) → Ensures f value P → Ensures (lists.listed name most f) (listed_in name value) (IsListOf most P)
  unfolding lists.listed fields.optional listed_in
  listed name most e = record { holds = λ d at h. or_no_entries value P (list_of most e) (field_in name d) (at_key name at) h }

  pub listed_written : (name : List ℕ) (most : ℕ) → Ensures f value P
      → Ensures (lists.listed_written name most f) (listed_written_in name value) (IsListOf most P)
  unfolding lists.listed_written fields.optional_written listed_written_in
  listed_written name most e = record { holds = λ d at h. or_no_entries value P (list_of most e) (get name d) (at_key name at) h }

-- ---- objects whose keys are data

module _ {A : Type 0} {f : List ℕ → Check} {value : List ℕ → Data → A} {P : A → Type 0} (e : (key : List ℕ) → Ensures
    (f key) (value key) P) where
  each_member : (ms : Members) (at : Steps) → first (each_member_faults f ms at) ≡ None → All P (each_member_in value ms)
  each_member no_members at h = All-nil P
  each_member (member key d ms) at h =
      All-cons P (value key d) (each_member_in value ms) ((e key).holds d (at_key key at) (earlier _ _ h)) (each_member ms at (later _ _ h))

  pub map_of : Ensures (maps.map_of f) (map_in value) (All P)
  unfolding maps.map_of map_in
  map_of = record { holds = λ d at h. each_member (unique_members d) at (later _ _ h) }
