-- What a part of a check ensures the whole does: checks in order, ranges, lists of some length, configurations.
use Rattle.std.proofs.Common.{◌≡◌, ℕ, ◌+◌, ◌==◌, Bool, true, nat_le, List, [], ◌∷◌, length, All, None, refl, ap, ◌∙◌, suc}
use Rattle.std.proofs.lemmas.Bool.{and_from, and_parts, le-leb}
use Rattle.std.proofs.lemmas.List.Elements.{All-cons, All-head, All-nil, All-tail}
use Rattle.std.specs.Bool.{⊤}
use Rattle.std.specs.List.{list_all}
use Rattle.serde_json.specs.Data.{Data, Items, no_items, item}
use Rattle.serde_json.specs.Events.{items_len}
use Rattle.mesh_doc.proofs.NoFault as no_fault
use Rattle.mesh_doc.proofs.NoFault.{Ensures, IsListOf, anything, earlier, later, passed, strict_object}
use Rattle.mesh_doc.specs.Faults.{Check, demands, first, ◌⨾◌, ◌▸◌}
use Rattle.mesh_doc.specs.Fields.{required_written_in}
use Rattle.mesh_doc.specs.Kinds.{items_of, length_in, list_faults, number_in, text_faults, text_in, truth_faults, truth_in}
use Rattle.mesh_doc.specs.Lists.{each_in, list_in}
use Rattle.mesh_doc.specs.Places.{Steps, at_index}
use Rattle.mesh_doc.specs.Turns.{each_in_turn, list_in_turn}
use Rattle.envoy_types.specs.SmallForms.{config_in, count_written, fixed_faults, is_within, list_in_turn_that, list_that, most_entries}
use Rattle.envoy_types.specs.SmallForms.{named_faults, number_within_faults, one_of, short_list_faults, true_faults, type_faults}
use Rattle.mesh_doc.specs.declared.reason.Reason.TheVariants as reason
use Rattle.envoy_types.specs.declared.keys.TheConstants.{TYPE, TYPED_CONFIG}

-- ---- checks in order

module _ {A : Type 0} {f g : Check} {value : Data → A} {P : A → Type 0} where
  pub in-front : Ensures f value P → Ensures (f ⨾ g) value P
  in-front e = record { holds = λ d at h. e.holds d at (earlier (first (f d at)) (first (g d at)) h) }

  pub behind : Ensures g value P → Ensures (f ⨾ g) value P
  behind e = record { holds = λ d at h. e.holds d at (later (first (f d at)) (first (g d at)) h) }

  pub shown : Ensures g value P → Ensures (f ▸ g) value P
  shown e = record { holds = λ d at h. e.holds d at (later (first (f d at)) (first (g d at)) h) }

-- ---- single values, of which nothing is asked

pub any-text : Ensures text_faults text_in (λ _. ⊤)
any-text = anything

pub any-truth : Ensures truth_faults truth_in (λ _. ⊤)
any-truth = anything

pub the-truth : Ensures true_faults truth_in (λ _. ⊤)
the-truth = anything

pub fixed : (word : List ℕ) → Ensures (fixed_faults word) text_in (λ _. ⊤)
fixed word = anything

pub typed : (type : List ℕ) → Ensures (type_faults type) (required_written_in TYPE.now text_in) (λ _. ⊤)
typed type = anything

-- exactly one of the fields is there
pub one : (names : List (List ℕ)) → Ensures (one_of names) (λ d. d) (λ d. (count_written names d == 1) ≡ true)
unfolding one_of
one names = record { holds = λ d at h. passed (count_written names d == 1) _ at h }

-- ---- numbers

pub number-within : (least most : ℕ) → Ensures (number_within_faults least most) number_in (λ n. is_within least most n ≡ true)
unfolding number_within_faults
number-within least most = record { holds = λ d at h. passed (is_within least most (number_in d)) _ at (later _ _ h) }

-- ---- lists

entries-length : {A : Type 0} (value : Data → A) (ds : Items) → length (each_in value ds) ≡ items_len ds
entries-length value no_items = refl
entries-length value (item d ds) = ap suc (entries-length value ds)

pub list-length : {A : Type 0} (value : Data → A) (d : Data) → length (list_in value d) ≡ length_in d
unfolding list_in length_in
list-length value d = entries-length value (items_of d)

-- so many entries as fit, no more than the limit, and each with the property
pub record Listed {A : Type 0} (fits : ℕ → Bool) (most : ℕ) (P : A → Type 0) (entries : List A) : Type 0 where
  pub fitting : fits (length entries) ≡ true
  pub list : IsListOf most P entries

pub list-that : {A : Type 0} {f : Check} {value : Data → A} {P : A → Type 0} (fits : ℕ → Bool) (most : ℕ) → Ensures f value P
    → Ensures (list_that fits most f) (list_in value) (Listed fits most P)
unfolding list_that
list-that {value = value} fits most e = record {
  holds = λ d at h.
      let rest = later _ _ h in
      record {
        fitting = ap fits (list-length value d) ∙ passed (fits (length_in d)) _ at (earlier _ _ rest);
        list = (no_fault.list_of most e).holds d at (later _ _ rest);
      };
}

pub list-in-turn : {S A : Type 0} {f : S → Check} {value : Data → A} {P : A → Type 0} (fits : ℕ → Bool) (after : S → Data → S) (seen : S)
    → ((s : S) → Ensures (f s) value P)
    → Ensures (list_in_turn_that fits f after seen) (list_in value) (Listed fits most_entries P)
unfolding list_in_turn_that
list-in-turn {value = value} fits after seen e = record {
  holds = λ d at h.
      let rest = later _ _ h in
      record {
        fitting = ap fits (list-length value d) ∙ passed (fits (length_in d)) _ at (earlier _ _ rest);
        list = (no_fault.list_in_turn after e most_entries seen).holds d at (later _ _ rest);
      };
}

-- the entries of such a list have no fault
pub turns : {S : Type 0} (f : S → Check) (fits : ℕ → Bool) (after : S → Data → S) (seen : S) (d : Data) (at : Steps)
    → first (list_in_turn_that fits f after seen d at) ≡ None → first (each_in_turn f after seen 0 (items_of d) at) ≡ None
unfolding list_in_turn_that list_in_turn
turns f fits after seen d at h =
    let fitting = later (first (short_list_faults most_entries d at)) _ h in
    let size = first (demands (λ v. fits (length_in v)) reason.BadForm d at) in
    let list = later size (first (list_in_turn most_entries f after seen d at)) fitting in
    later _ _ (later (first (list_faults d at)) _ list)

-- a number of entries from the least one on, and no more than the limit
pub listed-within : {A : Type 0} {P : A → Type 0} (least most : ℕ) (entries : List A) → Listed (nat_le least) most P entries
    → is_within least most (length entries) ≡ true
listed-within least most entries h = and_from _ _ h.fitting (le-leb (length entries) most h.list.few)

-- each entry of the form has the property
pub each-holds : {A : Type 0} {f : Check} {value : Data → A} {P : A → Type 0} → Ensures f value P → (ds : Items) (index : ℕ) (at : Steps)
    → first (each_in_turn {S = Unit {0}} (λ _. f) (λ seen _. seen) tt index ds at) ≡ None → All P (each_in value ds)
each-holds {P = P} e no_items index at h = All-nil P
each-holds {value = value} {P = P} e (item d ds) index at h =
    All-cons P (value d) (each_in value ds) (e.holds d (at_index index at) (earlier _ _ h)) (each-holds e ds (index + 1) at (later _ _ h))

-- what each entry passes if it passes a first test, all pass if they pass that
pub all-pass : {A : Type 0} (given test : A → Bool) (xs : List A) → All (λ x. given x ≡ true → test x ≡ true) xs → list_all given xs ≡ true
    → list_all test xs ≡ true
all-pass given test [] all h = refl
all-pass given test (x ∷ xs) all h =
    let both = and_parts (given x) (list_all given xs) h in
    and_from _ _ (All-head (λ y. given y ≡ true → test y ≡ true) x xs all both.0)
    (all-pass given test xs (All-tail (λ y. given y ≡ true → test y ≡ true) x xs all) both.1)

-- ---- a configuration under its name

pub named : {A : Type 0} {f : Check} {value : Data → A} {P : A → Type 0} (name : List ℕ) → Ensures f value P
    → Ensures (named_faults name f) (config_in value) P
unfolding named_faults config_in
named name e = strict_object _ (behind (no_fault.required_written TYPED_CONFIG.now e))
