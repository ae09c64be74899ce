-- Entries that are read in turn, of which no two are alike.
use Rattle.std.proofs.Common.{◌≡◌, ℕ, ◌+◌, ◌&&◌, Bool, false, List, [], ◌∷◌, ◌++◌, Option, Some, None, filter_map, All, refl, sym, ap₂, ◌∙◌, subst, arith, eqb}
use Rattle.std.proofs.lemmas.Bool.{or_parts}
use Rattle.std.proofs.lemmas.Bool.Decides.{nat_tests}
use Rattle.std.proofs.lemmas.List.Elements.{All-cons, All-head, All-nil, All-tail}
use Rattle.std.proofs.lemmas.List.Folds.{list_any-append}
use Rattle.std.proofs.lemmas.List.Kept.{AllPairs-cons}
use Rattle.std.specs.List.{AllPairs, cons_option, list_any}
use Rattle.std.specs.Str.{bytes_eq}
use Rattle.serde_json.specs.Data.{Data, Items, no_items, item}
use Rattle.mesh_doc.specs.Faults.{Check, first, none}
use Rattle.mesh_doc.specs.Fields.{field_in, found_faults, optional}
use Rattle.mesh_doc.specs.Kinds.{items_of}
use Rattle.mesh_doc.specs.Lists.{each_in, found_list, list_in, listed_in}
use Rattle.mesh_doc.specs.Places.{Steps, at_index, at_key}
use Rattle.mesh_doc.specs.Turns.{each_in_turn, list_in_turn, listed_in_turn}
use Rattle.mesh_doc.proofs.NoFault.{Ensures, earlier, later}

-- ---- texts compare alike both ways

eqb_comm : (m n : ℕ) → eqb m n ≡ eqb n m
eqb_comm m n = grind (arith, nat_tests)

pub bytes_eq_comm : (s t : List ℕ) → bytes_eq s t ≡ bytes_eq t s
bytes_eq_comm [] [] = refl
bytes_eq_comm [] (d ∷ t) = refl
bytes_eq_comm (c ∷ s) [] = refl
bytes_eq_comm (c ∷ s) (d ∷ t) = ap₂ (λ (a b : Bool). a && b) (eqb_comm c d) (bytes_eq_comm s t)

-- ---- one list of names that were seen

-- a name stands in the list, so whatever has none like it there isn't like it
abbrev pub Seen : {K : Type 0} → (K → K → Bool) → List K → K → Type 0
Seen {K} same seen key = (q : K) → list_any (same q) seen ≡ false → same q key ≡ false

-- a test that finds nothing in a list with one more finds nothing in the list, and doesn't find the one
parts_of_more : {K : Type 0} (p : K → Bool) (seen : List K) (more : K) → list_any p (seen ++ more ∷ []) ≡ false
    → (list_any p seen ≡ false) × (list_any p (more ∷ []) ≡ false)
parts_of_more p seen more h = or_parts (list_any p seen) (list_any p (more ∷ [])) (sym (list_any-append p seen (more ∷ [])) ∙ h)

pub seen_last : {K : Type 0} (same : K → K → Bool) (seen : List K) (key : K) → Seen same (seen ++ key ∷ []) key
seen_last same seen key q h =
    (or_parts (same q key) false (parts_of_more (same q) seen key h).1).0

pub seen_still : {K : Type 0} (same : K → K → Bool) (seen : List K) (key more : K) → Seen same seen key
    → Seen same (seen ++ more ∷ []) key
seen_still same seen key more s q h =
    s q (parts_of_more (same q) seen more h).0

-- ---- pairs of a list, by recursion

abbrev pub Pairs : {A : Type 0} → (A → A → Type 0) → List A → Type 0
Pairs R [] = Unit {0}
Pairs R (x ∷ xs) = All (R x) xs × Pairs R xs

pub no_pairs : {A : Type 0} (R : A → A → Type 0) → AllPairs R []
no_pairs R i j d before within = absurd (omega arith)

pub AllPairs-from_Pairs : {A : Type 0} (R : A → A → Type 0) (xs : List A) → Pairs R xs → AllPairs R xs
AllPairs-from_Pairs R [] h = no_pairs R
AllPairs-from_Pairs R (x ∷ xs) h = AllPairs-cons R x xs h.0 (AllPairs-from_Pairs R xs h.1)

-- ---- what a state remembers of the entries before it

pub record Remembers {S A : Type 0} (f : S → Check) (value : Data → A) (after : S → Data → S)
    (R : A → A → Type 0) (Knows : S → A → Type 0) : Type 0 where
  pub apart : (seen : S) (d : Data) (at : Steps) → first (f seen d at) ≡ None → (x : A) → Knows seen x → R x (value d)
  pub added : (seen : S) (d : Data) → Knows (after seen d) (value d)
  pub kept : (seen : S) (d : Data) (x : A) → Knows seen x → Knows (after seen d) x

module _ {S A : Type 0} {f : S → Check} {value : Data → A} {after : S → Data → S} {R : A → A → Type 0}
    {Knows : S → A → Type 0} (m : Remembers f value after R Knows) where
  behind : (seen : S) (index : ℕ) (ds : Items) (at : Steps) → first (each_in_turn f after seen index ds at) ≡ None
      → (x : A) → Knows seen x → All (R x) (each_in value ds)
  behind seen index no_items at h x k = All-nil (R x)
  behind seen index (item d ds) at h x k =
      All-cons (R x) (value d) (each_in value ds)
      (m.apart seen d (at_index index at) (earlier _ _ h) x k)
      (behind (after seen d) (index + 1) ds at (later _ _ h) x (m.kept seen d x k))

  pairs : (seen : S) (index : ℕ) (ds : Items) (at : Steps) → first (each_in_turn f after seen index ds at) ≡ None
      → Pairs R (each_in value ds)
  pairs seen index no_items at h = tt
  pairs seen index (item d ds) at h = (
    behind (after seen d) (index + 1) ds at (later _ _ h) (value d) (m.added seen d),
    pairs (after seen d) (index + 1) ds at (later _ _ h),
  )

  pub list_pairs : (most : ℕ) (seen : S) → Ensures (list_in_turn most f after seen) (list_in value) (Pairs R)
  unfolding list_in_turn list_in
  list_pairs most seen = record { holds = λ d at h. pairs seen 0 (items_of d) at (later _ _ (later _ _ h)) }

  found_pairs : (most : ℕ) (seen : S) (o : Option Data) (at : Steps)
      → first (found_faults none (list_in_turn most f after seen) o at) ≡ None → Pairs R (found_list value o)
  found_pairs most seen None at h = tt
  found_pairs most seen (Some d) at h = (list_pairs most seen).holds d at h

  pub listed_pairs : (name : List ℕ) (most : ℕ) (seen : S)
      → Ensures (listed_in_turn name most f after seen) (listed_in name value) (Pairs R)
  unfolding listed_in_turn optional listed_in
  listed_pairs name most seen = record { holds = λ d at h. found_pairs most seen (field_in name d) (at_key name at) h }

-- ---- those of one kind

module _ {X A : Type 0} (select : X → Option A) (make : A → X) (makes : (x : X) (a : A) → select x ≡ Some a → x ≡ make a) where
  all_step : (P : X → Type 0) (x : X) (rest : List A) (o : Option A) → select x ≡ o → P x
      → All (λ a. P (make a)) rest → All (λ a. P (make a)) (cons_option o rest)
  all_step P x rest None e p ps = ps
  all_step P x rest (Some a) e p ps = All-cons (λ b. P (make b)) a rest (subst P (makes x a e) p) ps

  pub all_selected : (P : X → Type 0) (xs : List X) → All P xs → All (λ a. P (make a)) (filter_map select xs)
  all_selected P [] h = All-nil (λ a. P (make a))
  all_selected P (x ∷ xs) h =
      all_step P x (filter_map select xs) (select x) refl (All-head P x xs h) (all_selected P xs (All-tail P x xs h))

  pairs_step : (R : X → X → Type 0) (x : X) (xs : List X) (o : Option A) → select x ≡ o → All (R x) xs
      → AllPairs (λ a b. R (make a) (make b)) (filter_map select xs)
      → AllPairs (λ a b. R (make a) (make b)) (cons_option o (filter_map select xs))
  pairs_step R x xs None e h hs = hs
  pairs_step R x xs (Some a) e h hs =
      AllPairs-cons (λ b c. R (make b) (make c)) a (filter_map select xs)
      (let P : X → Type 0 = λ y. All (λ b. R y (make b)) (filter_map select xs) in subst P (makes x a e) (all_selected (R x) xs h))
      hs

  pub pairs_selected : (R : X → X → Type 0) (xs : List X) → Pairs R xs
      → AllPairs (λ a b. R (make a) (make b)) (filter_map select xs)
  pairs_selected R [] h = no_pairs (λ a b. R (make a) (make b))
  pairs_selected R (x ∷ xs) h = pairs_step R x xs (select x) refl h.0 (pairs_selected R xs h.1)
