-- Lists whose last entry has a form of its own: what is written of the entries and of the last one passes, and means them.
use Rattle.std.proofs.Common.{◌≡◌, ◌+◌, ◌-◌, Bool, true, List, [], ◌∷◌, ◌++◌, map, length, arith, refl, ap}
use Rattle.std.specs.List.{list_all}
use Rattle.serde_json.specs.Data.{Data, array, item}
use Rattle.serde_json.specs.Events.{items_len}
use Rattle.serde_json.specs.View.{items_of as items}
use Rattle.mesh_doc.specs.Faults.{Check}
use Rattle.mesh_doc.specs.Places.{at_index}
use Rattle.envoy_types.proofs.FieldsBack.{Passes, none-in-both}
use Rattle.envoy_types.proofs.PartsBack.{Back, each-back, entries-pass}
use Rattle.envoy_types.specs.SmallForms.{ending_with, front_in, front_of, items_all, last_in, last_of}

-- ---- the parts of such a list

pub front-ending : (ds : List Data) (e : Data) → front_of (items (ds ++ e ∷ [])) ≡ items ds
front-ending [] e = refl
front-ending (d ∷ []) e = refl
front-ending (d ∷ (d' ∷ ds)) e = ap (item d) (front-ending (d' ∷ ds) e)

pub last-ending : (ds : List Data) (e : Data) → last_of (items (ds ++ e ∷ [])) ≡ e
last-ending [] e = refl
last-ending (d ∷ []) e = refl
last-ending (d ∷ (d' ∷ ds)) e = last-ending (d' ∷ ds) e

pub ending-length : {A : Type 0} (written : A → Data) (xs : List A) (e : Data) → length (map written xs ++ e ∷ []) ≡ length xs + 1
ending-length written [] e = refl
ending-length written (x ∷ xs) e = omega (arith, ending-length written xs e)

-- ---- entries that are written

module _ {A : Type 0} (f : Check) (value : Data → A) (written : A → Data) (P : A → Bool)
    (each : (x : A) → P x ≡ true → Back f value (written x) x) where
  -- entries of the first form, and then one of the second
  pub ending-passes : (xs : List A) → list_all P xs ≡ true → (g : Check) (e : Data) → Passes g e
      → Passes (ending_with f g) (array (items (map written xs ++ e ∷ [])))
  unfolding ending_with
  ending-passes xs h g e q = record {
    clean = λ at. rw (front-ending (map written xs) e, last-ending (map written xs) e)
        (none-in-both _ _ (entries-pass f value written P each 0 xs at h)
        (q.clean (at_index (items_len (items (map written xs ++ e ∷ [])) - 1) at)));
  }

  -- what the entries before the last mean
  pub front-back : (xs : List A) → list_all P xs ≡ true → (e : Data) → front_in value (array (items (map written xs ++ e ∷ []))) ≡ xs
  unfolding front_in
  front-back xs h e = rw (front-ending (map written xs) e) (each-back f value written P each xs h)

-- each entry passes the test of its kind
pub items-pass : {A : Type 0} (written : A → Data) (test : Data → Bool) → ((x : A) → test (written x) ≡ true) → (xs : List A)
    → items_all test (items (map written xs)) ≡ true
items-pass written test p [] = refl
items-pass written test p (x ∷ xs) = rw (p x) (items-pass written test p xs)

-- the last one
pub last-back : {B : Type 0} (value : Data → B) (ds : List Data) (e : Data) → last_in value (array (items (ds ++ e ∷ []))) ≡ value e
unfolding last_in
last-back value ds e = rw (last-ending ds e) refl
