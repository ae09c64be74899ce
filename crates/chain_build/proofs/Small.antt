-- Values that are nested little and hold no float, and what is written of fields and lists of them.
use Rattle.std.proofs.Common.{◌≡◌, ℕ, zero, suc, ◌≤◌, max, Bool, true, false, not, ◌&&◌, ◌||◌, List, [], ◌∷◌, ◌++◌, map}
use Rattle.std.proofs.Common.{Option, None, Some, refl, ◌∙◌, ap, arith}
use Rattle.std.proofs.lemmas.Bool.{and_parts, and_from}
use Rattle.std.specs.Cmp.Lexicographic.{slice_cmp}
use Rattle.std.specs.List.{list_all}
use Rattle.std.specs.Ordering.{match_ordering, nat_cmp}
use Rattle.std.specs.declared.cmp.Ordering.{Ordering}
use Rattle.std.specs.declared.cmp.Ordering.TheVariants.{Less, Equal, Greater}
use Rattle.serde_json.specs.Data.{Data, null, boolean, number, string, array, object, Items, no_items, item}
use Rattle.serde_json.specs.Data.{Members, no_members, member, put, depth, items_depth, members_depth}
use Rattle.serde_json.specs.Find.{is_float}
use Rattle.serde_json.specs.View.{items_of}
use Rattle.serde_json.specs.Written.{has_float, items_have_float, members_have_float}
use Rattle.envoy_types.specs.WrittenFields.{Field, config_written, field, fields_onto, list_written, map_written, named_onto, named_written}
use Rattle.envoy_types.specs.WrittenFields.{object_of}
use Rattle.envoy_types.specs.declared.keys.TheConstants.{NAME, TYPED_CONFIG, TYPE}

-- nested at most n deep, and without a float
abbrev mutual
  pub is_small : ℕ → Data → Bool
  is_small n null = true
  is_small n (boolean b) = true
  is_small n (number m) = not (is_float m)
  is_small n (string s) = true
  is_small zero (array ds) = false
  is_small (suc n) (array ds) = items_small n ds
  is_small zero (object ms) = false
  is_small (suc n) (object ms) = members_small n ms

  pub items_small : ℕ → Items → Bool
  items_small n no_items = true
  items_small n (item d ds) = is_small n d && items_small n ds

  pub members_small : ℕ → Members → Bool
  members_small n no_members = true
  members_small n (member k d ms) = is_small n d && members_small n ms

-- ---- what it says

max-within : (a b n : ℕ) → a ≤ n → b ≤ n → max a b ≤ n
max-within a b n h k = omega arith

mutual
  pub small-depth : (n : ℕ) (d : Data) → is_small n d ≡ true → depth d ≤ n
  small-depth n null h = omega arith
  small-depth n (boolean b) h = omega arith
  small-depth n (number m) h = omega arith
  small-depth n (string s) h = omega arith
  small-depth zero (array ds) h = cc
  small-depth (suc n) (array ds) h = let inner : items_depth ds ≤ n = items-depth n ds h in omega arith
  small-depth zero (object ms) h = cc
  small-depth (suc n) (object ms) h = let inner : members_depth ms ≤ n = members-depth n ms h in omega arith

  items-depth : (n : ℕ) (ds : Items) → items_small n ds ≡ true → items_depth ds ≤ n
  items-depth n no_items h = omega arith
  items-depth n (item d ds) h = max-within _ _ n (small-depth n d (and_parts _ _ h).0) (items-depth n ds (and_parts _ _ h).1)

  members-depth : (n : ℕ) (ms : Members) → members_small n ms ≡ true → members_depth ms ≤ n
  members-depth n no_members h = omega arith
  members-depth n (member k d ms) h = max-within _ _ n (small-depth n d (and_parts _ _ h).0) (members-depth n ms (and_parts _ _ h).1)

neither : (a b : Bool) → a ≡ false → b ≡ false → (a || b) ≡ false
neither true b h k = cc
neither false b h k = k

no-float : (b : Bool) → not b ≡ true → b ≡ false
no-float true h = cc
no-float false h = refl

mutual
  pub small-whole : (n : ℕ) (d : Data) → is_small n d ≡ true → has_float d ≡ false
  small-whole n null h = refl
  small-whole n (boolean b) h = refl
  small-whole n (number m) h = no-float (is_float m) h
  small-whole n (string s) h = refl
  small-whole zero (array ds) h = cc
  small-whole (suc n) (array ds) h = items-whole n ds h
  small-whole zero (object ms) h = cc
  small-whole (suc n) (object ms) h = members-whole n ms h

  items-whole : (n : ℕ) (ds : Items) → items_small n ds ≡ true → items_have_float ds ≡ false
  items-whole n no_items h = refl
  items-whole n (item d ds) h = neither _ _ (small-whole n d (and_parts _ _ h).0) (items-whole n ds (and_parts _ _ h).1)

  members-whole : (n : ℕ) (ms : Members) → members_small n ms ≡ true → members_have_float ms ≡ false
  members-whole n no_members h = refl
  members-whole n (member k d ms) h = neither _ _ (small-whole n d (and_parts _ _ h).0) (members-whole n ms (and_parts _ _ h).1)

mutual
  pub small-deeper : (n : ℕ) (d : Data) → is_small n d ≡ true → is_small (suc n) d ≡ true
  small-deeper n null h = refl
  small-deeper n (boolean b) h = refl
  small-deeper n (number m) h = h
  small-deeper n (string s) h = refl
  small-deeper zero (array ds) h = cc
  small-deeper (suc n) (array ds) h = items-deeper n ds h
  small-deeper zero (object ms) h = cc
  small-deeper (suc n) (object ms) h = members-deeper n ms h

  items-deeper : (n : ℕ) (ds : Items) → items_small n ds ≡ true → items_small (suc n) ds ≡ true
  items-deeper n no_items h = refl
  items-deeper n (item d ds) h = and_from _ _ (small-deeper n d (and_parts _ _ h).0) (items-deeper n ds (and_parts _ _ h).1)

  members-deeper : (n : ℕ) (ms : Members) → members_small n ms ≡ true → members_small (suc n) ms ≡ true
  members-deeper n no_members h = refl
  members-deeper n (member k d ms) h = and_from _ _ (small-deeper n d (and_parts _ _ h).0) (members-deeper n ms (and_parts _ _ h).1)

-- three more levels go as well
pub small-deeper-3 : (n : ℕ) (d : Data) → is_small n d ≡ true → is_small (suc (suc (suc n))) d ≡ true
small-deeper-3 n d h = small-deeper (suc (suc n)) d (small-deeper (suc n) d (small-deeper n d h))

-- ---- objects

put-small : (n : ℕ) (k : List ℕ) (d : Data) (ms : Members) → is_small n d ≡ true → members_small n ms ≡ true
    → members_small n (put k d ms) ≡ true
put-small n k d no_members h m = and_from _ _ h m
put-small n k d (member l e ms) h m =
    let both = and_parts (is_small n e) (members_small n ms) m in
    at both.0 both.1 (put-small n k d ms h both.1) (slice_cmp nat_cmp k l) where
      at : is_small n e ≡ true → members_small n ms ≡ true → members_small n (put k d ms) ≡ true → (o : Ordering)
          → members_small n (match_ordering o (member k d (member l e ms)) (member l d ms) (member l e (put k d ms))) ≡ true
      at first others later Less = and_from _ _ h (and_from _ _ first others)
      at first others later Equal = and_from _ _ h others
      at first others later Greater = and_from _ _ first later

-- the value of a field, where it is written
abbrev pub value_small : ℕ → Option Data → Bool
value_small n None = true
value_small n (Some d) = is_small n d

abbrev pub fields_small : ℕ → List Field → Bool
fields_small n fs = list_all (λ f. value_small n f.1) fs

fields-onto : (n : ℕ) (ms : Members) (fs : List Field) → members_small n ms ≡ true → fields_small n fs ≡ true
    → members_small n (fields_onto ms fs) ≡ true
fields-onto n ms [] m h = m
fields-onto n ms ((k, None) ∷ fs) m h = fields-onto n ms fs m h
fields-onto n ms ((k, Some d) ∷ fs) m h =
    let both = and_parts (is_small n d) (fields_small n fs) h in
    fields-onto n (put k d ms) fs (put-small n k d ms both.0 m) both.1

pub object-small : (n : ℕ) (fs : List Field) → fields_small n fs ≡ true → is_small (suc n) (object_of fs) ≡ true
object-small n fs h = fields-onto n no_members fs refl h

pub config-small : (n : ℕ) (type : List ℕ) (fs : List Field) → fields_small n fs ≡ true
    → is_small (suc n) (config_written type fs) ≡ true
config-small n type fs h = object-small n (field TYPE.now (string type) ∷ fs) h

pub named-small : (n : ℕ) (name : List ℕ) (config : Data) → is_small n config ≡ true
    → is_small (suc n) (named_written name config) ≡ true
unfolding named_written
named-small n name config h =
    object-small n (field NAME.now (string name) ∷ field TYPED_CONFIG.now config ∷ []) (and_from (is_small n config) true h refl)

-- ---- lists

module _ {A : Type 0} (written : A → Data) where
  abbrev pub each_small : ℕ → List A → Bool
  each_small n xs = list_all (λ x. is_small n (written x)) xs

  pub items-small : (n : ℕ) (xs : List A) → items_small n (items_of (map written xs)) ≡ each_small n xs
  items-small n [] = refl
  items-small n (x ∷ xs) = ap (λ b. is_small n (written x) && b) (items-small n xs)

  pub list-small : (n : ℕ) (xs : List A) → each_small n xs ≡ true → is_small (suc n) (list_written written xs) ≡ true
  unfolding list_written
  list-small n xs h = items-small n xs ∙ h

  -- with another value behind them
  pub ended-small : (n : ℕ) (xs : List A) (last : Data) → each_small n xs ≡ true → is_small n last ≡ true
      → items_small n (items_of (map written xs ++ last ∷ [])) ≡ true
  ended-small n [] last h k = and_from _ _ k refl
  ended-small n (x ∷ xs) last h k =
      let both = and_parts (is_small n (written x)) (each_small n xs) h in
      and_from _ _ both.0 (ended-small n xs last both.1 k)

  named-onto : (name : A → List ℕ) (n : ℕ) (xs : List A) → each_small n xs ≡ true
      → members_small n (named_onto name written no_members xs) ≡ true
  named-onto name n [] h = refl
  named-onto name n (x ∷ xs) h =
      let both = and_parts (is_small n (written x)) (each_small n xs) h in
      put-small n (name x) (written x) (named_onto name written no_members xs) both.0 (named-onto name n xs both.1)

  pub map-small : (name : A → List ℕ) (n : ℕ) (xs : List A) → each_small n xs ≡ true
      → is_small (suc n) (map_written name written xs) ≡ true
  unfolding map_written
  map-small name n xs h = named-onto name n xs h
