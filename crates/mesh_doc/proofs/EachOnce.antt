-- The members of an object have each key once, so that no two of their values are the same, if one key only gives a value.
use Rattle.std.proofs.Common.{◌≡◌, ℕ, Bool, true, false, ◌||◌, List, [], ◌∷◌, None, bytes_eq, true≢false, refl, sym, ◌∙◌}
use Rattle.std.specs.Prelude.{if◌then◌else◌}
use Rattle.std.proofs.lemmas.Bool.{false_from_ne_true}
use Rattle.std.proofs.lemmas.Map.Keys.{apart_from_distinct}
use Rattle.std.proofs.lemmas.Slice.Eq.{bytes_eq-Decides}
use Rattle.std.specs.List.{AllByRecursion, AllPairs, IsDistinct, list_any}
use Rattle.serde_json.specs.Data.{Data, Members, no_members, member}
use Rattle.mesh_doc.specs.Faults.{Check, first}
use Rattle.mesh_doc.specs.Kinds.{members_of}
use Rattle.mesh_doc.specs.Maps as maps
use Rattle.mesh_doc.specs.Maps.{each_member_faults, each_member_in, map_in, unique_besides}
use Rattle.mesh_doc.specs.Places.{Steps, at_key}
use Rattle.mesh_doc.proofs.NoFault.{Ensures, earlier, later}

-- the value of a key that is none of the names
abbrev IsValueBesides : {A : Type 0} → (List ℕ → A → Type 0) → List (List ℕ) → A → Type 0
IsValueBesides Of seen a = (key : List ℕ) × Of key a × (list_any (bytes_eq key) seen ≡ false)

or_parts : (a b : Bool) → (a || b) ≡ false → (a ≡ false) × (b ≡ false)
or_parts false b h = (refl, h)
or_parts true b h = cc

module _ {A : Type 0} {f : List ℕ → Check} {value : List ℕ → Data → A} {Of : List ℕ → A → Type 0} (same : A → A → Bool)
    (e : (key : List ℕ) → Ensures (f key) (value key) (Of key))
    (one_key : (key key' : List ℕ) (a a' : A) → Of key a → Of key' a' → same a a' ≡ true → key ≡ key') where
  -- behind a key: none of the values of other keys is the same, and each has a key besides the names before it
  apart : (key : List ℕ) (a : A) (seen : List (List ℕ)) (xs : List A) → Of key a → AllByRecursion (IsValueBesides Of (key ∷ seen)) xs
      → AllByRecursion (λ x. same a x ≡ false) xs × AllByRecursion (IsValueBesides Of seen) xs
  apart key a seen [] of h = (tt, tt)
  apart key a seen (x ∷ xs) of h =
      let parts = or_parts (bytes_eq h.0.0 key) (list_any (bytes_eq h.0.0) seen) h.0.2 in
      let rest = apart key a seen xs of h.1 in
      let its_key : same a x ≡ true → bytes_eq h.0.0 key ≡ true =
      λ s. (bytes_eq-Decides h.0.0 key).1 (sym (one_key key h.0.0 a x of h.0.1 s)) in
      let differs : same a x ≡ false = false_from_ne_true (same a x) (λ s. true≢false (sym (its_key s) ∙ parts.0)) in
      ((differs, rest.0), ((h.0.0, h.0.1, parts.1), rest.1))

  abbrev IsApart : List (List ℕ) → Members → Type 0
  IsApart seen ms = AllByRecursion (IsValueBesides Of seen) (each_member_in value ms) × IsDistinct same (each_member_in value ms)

  one_more : (key : List ℕ) (d : Data) (seen : List (List ℕ)) (at : Steps) (us vs : Members)
      → (first (each_member_faults f us at) ≡ None → IsApart seen us)
      → (first (each_member_faults f vs at) ≡ None → IsApart (key ∷ seen) vs)
      → (b : Bool) → list_any (bytes_eq key) seen ≡ b
      → first (each_member_faults f (if b then us else member key d vs) at) ≡ None → IsApart seen (if b then us else member key d vs)
  unfolding IsDistinct
  one_more key d seen at us vs left_out kept true is h = left_out h
  one_more key d seen at us vs left_out kept false is h =
      let now = first (f key d (at_key key at)) in
      let behind = first (each_member_faults f vs at) in
      let here : Of key (value key d) = (e key).holds d (at_key key at) (earlier now behind h) in
      let rest : IsApart (key ∷ seen) vs = kept (later now behind h) in
      let parts = apart key (value key d) seen (each_member_in value vs) here rest.0 in
      (((key, here, is), parts.1), (parts.0, rest.1))

  all_apart : (ms : Members) (seen : List (List ℕ)) (at : Steps)
      → first (each_member_faults f (unique_besides seen ms) at) ≡ None → IsApart seen (unique_besides seen ms)
  unfolding IsDistinct
  all_apart no_members seen at h = (tt, tt)
  all_apart (member key d ms) seen at h =
      let left_out = all_apart ms seen at in
      let kept = all_apart ms (key ∷ seen) at in
      one_more key d seen at (unique_besides seen ms) (unique_besides (key ∷ seen) ms) left_out kept (list_any (bytes_eq key) seen) refl h

  pub map_each_once : Ensures (maps.map_of f) (map_in value) (AllPairs (λ a a'. same a a' ≡ false))
  unfolding maps.map_of map_in
  map_each_once = record {
    holds = λ d at h i j default.
        let parts = all_apart (members_of d) [] at (later _ _ h) in
        apart_from_distinct same (each_member_in value (maps.unique_members d)) i j default parts.1;
  }
