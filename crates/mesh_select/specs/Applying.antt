-- Policies in the order of a map.
use Rattle.std.specs.Prelude.{ℕ, Bool, ◌&&◌, List, [], ◌∷◌}
use Rattle.std.specs.BTreeSet.{insert_key}
use Rattle.std.specs.Cmp.Lexicographic.{slice_cmp}
use Rattle.std.specs.Ordering.{nat_cmp, on, then_cmp}
use Rattle.std.specs.Str.{bytes_eq}
use Rattle.std.specs.declared.cmp.Ordering.{Ordering}

-- both texts are the same
abbrev pub same_pair : List ℕ × List ℕ → List ℕ × List ℕ → Bool
same_pair a b = bytes_eq a.0 b.0 && bytes_eq a.1 b.1

-- by the first text, then by the second, in byte order
abbrev pub pair_order : {A : Type 0} → (A → List ℕ × List ℕ) → A → A → Ordering
pair_order pair = then_cmp (on (λ a. (pair a).0) (slice_cmp nat_cmp)) (on (λ a. (pair a).1) (slice_cmp nat_cmp))

-- the entries put in their places one after another, from the last on
abbrev pub placed : {A : Type 0} → (A → A → Ordering) → List A → List A
placed cmp [] = []
placed cmp (x ∷ xs) = insert_key cmp (placed cmp xs) x
