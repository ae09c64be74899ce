-- Words on lists: the first answer, the least entry, and a list in order.
use Rattle.std.specs.Prelude.{ℕ, ◌+◌, Bool, List, [], ◌∷◌, Option, None, if◌then◌else◌}
use Rattle.std.specs.BTreeSet.{insert_key}
use Rattle.std.specs.Cmp.Lexicographic.{slice_cmp}
use Rattle.std.specs.List.{fold, reduce}
use Rattle.std.specs.Option.{option_or}
use Rattle.std.specs.Ordering.{is_lt, nat_cmp}
use Rattle.std.specs.declared.cmp.Ordering.{Ordering}

-- the first value that is there
abbrev pub first_some : {A : Type 0} → List (Option A) → Option A
first_some [] = None
first_some (value ∷ values) = option_or value (first_some values)

-- the answer of the first entry that has one
abbrev pub first_answer : {A B : Type 0} → (A → Option B) → List A → Option B
first_answer answer [] = None
first_answer answer (x ∷ xs) = option_or (answer x) (first_answer answer xs)

-- the least entry, and of entries that tie the first
abbrev pub least : {A : Type 0} → (A → A → Bool) → List A → Option A
least before xs = reduce (λ x y. if before y x then y else x) xs

-- an entry put in its place, in front of those that tie with it
abbrev pub put : {A : Type 0} → (A → A → Bool) → A → List A → List A
put before x [] = x ∷ []
put before x (y ∷ ys) = if before y x then y ∷ put before x ys else x ∷ y ∷ ys

-- the entries in order, and those that tie as they stood
abbrev pub in_order : {A : Type 0} → (A → A → Bool) → List A → List A
in_order before [] = []
in_order before (x ∷ xs) = put before x (in_order before xs)

-- each entry put in its place, unless one that ties with it is there
abbrev pub once_in_order : {A : Type 0} → (A → A → Ordering) → List A → List A
once_in_order cmp xs = fold (insert_key cmp) [] xs

-- each number once, ascending
abbrev pub ascending : List ℕ → List ℕ
ascending numbers = once_in_order nat_cmp numbers

-- texts in byte order
abbrev pub text_cmp : List ℕ → List ℕ → Ordering
text_cmp a b = slice_cmp nat_cmp a b

-- the first text is less
abbrev pub text_before : List ℕ → List ℕ → Bool
text_before a b = is_lt (text_cmp a b)

-- each text once, in byte order
abbrev pub distinct_texts : List (List ℕ) → List (List ℕ)
distinct_texts texts = once_in_order text_cmp texts

-- the sum of a number of each entry
abbrev pub total : {A : Type 0} → (A → ℕ) → List A → ℕ
total number [] = 0
total number (x ∷ xs) = number x + total number xs
