-- Whether one entry of a list passes: of a filtered list, of a list of lists, and where no other entry can.
use Rattle.std.proofs.Common.{◌≡◌, ℕ, ◌+◌, ◌<◌, suc, zero, Bool, true, false, ◌&&◌, ◌||◌, All, List, [], ◌∷◌, cond, filter}
use Rattle.std.proofs.Common.{get_or, length, map, refl, ◌∙◌, ap, arith}
use Rattle.std.proofs.Math.Bool.{or-false}
use Rattle.std.proofs.lemmas.List.Elements.{All-cons, All-from_get_or, All-head, All-tail}
use Rattle.std.proofs.lemmas.List.Folds.{list_any-append, list_any_none}
use Rattle.std.specs.List.{enumerate_from, flat_map, list_any}

-- tests that agree at each entry
pub any-same : {A : Type 0} (p q : A → Bool) (xs : List A) → All (λ x. p x ≡ q x) xs → list_any p xs ≡ list_any q xs
any-same p q [] same = refl
any-same p q (x ∷ xs) same =
    ap (λ b. b || list_any p xs) (All-head (λ y. p y ≡ q y) x xs same)
    ∙ ap (λ b. q x || b) (any-same p q xs (All-tail (λ y. p y ≡ q y) x xs same))

-- what is made of the entries that are kept
pub any-kept : {A B : Type 0} (test : B → Bool) (make : A → B) (keeps : A → Bool) (xs : List A)
    → list_any test (map make (filter keeps xs)) ≡ list_any (λ x. keeps x && test (make x)) xs
any-kept test make keeps [] = refl
any-kept {A} test make keeps (x ∷ xs) = at (keeps x) (any-kept test make keeps xs) where
  at : (b : Bool) → list_any test (map make (filter keeps xs)) ≡ list_any (λ y. keeps y && test (make y)) xs
      → list_any test (map make (cond b (x ∷ filter keeps xs) (filter keeps xs)))
      ≡ (b && test (make x) || list_any (λ y. keeps y && test (make y)) xs)
  at true rest = ap (λ b. test (make x) || b) rest
  at false rest = rest

-- lists joined end to end
pub any-flat_map : {A B : Type 0} (test : B → Bool) (f : A → List B) (xs : List A)
    → list_any test (flat_map f xs) ≡ list_any (λ x. list_any test (f x)) xs
any-flat_map test f [] = refl
any-flat_map test f (x ∷ xs) = list_any-append test (f x) (flat_map f xs) ∙ ap (λ b. list_any test (f x) || b) (any-flat_map test f xs)

-- ---- entries with their indices

pub any-enumerate : {A : Type 0} (test : A → Bool) (n : ℕ) (xs : List A) → list_any (λ e. test e.1) (enumerate_from n xs) ≡ list_any test xs
any-enumerate test n [] = refl
any-enumerate test n (x ∷ xs) = ap (λ b. test x || b) (any-enumerate test (n + 1) xs)

pub All-enumerate : {A : Type 0} (P : A → Type 0) (n : ℕ) (xs : List A) → All P xs → All (λ e. P e.1) (enumerate_from n xs)
All-enumerate P n [] each = λ k d within. absurd (omega (arith, within))
All-enumerate P n (x ∷ xs) each =
    All-cons (λ e. P e.1) (n, x) (enumerate_from (n + 1) xs) (All-head P x xs each) (All-enumerate P (n + 1) xs (All-tail P x xs each))

-- ---- one entry alone

-- where no other entry passes, the one at that place decides
pub any-one : {A : Type 0} (test : A → Bool) (xs : List A) (k : ℕ) (d : A) → k < length xs
    → ((j : ℕ) → j < length xs → (j ≡ k → ⊥) → test (get_or xs j d) ≡ false) → list_any test xs ≡ test (get_or xs k d)
any-one test [] k d within others = absurd (omega (arith, within))
any-one test (x ∷ xs) zero d within others =
    let rest : (j : ℕ) → j < length xs → test (get_or xs j d) ≡ false = λ j inside. others (suc j) (omega arith) (λ e. omega (arith, e)) in
    ap (λ b. test x || b) (list_any_none test xs (All-from_get_or (λ y. test y ≡ false) xs d rest)) ∙ or-false (test x)
any-one test (x ∷ xs) (suc k) d within others =
    let rest : (j : ℕ) → j < length xs → (j ≡ k → ⊥) → test (get_or xs j d) ≡ false =
    λ j inside other. others (suc j) (omega arith) (λ e. other (omega (arith, e))) in
    ap (λ b. b || list_any test xs) (others 0 (omega arith) (λ e. omega (arith, e))) ∙ any-one test xs k d (omega arith) rest
