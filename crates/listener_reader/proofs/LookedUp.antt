-- Chains clash exactly where they are for one kind of connections.
use Rattle.std.proofs.Common.{◌≡◌, ◌==◌, ℕ, Bool, true, false, ◌&&◌, ◌||◌, List, [], ◌∷◌, length, map, Option, Some, None, refl, sym, ap, ◌∙◌}
use Rattle.std.proofs.Math.Dec.{eqb-suc-zero}
use Rattle.std.specs.List.{list_any}
use Rattle.std.specs.Str.{bytes_eq}
use Rattle.envoy_types.specs.ChainForms.{clashes, clashes_with_one, names_meet, same_port, same_protocol}
use Rattle.envoy_types.specs.declared.chains.ChainMatch.{ChainMatch}
use Rattle.envoy_types.specs.declared.chains.FilterChain.{FilterChain}
use Rattle.listener_reader.specs.Targets.{Kind, is_for, kind_of, kinds_of, names_of, one_is_for, same, same_name}

-- ---- tests of lists

any-false : {A : Type 0} (xs : List A) → list_any (λ _. false) xs ≡ false
any-false [] = refl
any-false (x ∷ xs) = any-false xs

four : (a b c d : Bool) → ((a || b) || (c || d)) ≡ ((a || c) || (b || d))
four true b c d = refl
four false true true d = refl
four false true false d = refl
four false false c d = refl

any-or : {A : Type 0} (p q : A → Bool) (xs : List A) → list_any (λ x. p x || q x) xs ≡ (list_any p xs || list_any q xs)
any-or p q [] = refl
any-or p q (x ∷ xs) = ap (λ b. (p x || q x) || b) (any-or p q xs) ∙ four (p x) (q x) (list_any p xs) (list_any q xs)

any-and : {A : Type 0} (b : Bool) (p : A → Bool) (xs : List A) → list_any (λ x. b && p x) xs ≡ (b && list_any p xs)
any-and true p xs = refl
any-and false p xs = any-false xs

any-swap : {A B : Type 0} (r : A → B → Bool) (xs : List A) (ys : List B)
    → list_any (λ x. list_any (λ y. r x y) ys) xs ≡ list_any (λ y. list_any (λ x. r x y) xs) ys
any-swap r [] ys = sym (any-false ys)
any-swap r (x ∷ xs) ys =
    ap (λ b. list_any (λ y. r x y) ys || b) (any-swap r xs ys) ∙ sym (any-or (λ y. r x y) (λ y. list_any (λ x. r x y) xs) ys)

any-map : {A B : Type 0} (p : B → Bool) (h : A → B) (xs : List A) → list_any p (map h xs) ≡ list_any (λ x. p (h x)) xs
any-map p h [] = refl
any-map p h (x ∷ xs) = ap (λ b. p (h x) || b) (any-map p h xs)

pub any-same : {A : Type 0} (p q : A → Bool) → ((x : A) → p x ≡ q x) → (xs : List A) → list_any p xs ≡ list_any q xs
any-same p q same [] = refl
any-same p q same (x ∷ xs) = rw (same x, any-same p q same xs) refl

-- ---- the kinds of one chain

or_false : (b : Bool) → (b || false) ≡ b
or_false true = refl
or_false false = refl

no-items : {A : Type 0} (xs : List A) → (length xs == 0) ≡ true → xs ≡ []
no-items [] h = refl
no-items (x ∷ xs) h = absurd (at (length (x ∷ xs) == 0) (eqb-suc-zero (length xs)) h) where
  at : (b : Bool) → b ≡ false → b ≡ true → ⊥
  at true e k = cc
  at false e k = cc

without-names : (p : Option (List ℕ) → Bool) (names : List (List ℕ)) → names ≡ [] → list_any p (names_of names) ≡ p None
without-names p names e = rw e (or_false (p None))

with-names : (p : Option (List ℕ) → Bool) (name : List ℕ) (names : List (List ℕ))
    → list_any p (names_of (name ∷ names)) ≡ list_any (λ n. p (Some n)) (name ∷ names)
with-names p name names = any-map p Some (name ∷ names)

by-names : (p : Option (List ℕ) → Bool) (names : List (List ℕ)) → (length names == 0) ≡ false
    → list_any p (names_of names) ≡ list_any (λ n. p (Some n)) names
by-names p [] h = cc
by-names p (name ∷ names) h = with-names p name names

pub sole-kind : (p : Kind → Bool) (matching : ChainMatch) → (length matching.alpn == 0) ≡ true
    → list_any p (kinds_of matching) ≡ p (kind_of matching None)
sole-kind p matching h =
    any-map p (kind_of matching) (names_of matching.alpn)
    ∙ without-names (λ n. p (kind_of matching n)) matching.alpn (no-items matching.alpn h)

pub named-kinds : (p : Kind → Bool) (matching : ChainMatch) → (length matching.alpn == 0) ≡ false
    → list_any p (kinds_of matching) ≡ list_any (λ n. p (kind_of matching (Some n))) matching.alpn
named-kinds p matching h =
    any-map p (kind_of matching) (names_of matching.alpn) ∙ by-names (λ n. p (kind_of matching n)) matching.alpn h

-- ---- the names

meets : (xs ys : List (List ℕ)) → names_meet xs ys ≡ list_any (λ x. list_any (λ y. same_name x y) (names_of ys)) (names_of xs)
meets [] [] = refl
meets [] (y ∷ ys) = sym (or_false _ ∙ with-names (λ n. same_name None n) y ys ∙ any-false (y ∷ ys))
meets (x ∷ xs) [] = sym (with-names (λ n. same_name n None || false) x xs)
meets (x ∷ xs) (y ∷ ys) =
    sym (with-names (λ n. list_any (λ m. same_name n m) (names_of (y ∷ ys))) x xs
    ∙ any-same _ _ (λ n. with-names (λ m. same_name (Some n) m) y ys) (x ∷ xs))

-- ---- and chains

clash : (a b : ChainMatch) → clashes a b ≡ list_any (λ k. list_any (λ l. same k l) (kinds_of b)) (kinds_of a)
unfolding clashes
clash a b =
    let front = same_port a.port b.port && same_protocol a.transport b.transport in
    ap (λ m. front && m) (meets a.alpn b.alpn)
    ∙ sym (any-map (λ k. list_any (λ l. same k l) (kinds_of b)) (kind_of a) (names_of a.alpn)
    ∙ any-same _ _ (λ x. any-map (λ l. same (kind_of a x) l) (kind_of b) (names_of b.alpn)
    ∙ any-and front (λ y. same_name x y) (names_of b.alpn)) (names_of a.alpn)
    ∙ any-and front (λ x. list_any (λ y. same_name x y) (names_of b.alpn)) (names_of a.alpn))

is-for-one : (a b : ChainMatch) → clashes a b ≡ list_any (λ kind. is_for kind a) (kinds_of b)
is-for-one a b = clash a b ∙ any-swap (λ k l. same k l) (kinds_of a) (kinds_of b)

pub looked-up : (earlier : List FilterChain) (chain : FilterChain)
    → clashes_with_one earlier chain ≡ list_any (λ kind. one_is_for earlier kind) (kinds_of chain.matching)
unfolding one_is_for
looked-up [] chain = sym (any-false (kinds_of chain.matching))
looked-up (other ∷ earlier) chain =
    ap (λ b. b || clashes_with_one earlier chain) (is-for-one other.matching chain.matching)
    ∙ ap (λ b. list_any (λ kind. is_for kind other.matching) (kinds_of chain.matching) || b) (looked-up earlier chain)
    ∙ sym (any-or (λ kind. is_for kind other.matching) (λ kind. one_is_for earlier kind) (kinds_of chain.matching))
