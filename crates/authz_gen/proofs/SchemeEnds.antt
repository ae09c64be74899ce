-- At most two of the ends of `spiffe://` begin one text.
use Rattle.std.proofs.Common.{◌≡◌, ℕ, ◌≤◌, nat_eq, Bool, true, false, ◌&&◌, List, [], ◌∷◌, refl, arith, subst}
use Rattle.std.proofs.lemmas.Bool.{eqb-true}
use Rattle.std.specs.List.{starts_with}
use Rattle.mesh_policy.specs.Lists.{total}
use Rattle.peer_name.specs.Principal.{scheme_ends}

-- 1 for true
abbrev pub count : Bool → ℕ
count true = 1
count false = 0

-- 1 where the text begins with this end
abbrev pub begins : (text end : List ℕ) → ℕ
begins text end = count (starts_with nat_eq text end)

count-most : (b : Bool) → count b ≤ 1
count-most true = omega arith
count-most false = omega arith

begins-most : (text end : List ℕ) → begins text end ≤ 1
begins-most text end = count-most (starts_with nat_eq text end)

begins-apart : (b rest : Bool) → b ≡ false → count (b && rest) ≡ 0
begins-apart true rest h = cc
begins-apart false rest h = refl

-- the ends that begin with this byte
abbrev Few : List ℕ → ℕ → Type 0
Few rest c = total (begins (c ∷ rest)) scheme_ends ≤ 2

by-byte : (k c : ℕ) (rest : List ℕ) → Few rest k → (nat_eq k c ≡ false → Few rest c) → Few rest c
by-byte k c rest here other = at (nat_eq k c) refl where
  at : (b : Bool) → nat_eq k c ≡ b → Few rest c
  at true e = subst (Few rest) (eqb-true k c e) here
  at false e = other e

-- after a first byte
module _ (rest : List ℕ) where
  at-slash : Few rest 47
  at-slash = let one = begins-most rest (47 ∷ []) in omega (arith, one)

  at-colon : Few rest 58
  at-colon = let one = begins-most rest (47 ∷ 47 ∷ []) in omega (arith, one)

  at-e : Few rest 101
  at-e = let one = begins-most rest (58 ∷ 47 ∷ 47 ∷ []) in omega (arith, one)

  at-f : Few rest 102
  at-f =
      let one = begins-most rest (101 ∷ 58 ∷ 47 ∷ 47 ∷ []) in
      let two = begins-most rest (102 ∷ 101 ∷ 58 ∷ 47 ∷ 47 ∷ []) in
      omega (arith, one, two)

  at-i : Few rest 105
  at-i = let one = begins-most rest (102 ∷ 102 ∷ 101 ∷ 58 ∷ 47 ∷ 47 ∷ []) in omega (arith, one)

  at-p : Few rest 112
  at-p = let one = begins-most rest (105 ∷ 102 ∷ 102 ∷ 101 ∷ 58 ∷ 47 ∷ 47 ∷ []) in omega (arith, one)

  at-s : Few rest 115
  at-s = let one = begins-most rest (112 ∷ 105 ∷ 102 ∷ 102 ∷ 101 ∷ 58 ∷ 47 ∷ 47 ∷ []) in omega (arith, one)

  begins-none : (k : ℕ) (end : List ℕ) (c : ℕ) → nat_eq k c ≡ false → begins (c ∷ rest) (k ∷ end) ≡ 0
  begins-none k end c h = begins-apart (nat_eq k c) _ h

  at-other : (c : ℕ) → nat_eq 47 c ≡ false → nat_eq 58 c ≡ false → nat_eq 101 c ≡ false → nat_eq 102 c ≡ false → nat_eq 105 c ≡ false
      → nat_eq 112 c ≡ false → nat_eq 115 c ≡ false → Few rest c
  at-other c slash colon e f i p s =
      let a1 = begins-none 47 [] c slash in
      let a2 = begins-none 47 (47 ∷ []) c slash in
      let a3 = begins-none 58 (47 ∷ 47 ∷ []) c colon in
      let a4 = begins-none 101 (58 ∷ 47 ∷ 47 ∷ []) c e in
      let a5 = begins-none 102 (101 ∷ 58 ∷ 47 ∷ 47 ∷ []) c f in
      let a6 = begins-none 102 (102 ∷ 101 ∷ 58 ∷ 47 ∷ 47 ∷ []) c f in
      let a7 = begins-none 105 (102 ∷ 102 ∷ 101 ∷ 58 ∷ 47 ∷ 47 ∷ []) c i in
      let a8 = begins-none 112 (105 ∷ 102 ∷ 102 ∷ 101 ∷ 58 ∷ 47 ∷ 47 ∷ []) c p in
      let a9 = begins-none 115 (112 ∷ 105 ∷ 102 ∷ 102 ∷ 101 ∷ 58 ∷ 47 ∷ 47 ∷ []) c s in
      omega (arith, a1, a2, a3, a4, a5, a6, a7, a8, a9)

pub ends-few : (text : List ℕ) → total (begins text) scheme_ends ≤ 2
ends-few [] = omega arith
ends-few (c ∷ rest) =
    by-byte 47 c rest (at-slash rest) (λ slash. by-byte 58 c rest (at-colon rest) (λ colon. by-byte 101 c rest (at-e rest) (λ e.
    by-byte 102 c rest (at-f rest) (λ f. by-byte 105 c rest (at-i rest) (λ i. by-byte 112 c rest (at-p rest) (λ p.
    by-byte 115 c rest (at-s rest) (at-other rest c slash colon e f i p)))))))
