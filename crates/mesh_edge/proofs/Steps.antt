-- One more read or write after those before it.
use Rattle.std.proofs.Common.{◌≡◌, ℕ, ◌+◌, ◌-◌, ◌≤◌, List, ◌++◌, length, take, drop, Some, None, refl, sym, ap, ◌∙◌, subst, take-add, take_at, take-append-drop, drop-drop, arith}
use Rattle.std.proofs.lemmas.Grind.{common_steps}
use Rattle.std.proofs.lemmas.List.{take_rest}
use Rattle.std.proofs.KnownBytes.{Appends-trans}
use Rattle.std.specs.Prelude.{Option}
use Rattle.std.specs.Io.KnownBytes.{Appends}
use Rattle.mesh_edge.specs.Sink.{NoFewer}

-- the first m bytes were taken, and then n of the rest
pub written_more : (a b c : Option (List ℕ)) (xs : List ℕ) (m n : ℕ) → Appends a b (take m xs)
    → Appends b c (take n (take (length xs - m) (drop m xs))) → Appends a c (take (m + n) xs)
written_more a b c xs m n p q =
    let e : take m xs ++ take n (take (length xs - m) (drop m xs)) ≡ take (m + n) xs =
    rw take_rest (sym (take-add m n xs)) in
    subst (Appends a c) e (Appends-trans a b c _ _ p q)

-- the front of a buffer has the n bytes that follow the first m
pub read_next : (xs buf rest : List ℕ) (m n : ℕ) → n ≤ length xs - m
    → buf ≡ take n (take (length xs - m) (drop m xs)) ++ rest → drop m xs ≡ take n buf ++ drop (m + n) xs
read_next xs buf rest m n fits filled =
    let next : buf ≡ take n (drop m xs) ++ rest = filled ∙ rw take_rest refl in
    let whole : length (take n (drop m xs)) ≡ n = grind (arith, common_steps) in
    let front : take n buf ≡ take n (drop m xs) = ap (take n) next ∙ take_at _ rest n whole in
    sym (ap (λ ys. ys ++ drop (m + n) xs) front ∙ ap (λ ys. take n (drop m xs) ++ ys) (sym (drop-drop n m xs))
    ∙ take-append-drop n (drop m xs))

pub NoFewer-trans : (a b c : Option ℕ) → NoFewer a b → NoFewer b c → NoFewer a c
NoFewer-trans None b c p q = tt
NoFewer-trans (Some x) None c p q = absurd p
NoFewer-trans (Some x) (Some y) None p q = absurd q
NoFewer-trans (Some x) (Some y) (Some z) p q = omega (arith, p, q)
