-- A number only grows by the digits behind it.
use Rattle.std.proofs.Common.{◌≡◌, ℕ, ◌+◌, ◌-◌, ◌*◌, ◌<◌, ◌≤◌, ◌&&◌, false, nat_le, List, [], ◌∷◌, Some, None, if◌then◌else◌}
use Rattle.std.proofs.Common.{length, get_or, drop, ap, sym, ◌∙◌, arith}
use Rattle.std.proofs.Math.Bool.{and-false}
use Rattle.std.proofs.lemmas.List.{drop_more}
use Rattle.mesh_text.specs.Bytes.{digit_zero}
use Rattle.mesh_text.specs.Number.{decimal_of, is_decimal, spelled_after}

spelled_grows : (n : ℕ) (cs : List ℕ) → n ≤ spelled_after n cs
spelled_grows n [] = omega arith
spelled_grows n (c ∷ cs) = omega (arith, spelled_grows (10 * n + (c - digit_zero)) cs)

too_large : (n : ℕ) (cs : List ℕ) → 65535 < n → nat_le (spelled_after n cs) 65535 ≡ false
too_large n cs h = let grows = spelled_grows n cs in grind (arith, grows)

-- where the digits so far spell too much, the whole does
pub stops : (s : List ℕ) (i n : ℕ) → i < length s → spelled_after 0 s ≡ spelled_after n (drop i s)
    → 65535 < n * 10 + (get_or s i 0 - 48) → None ≡ decimal_of s
stops s i n inside e large =
    let rest = drop_more s i 0 inside in
    let too_much : nat_le (spelled_after 0 s) 65535 ≡ false =
    rw (e, rest) (too_large (10 * n + (get_or s i 0 - 48)) (drop (i + 1) s) (omega arith)) in
    sym (ap (λ small. if is_decimal s && small then Some (spelled_after 0 s) else None) too_much
    ∙ ap (λ b. if b then Some (spelled_after 0 s) else None) (and-false (is_decimal s)))
