-- A port has one text.
use Rattle.std.proofs.Common.{◌≡◌, ℕ, ◌^◌, ◌<◌, ◌≤◌, ◌==◌, ◌&&◌, Bool, true, false, not, nat_le, List, [], ◌∷◌}
use Rattle.std.proofs.Common.{length, get_or, refl, sym, arith, rules, ◌∙◌, ap, Some, None, Option, if◌then◌else◌}
use Rattle.std.proofs.Common.{option_and_then, is_some, unwrap_or}
use Rattle.std.proofs.lemmas.Bool.{and_from, and_parts, eqb-false, leb-true, le-leb, not-true}
use Rattle.std.proofs.lemmas.Fmt.{decimal-digits_value}
use Rattle.std.proofs.lemmas.Option.{cond_some}
use Rattle.std.proofs.lemmas.Str.Parse.{IsNumeralModel, numerals_by_fold}
use Rattle.std.specs.Fmt.{decimal}
use Rattle.std.specs.List.{list_all}
use Rattle.mesh_policy.specs.Values.{is_port}
use Rattle.mesh_text.specs.Number.{decimal_of, has_leading_zero, is_decimal, is_digit, spelled_after}
use Rattle.policy_json.specs.Ports.{port_of, unless_zero}

digits : IsNumeralModel (λ ds. list_all is_digit ds ≡ true) (spelled_after 0)
digits = numerals_by_fold _ (search rules) spelled_after (search rules)

zero_alone : (s : List ℕ) → not (has_leading_zero s) ≡ true → 0 < length s → get_or s 0 0 ≡ 48 → length s ≡ 1
zero_alone [] h some e = omega arith
zero_alone (c ∷ []) h some e = refl
zero_alone (c ∷ d ∷ cs) h some e = absurd (eqb-false c 48 (not-true _ h) e)

-- a decimal is the text of its number, which is at most 65,535
number_of : (s : List ℕ) (n : ℕ) → decimal_of s ≡ Some n → (decimal n ≡ s) × (n ≤ 65535)
number_of s n h =
    let found = cond_some (is_decimal s && nat_le (spelled_after 0 s) 65535) (spelled_after 0 s) n h in
    let parts = and_parts (is_decimal s) (nat_le (spelled_after 0 s) 65535) found.0 in
    let form = and_parts (nat_le 1 (length s) && list_all is_digit s) (not (has_leading_zero s)) parts.0 in
    let some = and_parts (nat_le 1 (length s)) (list_all is_digit s) form.0 in
    let long : 0 < length s = omega (arith, leb-true 1 (length s) some.0) in
    let small : spelled_after 0 s ≤ 65535 = leb-true (spelled_after 0 s) 65535 parts.1 in
    let fits : spelled_after 0 s < 2 ^ 64 = omega arith in
    (ap decimal (sym found.1) ∙ decimal-digits_value digits s some.1 long (zero_alone s form.1 long) fits, omega (arith, found.1))

-- a port is a decimal other than 0
decimal_of_port : (o : Option ℕ) (n : ℕ) → option_and_then unless_zero o ≡ Some n → (o ≡ Some n) × (n ≡ 0 → ⊥)
decimal_of_port None n h = cc
decimal_of_port (Some k) n h = of_number k n (k == 0) refl h
  where
    of_number : (k n : ℕ) (b : Bool) → (k == 0) ≡ b → (if b then None else Some k) ≡ Some n → (Some k ≡ Some n) × (n ≡ 0 → ⊥)
    of_number k n true e h = cc
    of_number k n false e h = (h, λ zero. eqb-false k 0 e (cc (h, zero)))

pub text_of_port : (s t : List ℕ) (n : ℕ) → port_of s ≡ Some n → port_of t ≡ Some n → s ≡ t
text_of_port s t n h k =
    let first = decimal_of_port (decimal_of s) n h in
    let second = decimal_of_port (decimal_of t) n k in
    sym (number_of s n first.0).0 ∙ (number_of t n second.0).0

is_port_of : (s : List ℕ) (n : ℕ) → port_of s ≡ Some n → is_port n ≡ true
is_port_of s n h =
    let found = decimal_of_port (decimal_of s) n h in
    let small = number_of s n found.0 in
    and_from _ _ (le-leb 1 n (omega (arith, found.1))) (le-leb n 65535 small.1)

-- the port of a text that names one
pub port_there : (s : List ℕ) (o : Option ℕ) → port_of s ≡ o → is_some o ≡ true
    → (port_of s ≡ Some (unwrap_or o 0)) × (is_port (unwrap_or o 0) ≡ true)
port_there s None e h = cc
port_there s (Some n) e h = (e, is_port_of s n e)
