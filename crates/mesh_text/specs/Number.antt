-- Decimal numbers without leading zeros, up to 65,535.
use Rattle.std.specs.Prelude.{ℕ, ◌+◌, ◌-◌, ◌*◌, Bool, false, ◌&&◌, not, ◌==◌, nat_le, List, [], ◌∷◌, length}
use Rattle.std.specs.Prelude.{Option, Some, None, if◌then◌else◌}
use Rattle.std.specs.List.{list_all}
use Rattle.mesh_text.specs.Bytes.{digit_nine, digit_zero}

-- DIGIT = "0" to "9" (RFC 5234, appendix B.1)
abbrev pub is_digit : ℕ → Bool
is_digit c = nat_le digit_zero c && nat_le c digit_nine

-- the number that the digits of n and then these spell
abbrev pub spelled_after : ℕ → List ℕ → ℕ
spelled_after n [] = n
spelled_after n (c ∷ cs) = spelled_after (10 * n + (c - digit_zero)) cs

-- a '0' with more behind it
abbrev pub has_leading_zero : List ℕ → Bool
has_leading_zero [] = false
has_leading_zero (c ∷ []) = false
has_leading_zero (c ∷ d ∷ cs) = c == digit_zero

-- one or more digits, the first of several not '0'
abbrev pub is_decimal : List ℕ → Bool
is_decimal s = nat_le 1 (length s) && list_all is_digit s && not (has_leading_zero s)

-- the number that a decimal of at most 65,535 spells
abbrev pub decimal_of : List ℕ → Option ℕ
decimal_of s = if is_decimal s && nat_le (spelled_after 0 s) 65535 then Some (spelled_after 0 s) else None
