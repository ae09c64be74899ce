-- Tokens of HTTP (RFC 9110, section 5.6.2).
use Rattle.std.specs.Prelude.{ℕ, Bool, ◌&&◌, ◌||◌, ◌==◌, nat_le, List, length, codes}
use Rattle.std.specs.List.{list_all, list_any}
use Rattle.mesh_text.specs.Bytes.{lower_a, lower_z, upper_a, upper_z}
use Rattle.mesh_text.specs.Number.{is_digit}

-- tchar: a letter, a digit or one of these marks
abbrev pub is_token_byte : ℕ → Bool
is_token_byte c =
    (nat_le lower_a c && nat_le c lower_z) || (nat_le upper_a c && nat_le c upper_z) || is_digit c
    || list_any (λ m. m == c) (codes "!#$%&'*+-.^_`|~")

-- token = 1*tchar
abbrev pub is_token : List ℕ → Bool
is_token s = nat_le 1 (length s) && list_all is_token_byte s
