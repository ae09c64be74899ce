-- Names of the domain name system in lower case: labels of RFC 1035, section 2.3.1, that may begin with a
-- digit (RFC 1123, section 2.1), and names made of several.
use Rattle.std.specs.Prelude.{ℕ, ◌-◌, Bool, ◌&&◌, ◌||◌, not, ◌==◌, nat_le, List, length, slice_index}
use Rattle.std.specs.List.{list_all, slice_split}
use Rattle.mesh_text.specs.Bytes.{dash, dot, lower_a, lower_z}
use Rattle.mesh_text.specs.Number.{is_digit}

-- let-dig-hyp of RFC 1035 in lower case: a letter, a digit or '-'
abbrev pub is_name_byte : ℕ → Bool
is_name_byte c = (nat_le lower_a c && nat_le c lower_z) || is_digit c || (c == dash)

-- the first byte of a text that is not empty
abbrev pub first_byte : List ℕ → ℕ
first_byte s = slice_index s 0

-- the last byte of a text that is not empty
abbrev pub last_byte : List ℕ → ℕ
last_byte s = slice_index s (length s - 1)

-- one or more name bytes, neither the first nor the last of them '-'
abbrev pub is_piece : List ℕ → Bool
is_piece s = nat_le 1 (length s) && list_all is_name_byte s && not (first_byte s == dash) && not (last_byte s == dash)

-- a piece of at most 63 bytes
abbrev pub is_label : List ℕ → Bool
is_label s = is_piece s && nat_le (length s) 63

-- at most 253 bytes: one or more pieces joined by '.'
abbrev pub is_subdomain : List ℕ → Bool
is_subdomain s = nat_le (length s) 253 && list_all is_piece (slice_split (λ c. c == dot) s)
