-- Points in time as Kubernetes writes them: the form of RFC 3339, section 5.6, in UTC and without fractions.
use Rattle.std.specs.Prelude.{ℕ, ◌+◌, ◌-◌, ◌*◌, Bool, true, false, ◌&&◌, ◌==◌, nat_le, List, [], ◌∷◌, codes}
use Rattle.std.specs.Prelude.{slice_index, if◌then◌else◌}
use Rattle.mesh_text.specs.Bytes.{digit_zero}
use Rattle.mesh_text.specs.Number.{is_digit}

-- byte by byte like the form, in which '0' stands for any digit
abbrev pub fits_form : List ℕ → List ℕ → Bool
fits_form [] [] = true
fits_form [] (c ∷ cs) = false
fits_form (f ∷ fs) [] = false
fits_form (f ∷ fs) (c ∷ cs) = (if f == digit_zero then is_digit c else (c == f)) && fits_form fs cs

-- the two digits at this place, as a number
abbrev pub two_digits : List ℕ → ℕ → ℕ
two_digits s at = 10 * (slice_index s at - digit_zero) + (slice_index s (at + 1) - digit_zero)

-- the two digits at this place spell a number of this range
abbrev pub is_within : List ℕ → ℕ → ℕ → ℕ → Bool
is_within s at low high = nat_le low (two_digits s at) && nat_le (two_digits s at) high

-- date-month and date-mday, whatever the month's length
abbrev pub is_date : List ℕ → Bool
is_date s = is_within s 5 1 12 && is_within s 8 1 31

-- time-hour, time-minute and time-second, without a leap second
abbrev pub is_clock : List ℕ → Bool
is_clock s = is_within s 11 0 23 && is_within s 14 0 59 && is_within s 17 0 59

-- date-time of RFC 3339 in UTC
abbrev pub is_time : List ℕ → Bool
is_time s = fits_form (codes "0000-00-00T00:00:00Z") s && is_date s && is_clock s
