-- String forms of match values (Istio reference, "Authorization Policy": exact, prefix, suffix and presence
-- match; hosts compare without regard to ASCII case).
use Rattle.std.specs.Prelude.{◌≡◌, ◌≢◌, ℕ, ◌-◌, ◌==◌, Bool, not, List, [], length, codes, drop, slice_index, take, if◌then◌else◌}
use Rattle.std.specs.Str.{bytes_eq, str_to_ascii_lowercase}
use Rattle.mesh_text.specs.Bytes.{star}
use Rattle.mesh_text.specs.Parts.{is_prefix, is_suffix, IsPrefix, IsSuffix}
use Rattle.mesh_policy.specs.declared.pattern.Pattern.{Pattern}
use Rattle.mesh_policy.specs.declared.pattern.Pattern.TheVariants.{Exact, Prefix, Suffix, Present}

-- suffix match: "*abc"
abbrev pub begins_with_star : List ℕ → Bool
begins_with_star s = slice_index s 0 == star

-- prefix match: "abc*"
abbrev pub ends_with_star : List ℕ → Bool
ends_with_star s = slice_index s (length s - 1) == star

-- of a value without a star in front
abbrev pub unstarred_pattern_of : List ℕ → Pattern
unstarred_pattern_of s = if ends_with_star s then Prefix (take (length s - 1) s) else Exact s

-- presence match: "*"; else a star in front wins over one at the end, and any other star is a plain character
abbrev pub pattern_of : List ℕ → Pattern
pattern_of s =
    if bytes_eq s (codes "*") then Present
    else (if begins_with_star s then Suffix (drop 1 s) else unstarred_pattern_of s)

-- every value that is not empty is read as such a form
abbrev pub HasNoEmptyText : Pattern → Type 0
HasNoEmptyText (Exact v) = v ≢ []
HasNoEmptyText (Prefix v) = v ≢ []
HasNoEmptyText (Suffix v) = v ≢ []
HasNoEmptyText Present = Unit {0}

-- the text itself; a text that the value begins, or ends; any text that is not empty
abbrev pub PatternHolds : Pattern → List ℕ → Type 0
PatternHolds (Exact v) t = t ≡ v
PatternHolds (Prefix v) t = IsPrefix v t
PatternHolds (Suffix v) t = IsSuffix v t
PatternHolds Present t = t ≢ []

-- the same with `A` to `Z` read as `a` to `z` in the value
abbrev pub folded : Pattern → Pattern
folded (Exact v) = Exact (str_to_ascii_lowercase v)
folded (Prefix v) = Prefix (str_to_ascii_lowercase v)
folded (Suffix v) = Suffix (str_to_ascii_lowercase v)
folded Present = Present

-- and in the text, as hosts are compared
abbrev pub PatternHoldsFolded : Pattern → List ℕ → Type 0
PatternHoldsFolded p t = PatternHolds (folded p) (str_to_ascii_lowercase t)

-- PatternHolds as a test
abbrev pub pattern_holds : Pattern → List ℕ → Bool
pattern_holds (Exact v) t = bytes_eq v t
pattern_holds (Prefix v) t = is_prefix v t
pattern_holds (Suffix v) t = is_suffix v t
pattern_holds Present t = not (length t == 0)

-- PatternHoldsFolded as a test
abbrev pub pattern_holds_folded : Pattern → List ℕ → Bool
pattern_holds_folded p t = pattern_holds (folded p) (str_to_ascii_lowercase t)
