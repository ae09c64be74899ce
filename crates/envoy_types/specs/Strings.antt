-- When a string matcher holds for a text (Envoy v3 API reference, `type.matcher.v3.StringMatcher`).
use Rattle.std.specs.Prelude.{◌≡◌, ℕ, Bool, List, Option, Some, None, if◌then◌else◌}
use Rattle.std.specs.Str.{bytes_eq, str_to_ascii_lowercase}
use Rattle.mesh_text.specs.Parts.{is_part, is_prefix, is_suffix, IsPart, IsPrefix, IsSuffix}
use Rattle.mesh_policy.specs.declared.pattern.Pattern.{Pattern}
use Rattle.mesh_policy.specs.declared.pattern.Pattern.TheVariants as pattern
use Rattle.envoy_types.specs.declared.strings.MatchKind.{MatchKind}
use Rattle.envoy_types.specs.declared.strings.MatchKind.TheVariants.{Exact, Prefix, Suffix, Contains}
use Rattle.envoy_types.specs.declared.strings.StringMatcher.{StringMatcher}

-- The text is v; v and some text behind it; some text and v behind it; v with some text on either side. Each of these
-- texts may be empty.
abbrev pub MatchHolds : MatchKind → (v t : List ℕ) → Type 0
MatchHolds Exact v t = t ≡ v
MatchHolds Prefix v t = IsPrefix v t
MatchHolds Suffix v t = IsSuffix v t
MatchHolds Contains v t = IsPart v t

-- with `ignore_case`, `A` to `Z` are read as `a` to `z`
abbrev pub folded : (ignore_case : Bool) → List ℕ → List ℕ
folded ignore_case t = if ignore_case then str_to_ascii_lowercase t else t

-- the matcher holds for the text
abbrev pub StringHolds : StringMatcher → List ℕ → Type 0
StringHolds m t = MatchHolds m.kind (folded m.ignore_case m.text) (folded m.ignore_case t)

-- MatchHolds as a test
abbrev pub match_holds : MatchKind → (v t : List ℕ) → Bool
match_holds Exact v t = bytes_eq v t
match_holds Prefix v t = is_prefix v t
match_holds Suffix v t = is_suffix v t
match_holds Contains v t = is_part v t

-- StringHolds as a test
abbrev pub string_holds : StringMatcher → List ℕ → Bool
string_holds m t = match_holds m.kind (folded m.ignore_case m.text) (folded m.ignore_case t)

-- a matcher of these parts
abbrev pub matcher_with : MatchKind → List ℕ → Bool → StringMatcher
matcher_with kind text fold = record { kind = kind; text = text; ignore_case = fold }

-- the matcher of a string form of policies; presence has none
abbrev pub matcher_of : Pattern → (fold : Bool) → Option StringMatcher
matcher_of (pattern.Exact text) fold = Some (matcher_with Exact text fold)
matcher_of (pattern.Prefix text) fold = Some (matcher_with Prefix text fold)
matcher_of (pattern.Suffix text) fold = Some (matcher_with Suffix text fold)
matcher_of pattern.Present fold = None
