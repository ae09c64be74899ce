-- Where one list of bytes stands in another: as an equation, and as a test that computes.
use Rattle.std.specs.Prelude.{◌≡◌, ℕ, Bool, true, false, ◌&&◌, ◌||◌, ◌==◌, List, [], ◌∷◌, ◌++◌}
use Rattle.std.specs.Str.{bytes_eq}

-- the whole begins with it
abbrev pub IsPrefix : List ℕ → List ℕ → Type 0
IsPrefix front whole = (rest : List ℕ) × (whole ≡ front ++ rest)

-- the whole ends with it
abbrev pub IsSuffix : List ℕ → List ℕ → Type 0
IsSuffix end whole = (start : List ℕ) × (whole ≡ start ++ end)

-- it stands somewhere in the whole
abbrev pub IsPart : List ℕ → List ℕ → Type 0
IsPart part whole = (start : List ℕ) × (rest : List ℕ) × (whole ≡ start ++ (part ++ rest))

-- byte by byte like the front of the whole
abbrev pub is_prefix : List ℕ → List ℕ → Bool
is_prefix [] whole = true
is_prefix (c ∷ cs) [] = false
is_prefix (c ∷ cs) (d ∷ ds) = c == d && is_prefix cs ds

-- the whole, or a suffix of what follows its first byte
abbrev pub is_suffix : List ℕ → List ℕ → Bool
is_suffix end [] = bytes_eq end []
is_suffix end (c ∷ cs) = bytes_eq end (c ∷ cs) || is_suffix end cs

-- a prefix of the whole, or a part of what follows its first byte
abbrev pub is_part : List ℕ → List ℕ → Bool
is_part part [] = is_prefix part []
is_part part (c ∷ cs) = is_prefix part (c ∷ cs) || is_part part cs
