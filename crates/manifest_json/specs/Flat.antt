-- Lists that a list of parts makes.
use Rattle.std.specs.Prelude.{List, [], ◌∷◌, ◌++◌, Option, Some, None}

-- those of the entries that are there, in their order
abbrev pub kept : {A : Type 0} → List (Option A) → List A
kept [] = []
kept (None ∷ os) = kept os
kept (Some a ∷ os) = a ∷ kept os

-- the lists one behind the other
abbrev pub joined : {A : Type 0} → List (List A) → List A
joined [] = []
joined (l ∷ ls) = l ++ joined ls
