-- The least entry, found one entry after another.
use Rattle.std.specs.Prelude.{Bool, List, Option, Some, None, if◌then◌else◌}
use Rattle.std.specs.List.{fold}
use Rattle.mesh_policy.specs.Lists.{least}

-- the lesser of what was found and one more entry, and of two that tie what was found
abbrev pub lesser : {A : Type 0} → (A → A → Bool) → Option A → A → A
lesser before None x = x
lesser before (Some found) x = if before x found then x else found

-- the least of what was found and of more entries
abbrev pub least_from : {A : Type 0} → (A → A → Bool) → Option A → List A → Option A
least_from before None xs = least before xs
least_from before (Some found) xs = Some (fold (λ x y. if before y x then y else x) found xs)
