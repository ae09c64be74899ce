-- The order that the types keep: names that rise, and headers before parameters.
use Rattle.std.specs.Prelude.{ℕ, ◌==◌, Bool, true, not, ◌&&◌, List, [], ◌∷◌, length}
use Rattle.std.specs.List.{list_all}
use Rattle.std.specs.Ordering.{is_lt, nat_cmp}
use Rattle.std.specs.Cmp.Lexicographic.{slice_cmp}
use Rattle.mesh_policy.specs.AcceptedTokens.{has_headers_first}
use Rattle.mesh_policy.specs.declared.jwt.TokenPlace.{TokenPlace}

-- before it in byte order
abbrev pub is_below : List ℕ → List ℕ → Bool
is_below first second = is_lt (slice_cmp nat_cmp first second)

-- the entries stand in byte order of their names, which are distinct
abbrev pub names_rise : {A : Type 0} → (A → List ℕ) → List A → Bool
names_rise name [] = true
names_rise name (x ∷ xs) = list_all (λ later. is_below (name x) (name later)) xs && names_rise name xs

-- one place at least, and headers before parameters
abbrev pub are_places : List TokenPlace → Bool
are_places places = not (length places == 0) && has_headers_first places
