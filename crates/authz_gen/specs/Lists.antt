-- Lists of match values as matcher trees (Istio reference, "Authorization Policy": a field holds where one of its values
-- matches, a `not` field where none does, and a field without values always).
use Rattle.std.specs.Prelude.{◌==◌, List, [], ◌∷◌, ◌++◌, length, if◌then◌else◌}
use Rattle.mesh_tree.specs.Joined.{and_of, or_of}
use Rattle.mesh_tree.specs.Tree.{tree_of}
use Rattle.mesh_tree.specs.declared.tree.Node.TheVariants as Node
use Rattle.mesh_tree.specs.declared.tree.Tree.{Tree}

-- none of these holds
abbrev pub none_of : {L : Type 0} → List (Tree L) → Tree L
none_of trees = tree_of (Node.Not (or_of trees))

-- these joined, where there are any; what is empty counts as not written
abbrev pub if_any : {L : Type 0} → (List (Tree L) → Tree L) → List (Tree L) → List (Tree L)
if_any join trees = if length trees == 0 then [] else join trees ∷ []

-- what a field asks by the trees of its values, and the `not` field beside it by those of its own
abbrev pub field_of : {L : Type 0} → (values not_values : List (Tree L)) → List (Tree L)
field_of values not_values = if_any or_of values ++ if_any none_of not_values

-- all of these hold, and anything does where there are none
abbrev pub all_of : {L : Type 0} → List (Tree L) → Tree L
all_of trees = if length trees == 0 then tree_of Node.Any else and_of trees
