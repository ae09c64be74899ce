-- Places in a document (RFC 6901): the steps from the whole down to a value.
use Rattle.std.specs.Prelude.{ℕ, List, [], ◌∷◌, ◌++◌}
use Rattle.mesh_doc.specs.declared.place.Step.{Step}
use Rattle.mesh_doc.specs.declared.place.Step.TheVariants as step

-- the whole has none
abbrev pub Steps : Type 0
Steps = List Step

-- the field of an object
abbrev pub at_key : List ℕ → Steps → Steps
at_key name at = at ++ step.Key name ∷ []

-- the entry of a list, counted from 0
abbrev pub at_index : ℕ → Steps → Steps
at_index index at = at ++ step.Index index ∷ []
