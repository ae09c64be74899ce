-- The line of `check`: how many items of each kind were read, and how many of other kinds were passed over.
use Rattle.std.specs.Prelude.{ℕ, List, ◌++◌, length, codes}
use Rattle.std.specs.Fmt.{decimal}
use Rattle.mesh_policy.specs.declared.bundle.Bundle.{Bundle}

abbrev pub count_text : List ℕ → ℕ → List ℕ
count_text name count = codes " " ++ name ++ codes " " ++ decimal count

-- one part behind another, from left to right
infixl 6 ◌▹◌
abbrev pub ◌▹◌ : List ℕ → List ℕ → List ℕ
front ▹ part = front ++ part

unfoldable pub counts_text : Bundle → List ℕ
counts_text bundle =
    codes "accepted:"
    ▹ count_text (codes "pods") (length bundle.pods)
    ▹ count_text (codes "services") (length bundle.services)
    ▹ count_text (codes "authorization") (length bundle.authorization)
    ▹ count_text (codes "peer") (length bundle.peers)
    ▹ count_text (codes "request") (length bundle.requests)
    ▹ count_text (codes "mesh") bundle.mesh_items
    ▹ count_text (codes "other") bundle.others
