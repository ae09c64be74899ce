-- Which words are a command.
use Rattle.std.specs.Prelude.{ℕ, List, [], ◌∷◌, Option, Some, None, option_map, codes, if◌then◌else◌}
use Rattle.std.specs.Str.{bytes_eq}
use Rattle.mesh_cli.specs.PodName.{pod_name_of}
use Rattle.mesh_cli.specs.declared.words.Command.{Command}
use Rattle.mesh_cli.specs.declared.words.Command.TheVariants.{Translate, Check}

-- `translate NAMESPACE/NAME`
abbrev pub translate_of : List ℕ → List ℕ → Option Command
translate_of word path = if bytes_eq word (codes "translate") then option_map Translate (pod_name_of path) else None

-- `check`
abbrev pub check_of : List ℕ → Option Command
check_of word = if bytes_eq word (codes "check") then Some Check else None

abbrev pub command_of : List (List ℕ) → Option Command
command_of [] = None
command_of (word ∷ []) = check_of word
command_of (word ∷ path ∷ []) = translate_of word path
command_of (word ∷ path ∷ more ∷ words) = None
