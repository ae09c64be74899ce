-- A field that was read is written.
use Rattle.std.proofs.Common.{◌≡◌, ℕ, List, Option, Some, None, is_some, option_map, refl}
use Rattle.serde_json.specs.Data.{Data}
use Rattle.serde_json.specs.Find.{get}
use Rattle.mesh_doc.specs.Fields.{optional_written_in}
use Rattle.envoy_types.specs.SmallForms.{is_written}

mapped : {A : Type 0} (value : Data → A) (o : Option Data) → is_some (option_map value o) ≡ is_some o
mapped value None = refl
mapped value (Some d) = refl

pub is_some_written : {A : Type 0} (name : List ℕ) (value : Data → A) (d : Data)
    → is_some (optional_written_in name value d) ≡ is_written name d
unfolding optional_written_in
is_some_written name value d = mapped value (get name d)
