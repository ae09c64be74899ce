-- Of the table of kinds, what says whether a listener is built for an item.
use Rattle.std.proofs.Common.{◌≡◌, ℕ, Bool, true, false, cond, List, Option, Some, None, refl}
use Rattle.std.specs.Prelude.{codes}
use Rattle.std.specs.Str.{bytes_eq}
use Rattle.serde_json.specs.Data.{Data}
use Rattle.mesh_doc.specs.Faults.{none}
use Rattle.mesh_doc.specs.Places.{Steps}
use Rattle.manifest_json.specs.KindTable.{is_policy_version, kind_of, policy_kind}
use Rattle.manifest_json.specs.declared.key.Kind.{Kind}
use Rattle.manifest_json.specs.declared.key.Kind.TheVariants as kind
use Rattle.kept_back.specs.Items.{kind_kept}

pub of_policy : (version word : List ℕ) → is_policy_version version ≡ true → kind_of version word ≡ policy_kind word
unfolding kind_of
of_policy version word policy = rw policy refl

-- a Pod, a Service, or an item that is passed over
of_core : (is_pod is_service : Bool) (d : Data) (at : Steps)
    → kind_kept (cond is_pod (Some kind.Pod) (cond is_service (Some kind.Service) (Some kind.Other))) d at ≡ none
of_core true is_service d at = refl
of_core false true d at = refl
of_core false false d at = refl

-- a MeshConfig, an item that is passed over, or none that is known
of_profile : (is_profile is_mesh is_known : Bool) (d : Data) (at : Steps)
    → kind_kept (cond is_profile (cond is_mesh (Some kind.Mesh) None) (cond is_known None (Some kind.Other))) d at ≡ none
of_profile true true is_known d at = refl
of_profile true false is_known d at = refl
of_profile false is_mesh true d at = refl
of_profile false is_mesh false d at = refl

pub of_other : (version word : List ℕ) (d : Data) (at : Steps) → is_policy_version version ≡ false
    → kind_kept (kind_of version word) d at ≡ none
unfolding kind_of
of_other version word d at policy = by_core (bytes_eq version (codes "v1")) refl where
  by_core : (is_core : Bool) → bytes_eq version (codes "v1") ≡ is_core → kind_kept (kind_of version word) d at ≡ none
  by_core true core = rw (policy, core) (of_core _ _ d at)
  by_core false core = rw (policy, core) (of_profile _ _ _ d at)
