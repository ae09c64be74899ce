-- What the rules of the worked traces hold for.
use Rattle.std.proofs.Common.{◌≡◌, ℕ, List, [], ◌∷◌, Some, refl}
use Rattle.mesh_policy.specs.Attributes.{Seen}
use Rattle.mesh_policy.specs.declared.case.Case.{Case}
use Rattle.mesh_tree.specs.Tree.{tree_of}
use Rattle.mesh_tree.specs.declared.tree.Node.TheVariants.{Any}
use Rattle.mesh_tree.proofs.JudgeLemmas.{holds-any}
use Rattle.envoy_types.specs.Access.{Rules, effective}
use Rattle.envoy_types.specs.Permission as permission
use Rattle.envoy_types.specs.Principal as principal
use Rattle.envoy_types.specs.declared.access.RbacAction.{RbacAction}
use Rattle.envoy_types.specs.declared.permission.PermissionLeaf.{PermissionLeaf}
use Rattle.envoy_types.specs.declared.principal.PrincipalLeaf.{PrincipalLeaf}

-- rules of one policy, for everything
abbrev pub rules_named : List ℕ → RbacAction → Rules
rules_named name action =
    record { action = action; policies = record { name = name; permissions = tree_of Any ∷ []; principals = tree_of Any ∷ [] } ∷ [] }

pub effective-named : (name : List ℕ) (action : RbacAction) (case : Case) (seen : Seen)
    → effective (rules_named name action) case seen ≡ Some 0
unfolding effective
effective-named name action case seen =
    rw (
      holds-any (λ (leaf : PermissionLeaf). permission.leaf_holds leaf case seen),
      holds-any (λ (leaf : PrincipalLeaf). principal.leaf_holds leaf case seen),
    ) refl
