-- What the rules of the worked listeners hold for.
use Rattle.std.proofs.Common.{◌≡◌, ℕ, Bool, true, false, Option, Some, None, cond, ◌&&◌, ◌||◌, refl}
use Rattle.mesh_policy.specs.Attributes.{Seen}
use Rattle.mesh_policy.specs.declared.case.Case.{Case}
use Rattle.mesh_tree.specs.Tree.{tree_of}
use Rattle.mesh_tree.specs.declared.tree.Node.TheVariants.{Leaf}
use Rattle.mesh_tree.proofs.JudgeLemmas.{holds-any, holds-leaf}
use Rattle.envoy_types.specs.Access.{effective}
use Rattle.envoy_types.specs.Permission as permission
use Rattle.envoy_types.specs.Principal as principal
use Rattle.envoy_types.specs.WorkedListeners.{rules_for, rules_for_all}
use Rattle.envoy_types.specs.declared.access.RbacAction.{RbacAction}
use Rattle.envoy_types.specs.declared.permission.PermissionLeaf.{PermissionLeaf}
use Rattle.envoy_types.specs.declared.principal.PrincipalLeaf.{PrincipalLeaf}

-- the one policy holds where its principal does
abbrev pub first_if : Bool → Option ℕ
first_if holds = cond holds (Some 0) None

pub effective-all : (a : RbacAction) (case : Case) (seen : Seen) → effective (rules_for_all a) case seen ≡ Some 0
unfolding effective
effective-all a case seen =
    rw (holds-any (λ (leaf : PermissionLeaf). permission.leaf_holds leaf case seen), holds-any (λ (leaf : PrincipalLeaf). principal.leaf_holds leaf case seen)) refl

first_of : (b : Bool) → cond (true && (b || false)) (Some 0) None ≡ first_if b
first_of true = refl
first_of false = refl

pub effective-leaf : (a : RbacAction) (leaf : PrincipalLeaf) (case : Case) (seen : Seen)
    → effective (rules_for a (tree_of (Leaf leaf))) case seen ≡ first_if (principal.leaf_holds leaf case seen)
unfolding effective
effective-leaf a leaf case seen =
    rw (holds-any (λ (l : PermissionLeaf). permission.leaf_holds l case seen), holds-leaf (λ (l : PrincipalLeaf). principal.leaf_holds l case seen) leaf)
    (first_of (principal.leaf_holds leaf case seen))
