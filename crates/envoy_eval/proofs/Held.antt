-- The first policy that holds, by its place in the list that is looked through.
use Rattle.std.proofs.Common.{◌≡◌, ℕ, List, Option, ◌∙◌, ap}
use Rattle.std.specs.List.{position_from}
use Rattle.mesh_policy.specs.Attributes.{Seen}
use Rattle.mesh_policy.specs.declared.case.Case.{Case}
use Rattle.envoy_types.specs.Access.{Rules, effective, policy_holds}
use Rattle.envoy_types.specs.declared.access.RbacPolicy.{RbacPolicy}
use Rattle.envoy_eval.proofs.Positions.{position-first}

pub effective-by : (rules : Rules) (case : Case) (seen : Seen) (policies : List RbacPolicy) (position : Option ℕ)
    → policies ≡ rules.policies
    → position ≡ position_from (λ policy. policy_holds policy case seen) 0 policies → position ≡ effective rules case seen
unfolding effective
effective-by rules case seen policies position same e =
    e ∙ ap (λ (ps : List RbacPolicy). position_from (λ policy. policy_holds policy case seen) 0 ps) same
    ∙ position-first (λ policy. policy_holds policy case seen) rules.policies
