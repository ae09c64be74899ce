use Rattle.std.proofs.Common.{◌≡◌, List, [], ◌∷◌, map, refl, sym, ap, subst, arith}
use Rattle.mesh_policy.specs.Sizes.{Size, jwt_rule_size, policy_size, size_of, sum_of}
use Rattle.mesh_policy.specs.declared.jwt.JwtRule.{JwtRule}
use Rattle.mesh_policy.specs.declared.policy.AuthorizationPolicy.{AuthorizationPolicy}
use Rattle.mesh_select.specs.Sizes.{Adds, Fits}
use Rattle.mesh_select.proofs.sizes.counts_of.Goals as goal
use denote.Ref.{Bor}

rules-read : (rs : List (Bor JwtRule)) → map (λ r. jwt_rule_size r.now) rs ≡ map jwt_rule_size (map (λ r. r.now) rs)
rules-read [] = refl
rules-read (r ∷ rs) = ap (λ (sizes : List Size). jwt_rule_size r.now ∷ sizes) (rules-read rs)

-- the two parts that are counted
in-parts : (ps : List AuthorizationPolicy) (rs : List (Bor JwtRule))
    → size_of ps (map (λ r. r.now) rs) ≡ sum_of (sum_of (map policy_size ps) ∷ sum_of (map (λ r. jwt_rule_size r.now) rs) ∷ [])
unfolding size_of
in-parts ps rs = ap (λ (sizes : List Size). sum_of (sum_of (map policy_size ps) ∷ sum_of sizes ∷ [])) (sym (rules-read rs))

pub count_all-requires : goal.count_all-requires
count_all-requires c =
    let fits = subst (Fits (record { values = 0; entries = 0; bytes = 0 })) (in-parts c.args.policies.now c.args.rules.now) c.requires in
    record { values = omega arith; entries = omega arith; bytes = omega arith }

pub count_all-requires-2 : goal.count_all-requires-2
count_all-requires-2 c =
    let fits = subst (Fits (record { values = 0; entries = 0; bytes = 0 })) (in-parts c.args.policies.now c.args.rules.now) c.requires in
    record { values = omega arith; entries = omega arith; bytes = omega arith }

pub returns : goal.returns
returns c =
    subst (Adds (record { values = 0; entries = 0; bytes = 0 }) c.count_all-2.new.counts)
    (sym (in-parts c.args.policies.now c.args.rules.now))
    (record { values = omega arith; entries = omega arith; bytes = omega arith })
