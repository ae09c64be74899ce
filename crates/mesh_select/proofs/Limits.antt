-- A workload keeps the limits where no reason speaks against it.
use Rattle.std.proofs.Common.{◌≡◌, ℕ, ◌+◌, Bool, cond, ◌||◌, ◌++◌, List, [], ◌∷◌, map, filter, nat_lt, refl, sym, ◌∙◌, ap, ap₂, arith}
use Rattle.mesh_policy.specs.Lists.{total}
use Rattle.mesh_policy.specs.Sizes.{Size, is_over_limit, jwt_rule_size, policy_size, size_of, sum_of}
use Rattle.mesh_policy.specs.Workload.{is_action}
use Rattle.mesh_policy.specs.declared.jwt.JwtRule.{JwtRule}
use Rattle.mesh_policy.specs.declared.policy.Action.{Action}
use Rattle.mesh_policy.specs.declared.policy.Action.TheVariants.{Allow, Deny, Audit, Custom}
use Rattle.mesh_policy.specs.declared.policy.AuthorizationPolicy.{AuthorizationPolicy}

total-append : {A : Type 0} (n : A → ℕ) (xs ys : List A) → total n (xs ++ ys) ≡ total n xs + total n ys
total-append n [] ys = omega arith
total-append n (x ∷ xs) ys = let inner = total-append n xs ys in omega (arith, inner)

-- the policies of the four actions, one action after another
abbrev by_action : List AuthorizationPolicy → List AuthorizationPolicy
by_action ps =
    filter (λ p. is_action Allow p.action) ps ++ filter (λ p. is_action Deny p.action) ps
    ++ filter (λ p. is_action Audit p.action) ps ++ filter (λ p. is_action Custom p.action) ps

module _ (n : AuthorizationPolicy → ℕ) where
  abbrev of_action : Action → List AuthorizationPolicy → ℕ
  of_action action ps = total n (filter (λ p. is_action action p.action) ps)

  -- with one more policy of an action
  abbrev more : AuthorizationPolicy → List AuthorizationPolicy → Action → Action → ℕ
  more p ps wanted action =
      total n (cond (is_action wanted action) (p ∷ filter (λ q. is_action wanted q.action) ps) (filter (λ q. is_action wanted q.action) ps))

  four-actions : (ps : List AuthorizationPolicy)
      → of_action Allow ps + of_action Deny ps + of_action Audit ps + of_action Custom ps ≡ total n ps
  four-actions [] = refl
  four-actions (p ∷ ps) = at p.action (four-actions ps) where
    at : (action : Action) → of_action Allow ps + of_action Deny ps + of_action Audit ps + of_action Custom ps ≡ total n ps
        → more p ps Allow action + more p ps Deny action + more p ps Audit action + more p ps Custom action ≡ n p + total n ps
    at Allow inner = omega (arith, inner)
    at Deny inner = omega (arith, inner)
    at Audit inner = omega (arith, inner)
    at Custom inner = omega (arith, inner)

  total-by_action : (ps : List AuthorizationPolicy) → total n (by_action ps) ≡ total n ps
  total-by_action ps =
      let a = total-append n (filter (λ p. is_action Allow p.action) ps ++ filter (λ p. is_action Deny p.action) ps
      ++ filter (λ p. is_action Audit p.action) ps) (filter (λ p. is_action Custom p.action) ps) in
      let b = total-append n (filter (λ p. is_action Allow p.action) ps ++ filter (λ p. is_action Deny p.action) ps)
      (filter (λ p. is_action Audit p.action) ps) in
      let c = total-append n (filter (λ p. is_action Allow p.action) ps) (filter (λ p. is_action Deny p.action) ps) in
      omega (arith, a, b, c, four-actions ps)

sum-values : {A : Type 0} (f : A → Size) (xs : List A) → (sum_of (map f xs)).values ≡ total (λ x. (f x).values) xs
sum-values f [] = refl
sum-values f (x ∷ xs) = ap (λ r. (f x).values + r) (sum-values f xs)

sum-entries : {A : Type 0} (f : A → Size) (xs : List A) → (sum_of (map f xs)).entries ≡ total (λ x. (f x).entries) xs
sum-entries f [] = refl
sum-entries f (x ∷ xs) = ap (λ r. (f x).entries + r) (sum-entries f xs)

sum-bytes : {A : Type 0} (f : A → Size) (xs : List A) → (sum_of (map f xs)).bytes ≡ total (λ x. (f x).bytes) xs
sum-bytes f [] = refl
sum-bytes f (x ∷ xs) = ap (λ r. (f x).bytes + r) (sum-bytes f xs)

-- one after another they hold what they hold together
pub size-by_action : (ps : List AuthorizationPolicy) (rs : List JwtRule)
    → is_over_limit (size_of (by_action ps) rs) ≡ is_over_limit (size_of ps rs)
unfolding size_of
size-by_action ps rs =
    ap₂ (λ (a b : Bool). a || b)
    (ap₂ (λ (a b : Bool). a || b)
    (ap (λ v. nat_lt 2048 (v + ((sum_of (map jwt_rule_size rs)).values + 0)))
    (sum-values policy_size (by_action ps) ∙ total-by_action (λ p. (policy_size p).values) ps ∙ sym (sum-values policy_size ps)))
    (ap (λ v. nat_lt 1024 (v + ((sum_of (map jwt_rule_size rs)).entries + 0)))
    (sum-entries policy_size (by_action ps) ∙ total-by_action (λ p. (policy_size p).entries) ps ∙ sym (sum-entries policy_size ps))))
    (ap (λ v. nat_lt 65536 (v + ((sum_of (map jwt_rule_size rs)).bytes + 0)))
    (sum-bytes policy_size (by_action ps) ∙ total-by_action (λ p. (policy_size p).bytes) ps ∙ sym (sum-bytes policy_size ps)))
