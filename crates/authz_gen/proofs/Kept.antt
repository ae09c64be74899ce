-- What is found and what the rules left give stay together what they were, whether a rule has a policy or not.
use Rattle.std.proofs.Common.{◌≡◌, ℕ, ◌+◌, ◌<◌, Bool, true, false, List, [], ◌∷◌, ◌++◌, cond, drop, filter, get_or, length, map}
use Rattle.std.proofs.Common.{append_assoc, arith, drop-cons, subst, suc, sym, ◌∙◌, ap, ap₂}
use Rattle.std.specs.List.{enumerate_from}
use Rattle.mesh_policy.specs.declared.policy.AuthorizationPolicy.{AuthorizationPolicy}
use Rattle.mesh_policy.specs.declared.policy.Rule.{Rule}
use Rattle.mesh_policy.specs.declared.service.Protocol.{Protocol}
use Rattle.envoy_types.specs.declared.access.RbacPolicy.{RbacPolicy}
use Rattle.authz_gen.specs.Policies.{has_policy, rule_policy}

-- what the rules from an index on give
abbrev pub rest_of : Protocol → AuthorizationPolicy → ℕ → List RbacPolicy
rest_of protocol policy k =
    map (rule_policy protocol policy) (filter (has_policy protocol policy.action) (enumerate_from k (drop k policy.rules)))

module _ (protocol : Protocol) (policy : AuthorizationPolicy) (i : ℕ) (rule : Rule) (within : i < length policy.rules)
    (is : rule ≡ get_or policy.rules i rule) where
  opened : (b : Bool) → has_policy protocol policy.action (i, rule) ≡ b
      → rest_of protocol policy i ≡ map (rule_policy protocol policy) (cond b ((i, rule) ∷ filter (has_policy protocol policy.action)
      (enumerate_from (i + 1) (drop (i + 1) policy.rules))) (filter (has_policy protocol policy.action)
      (enumerate_from (i + 1) (drop (i + 1) policy.rules))))
  opened b e =
      let keep = has_policy protocol policy.action in
      let later = filter keep (enumerate_from (i + 1) (drop (i + 1) policy.rules)) in
      let next : suc i ≡ i + 1 = omega arith in
      let first : drop i policy.rules ≡ rule ∷ drop (i + 1) policy.rules =
      drop-cons policy.rules i rule within ∙ ap₂ (λ r n. r ∷ drop n policy.rules) (sym is) next in
      ap (λ rs. map (rule_policy protocol policy) (filter keep (enumerate_from i rs))) first
      ∙ ap (λ c. map (rule_policy protocol policy) (cond c ((i, rule) ∷ later) later)) e

  passed : (found whole : List RbacPolicy) → has_policy protocol policy.action (i, rule) ≡ false
      → found ++ rest_of protocol policy i ≡ whole → found ++ rest_of protocol policy (i + 1) ≡ whole
  passed found whole e h = ap (λ l. found ++ l) (sym (opened false e)) ∙ h

  taken : (found whole : List RbacPolicy) → has_policy protocol policy.action (i, rule) ≡ true
      → found ++ rest_of protocol policy i ≡ whole
      → (found ++ rule_policy protocol policy (i, rule) ∷ []) ++ rest_of protocol policy (i + 1) ≡ whole
  taken found whole e h =
      append_assoc found (rule_policy protocol policy (i, rule) ∷ []) (rest_of protocol policy (i + 1))
      ∙ ap (λ l. found ++ l) (sym (opened true e)) ∙ h

module _ (protocol : Protocol) (policy : AuthorizationPolicy) (items : List Rule) (same : items ≡ policy.rules) (i : ℕ) (rule : Rule)
    (within : i < length items) (is : rule ≡ get_or items i rule) (has : Bool) (told : has ≡ has_policy protocol policy.action (i, rule))
    (found whole : List RbacPolicy) (before : found ++ rest_of protocol policy i ≡ whole) where
  inside : i < length policy.rules
  inside = subst (λ rs. i < length rs) same within

  item : rule ≡ get_or policy.rules i rule
  item = is ∙ ap (λ rs. get_or rs i rule) same

  pub passed-on : (new : List RbacPolicy) → has ≡ false → new ≡ found → new ++ rest_of protocol policy (i + 1) ≡ whole
  passed-on new off kept =
      ap (λ l. l ++ rest_of protocol policy (i + 1)) kept
      ∙ passed protocol policy i rule inside item found whole (sym told ∙ off) before

  pub taken-in : (new : List RbacPolicy) (made : RbacPolicy) → has ≡ true → made ≡ rule_policy protocol policy (i, rule)
      → new ≡ found ++ made ∷ [] → new ++ rest_of protocol policy (i + 1) ≡ whole
  taken-in new made on is_made grown =
      ap (λ l. l ++ rest_of protocol policy (i + 1)) (grown ∙ ap (λ p. found ++ p ∷ []) is_made)
      ∙ taken protocol policy i rule inside item found whole (sym told ∙ on) before
