-- A rule holds where the policy of its name does: no other rule has that name.
use Rattle.std.proofs.Common.{◌≡◌, ℕ, ◌<◌, Bool, true, false, ◌&&◌, ◌⊎◌, inl, inr, All, AllPairs, List, get_or, length}
use Rattle.std.proofs.Common.{refl, sym, ◌∙◌, ap, arith}
use Rattle.std.proofs.lemmas.Bool.{and_left, and_right, cases_order, false_from_ne_true}
use Rattle.std.proofs.lemmas.Fmt.{decimal_injective}
use Rattle.std.proofs.lemmas.List.Folds.{list_any_none}
use Rattle.std.proofs.lemmas.List.FromFn.{get_or-enumerate_from, length-enumerate_from}
use Rattle.std.proofs.lemmas.Slice.Eq.{bytes_eq-Decides}
use Rattle.std.specs.List.{enumerate_from, flat_map, list_any}
use Rattle.std.specs.Str.{bytes_eq}
use Rattle.mesh_policy.specs.AcceptedBundle.{same_policy}
use Rattle.mesh_policy.specs.AcceptedRules.{AcceptedRule}
use Rattle.mesh_policy.specs.Attributes.{Seen}
use Rattle.mesh_policy.specs.Explanation.{rule_name}
use Rattle.mesh_policy.specs.Verdicts.{holds_on}
use Rattle.mesh_policy.specs.declared.case.Case.{Case}
use Rattle.mesh_policy.specs.declared.policy.Action.{Action}
use Rattle.mesh_policy.specs.declared.policy.AuthorizationPolicy.{AuthorizationPolicy}
use Rattle.mesh_policy.specs.declared.policy.Rule.{Rule}
use Rattle.mesh_policy.specs.declared.service.Protocol.{Protocol}
use Rattle.mesh_policy.proofs.AcceptedLemmas.{same_names-flips}
use Rattle.envoy_types.specs.Access.{policy_holds}
use Rattle.envoy_types.specs.declared.access.RbacPolicy.{RbacPolicy}
use Rattle.peer_name.specs.Holds.{HasNamedPeer}
use Rattle.authz_gen.specs.Policies.{AreToldOn, ArePoliciesOf, IsJudgedOn, has_policy, name_before, rule_policies, rule_policy}
use Rattle.mesh_policy.specs.Lists.{in_order}
use Rattle.authz_gen.proofs.Apart.{IsNamed, all-named, same, same_names}
use Rattle.authz_gen.proofs.InOrder.{any-in_order}
use Rattle.authz_gen.proofs.ListAny.{All-enumerate, any-flat_map, any-kept, any-one}
use Rattle.authz_gen.proofs.RuleHolds.{rule-decides}
use Rattle.authz_gen.proofs.Told.{RuleIsToldOn, rules-told}

-- ---- names that differ

module _ (action : Action) where
  -- of two indices
  other-index : (p : AuthorizationPolicy) (i j : ℕ) → IsNamed action p → i < 4096 → j < 4096 → (i ≡ j → ⊥)
      → bytes_eq (rule_name p i) (rule_name p j) ≡ false
  other-index p i j h low high differ =
      false_from_ne_true _ (λ e.
      differ (decimal_injective i j (omega arith) (omega arith)
      (same action p p i j h h ((bytes_eq-Decides (rule_name p i) (rule_name p j)).0 e)).2))

  -- of two policies
  other-policy : (p q : AuthorizationPolicy) (i j : ℕ) → IsNamed action p → IsNamed action q → same_policy p q ≡ false
      → bytes_eq (rule_name p i) (rule_name q j) ≡ false
  other-policy p q i j hp hq differ =
      false_from_ne_true _ (λ e.
      let parts = same action p q i j hp hq ((bytes_eq-Decides (rule_name p i) (rule_name q j)).0 e) in
      let both : false ≡ true = sym differ ∙ same_names action p q parts.0 parts.1 in
      cc)

-- ---- a policy holds where the one of that name does

module _ (protocol : Protocol) (case : Case) (seen : Seen) where
  -- a policy of that name that holds
  abbrev is_own : List ℕ → RbacPolicy → Bool
  is_own name p = bytes_eq p.name name && policy_holds p case seen

  unlike-name : (name : List ℕ) (policy : AuthorizationPolicy) (e : ℕ × Rule) → bytes_eq (rule_name policy e.0) name ≡ false
      → (has_policy protocol policy.action e && is_own name (rule_policy protocol policy e)) ≡ false
  unfolding rule_policy
  unlike-name name policy e differ =
      and_right (has_policy protocol policy.action e) _ (and_left _ (policy_holds (rule_policy protocol policy e) case seen) differ)

  -- none of another policy
  none-of-other : (action : Action) (p q : AuthorizationPolicy) (i : ℕ) → IsNamed action p → IsNamed action q → same_policy q p ≡ false
      → list_any (is_own (rule_name p i)) (rule_policies protocol q) ≡ false
  none-of-other action p q i hp hq differ =
      any-kept (is_own (rule_name p i)) (rule_policy protocol q) (has_policy protocol q.action) (enumerate_from 0 q.rules)
      ∙ list_any_none (λ e. has_policy protocol q.action e && is_own (rule_name p i) (rule_policy protocol q e)) (enumerate_from 0 q.rules)
      (λ k d within. let e = get_or (enumerate_from 0 q.rules) k d in
      unlike-name (rule_name p i) q e (other-policy action q p e.0 i hq hp differ))

  -- and of the policy itself the one of that index alone
  index-at : (rules : List Rule) (k : ℕ) (d : ℕ × Rule) → k < length (enumerate_from 0 rules)
      → (get_or (enumerate_from 0 rules) k d).0 ≡ k
  index-at rules k d within =
      ap (λ (e : ℕ × Rule). e.0) (get_or-enumerate_from 0 rules k d (omega (arith, within, length-enumerate_from 0 rules))) ∙ omega arith

  own-of-policy : (action : Action) (p : AuthorizationPolicy) (k : ℕ) (d : ℕ × Rule) → IsNamed action p
      → k < length (enumerate_from 0 p.rules)
      → list_any (is_own (rule_name p (get_or (enumerate_from 0 p.rules) k d).0)) (rule_policies protocol p)
      ≡ (has_policy protocol p.action (get_or (enumerate_from 0 p.rules) k d)
      && policy_holds (rule_policy protocol p (get_or (enumerate_from 0 p.rules) k d)) case seen)
  unfolding rule_policy
  own-of-policy action p k d h within =
      let entries = enumerate_from 0 p.rules in
      let own = get_or entries k d in
      let few : (j : ℕ) → j < length entries → (get_or entries j d).0 < 4096 =
      λ j inside. omega (arith, index-at p.rules j d inside, inside, length-enumerate_from 0 p.rules, h.few) in
      let others : (j : ℕ) → j < length entries → (j ≡ k → ⊥)
      → (has_policy protocol p.action (get_or entries j d)
      && is_own (rule_name p own.0) (rule_policy protocol p (get_or entries j d))) ≡ false =
      λ j inside other. unlike-name (rule_name p own.0) p (get_or entries j d)
      (other-index action p (get_or entries j d).0 own.0 h (few j inside) (few k within)
      (λ e. other (sym (index-at p.rules j d inside) ∙ e ∙ index-at p.rules k d within))) in
      any-kept (is_own (rule_name p own.0)) (rule_policy protocol p) (has_policy protocol p.action) entries
      ∙ any-one (λ e. has_policy protocol p.action e && is_own (rule_name p own.0) (rule_policy protocol p e)) entries k d within others
      ∙ ap (λ b. has_policy protocol p.action own && (b && policy_holds (rule_policy protocol p own) case seen))
      ((bytes_eq-Decides (rule_name p own.0) (rule_name p own.0)).1 refl)

-- ---- among all policies

others-apart : (policies : List AuthorizationPolicy) → AllPairs (λ p q. same_policy p q ≡ false) policies
    → (j n : ℕ) (d : AuthorizationPolicy) → j < length policies → n < length policies → (j ≡ n → ⊥) → (j ≡ n) ⊎ ((j < n) ⊎ (n < j))
    → same_policy (get_or policies j d) (get_or policies n d) ≡ false
others-apart policies apart j n d inside within other (inl e) = absurd (other e)
others-apart policies apart j n d inside within other (inr (inl below)) = apart j n d below within
others-apart policies apart j n d inside within other (inr (inr above)) =
    let p = get_or policies j d in
    let q = get_or policies n d in
    same_names-flips p.namespace p.name q.namespace q.name ∙ apart n j d above inside

pub holds-as-own : (protocol : Protocol) (action : Action) (policies : List AuthorizationPolicy) → ArePoliciesOf action policies
    → AreToldOn protocol policies → (case : Case) (seen : Seen) → HasNamedPeer case → IsJudgedOn protocol case seen
    → (n : ℕ) (d : AuthorizationPolicy) → n < length policies
    → (k : ℕ) (e : ℕ × Rule) → k < length (enumerate_from 0 (get_or policies n d).rules)
    → holds_on protocol case seen (get_or policies n d).action (get_or (enumerate_from 0 (get_or policies n d).rules) k e).1
    ≡ list_any (is_own protocol case seen (rule_name (get_or policies n d) (get_or (enumerate_from 0 (get_or policies n d).rules) k e).0))
    (in_order name_before (flat_map (rule_policies protocol) policies))
holds-as-own protocol action policies h told case seen named judged n d within k e inside =
    let policy = get_or policies n d in
    let entries = enumerate_from 0 policy.rules in
    let entry = get_or entries k e in
    let test = is_own protocol case seen (rule_name policy entry.0) in
    let names = all-named action policies h in
    let each : All (λ (x : ℕ × Rule). AcceptedRule x.1) entries =
    All-enumerate AcceptedRule 0 policy.rules (h.accepted.each n d within).rules.each in
    let each_told : All (λ (x : ℕ × Rule). RuleIsToldOn protocol x.1) entries =
    All-enumerate (RuleIsToldOn protocol) 0 policy.rules (rules-told protocol policies told n d within) in
    sym (any-in_order name_before test (flat_map (rule_policies protocol) policies)
    ∙ any-flat_map test (rule_policies protocol) policies
    ∙ any-one (λ q. list_any test (rule_policies protocol q)) policies n d within
    (λ j there other. none-of-other protocol case seen action policy (get_or policies j d) entry.0 (names n d within) (names j d there)
    (others-apart policies h.accepted.each_once j n d there within other (cases_order j n)))
    ∙ own-of-policy protocol case seen action policy k e (names n d within) inside
    ∙ rule-decides case seen named protocol judged policy policy.action entry (each k e inside) (each_told k e inside))
