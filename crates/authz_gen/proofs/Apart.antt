-- No two policies of a filter have one name, so they stand in strict byte order.
use Rattle.std.proofs.Common.{◌≡◌, ℕ, ◌+◌, ◌<◌, ◌≤◌, Bool, true, false, not, All, AllPairs, List, [], ◌∷◌, ◌++◌, cond, decimal, filter}
use Rattle.std.proofs.Common.{get_or, length, map, suc, refl, sym, ◌∙◌, ap, arith}
use Rattle.std.proofs.lemmas.Bool.{and_from, and_parts}
use Rattle.std.proofs.lemmas.Fmt.{decimal_injective}
use Rattle.std.proofs.lemmas.List.Elements.{All-head, All-tail}
use Rattle.std.proofs.lemmas.List.Folds.{list_all-append}
use Rattle.std.proofs.lemmas.Slice.Eq.{bytes_eq-Decides}
use Rattle.std.specs.List.{enumerate_from, flat_map, list_all}
use Rattle.std.specs.Str.{bytes_eq}
use Rattle.mesh_policy.specs.AcceptedBundle.{same_policy}
use Rattle.mesh_policy.specs.Explanation.{action_front, rule_name}
use Rattle.mesh_policy.specs.declared.policy.Action.{Action}
use Rattle.mesh_policy.specs.declared.policy.AuthorizationPolicy.{AuthorizationPolicy}
use Rattle.mesh_policy.specs.declared.policy.Rule.{Rule}
use Rattle.mesh_policy.specs.declared.service.Protocol.{Protocol}
use Rattle.envoy_types.specs.Order.{names_rise}
use Rattle.envoy_types.specs.declared.access.RbacPolicy.{RbacPolicy}
use Rattle.authz_gen.specs.Policies.{ArePoliciesOf, has_policy, policies_on, rule_policies, rule_policy}
use Rattle.authz_gen.proofs.InOrder.{are_apart, is_apart, rises-in_order}
use Rattle.authz_gen.proofs.Names.{is_plain, named, plain-label, plain-subdomain, same-parts}

abbrev name_of : RbacPolicy → List ℕ
name_of policy = policy.name

abbrev Apart : RbacPolicy → RbacPolicy → Bool
Apart = is_apart name_of

-- ---- without some of the entries

all-filter : {A : Type 0} (test : RbacPolicy → Bool) (make : A → RbacPolicy) (keep : A → Bool) (xs : List A)
    → list_all test (map make xs) ≡ true → list_all test (map make (filter keep xs)) ≡ true
all-filter test make keep [] h = refl
all-filter test make keep (x ∷ xs) h =
    let parts = and_parts (test (make x)) (list_all test (map make xs)) h in
    at (keep x) parts.0 (all-filter test make keep xs parts.1) where
      at : (b : Bool) → test (make x) ≡ true → list_all test (map make (filter keep xs)) ≡ true
          → list_all test (map make (cond b (x ∷ filter keep xs) (filter keep xs))) ≡ true
      at true first rest = and_from _ _ first rest
      at false first rest = rest

apart-filter : {A : Type 0} (make : A → RbacPolicy) (keep : A → Bool) (xs : List A)
    → are_apart name_of (map make xs) ≡ true → are_apart name_of (map make (filter keep xs)) ≡ true
apart-filter make keep [] h = refl
apart-filter make keep (x ∷ xs) h =
    let parts = and_parts (list_all (Apart (make x)) (map make xs)) (are_apart name_of (map make xs)) h in
    at (keep x) (all-filter (Apart (make x)) make keep xs parts.0) (apart-filter make keep xs parts.1) where
      at : (b : Bool) → list_all (Apart (make x)) (map make (filter keep xs)) ≡ true
          → are_apart name_of (map make (filter keep xs)) ≡ true
          → are_apart name_of (map make (cond b (x ∷ filter keep xs) (filter keep xs))) ≡ true
      at true first rest = and_from _ _ first rest
      at false first rest = rest

-- ---- names

-- what the names of a policy's rules need
pub record IsNamed (action : Action) (policy : AuthorizationPolicy) : Type 0 where
  pub action_is : policy.action ≡ action
  pub namespace : is_plain policy.namespace ≡ true
  pub name : is_plain policy.name ≡ true
  pub few : length policy.rules ≤ 2048

pub all-named : (action : Action) (policies : List AuthorizationPolicy) → ArePoliciesOf action policies → All (IsNamed action) policies
all-named action policies h = λ k d within. record {
  action_is = h.actions k d within;
  namespace = plain-label (get_or policies k d).namespace (h.accepted.each k d within).namespace;
  name = plain-subdomain (get_or policies k d).name (h.accepted.each k d within).name;
  few = (h.accepted.each k d within).rules.few;
}

unequal : (a b : List ℕ) → (a ≡ b → ⊥) → not (bytes_eq a b) ≡ true
unequal a b h = at (bytes_eq a b) refl where
  at : (c : Bool) → bytes_eq a b ≡ c → not c ≡ true
  at true e = absurd (h ((bytes_eq-Decides a b).0 e))
  at false e = refl

name-is : (action : Action) (policy : AuthorizationPolicy) (index : ℕ) → policy.action ≡ action
    → rule_name policy index ≡ named (action_front action) policy.namespace policy.name (decimal index)
name-is action policy index e = ap (λ a. named (action_front a) policy.namespace policy.name (decimal index)) e

module _ (action : Action) where
  -- the parts of two names that are the same
  pub same : (p q : AuthorizationPolicy) (i j : ℕ) → IsNamed action p → IsNamed action q → rule_name p i ≡ rule_name q j
      → (p.namespace ≡ q.namespace) × (p.name ≡ q.name) × (decimal i ≡ decimal j)
  same p q i j hp hq e =
      same-parts (action_front action) p.namespace p.name (decimal i) q.namespace q.name (decimal j)
      hp.namespace hp.name hq.namespace hq.name (sym (name-is action p i hp.action_is) ∙ e ∙ name-is action q j hq.action_is)

  pub same_names : (p q : AuthorizationPolicy) → p.namespace ≡ q.namespace → p.name ≡ q.name → same_policy p q ≡ true
  same_names p q e f = and_from _ _ ((bytes_eq-Decides _ _).1 e) ((bytes_eq-Decides _ _).1 f)

module _ (protocol : Protocol) (action : Action) where
  -- ---- rules of one policy

  index-apart : (p : AuthorizationPolicy) (i j : ℕ) (r s : Rule) → IsNamed action p → i < j → j < 4096
      → Apart (rule_policy protocol p (i, r)) (rule_policy protocol p (j, s)) ≡ true
  unfolding rule_policy
  index-apart p i j r s h below few =
      unequal (rule_name p i) (rule_name p j)
      (λ e. let number : i ≡ j = decimal_injective i j (omega arith) (omega arith) (same action p p i j h h e).2 in omega (arith, number))

  later-apart : (p : AuthorizationPolicy) (i : ℕ) (r : Rule) (k : ℕ) (rs : List Rule) → IsNamed action p → i < k → k + length rs ≤ 4096
      → list_all (Apart (rule_policy protocol p (i, r))) (map (rule_policy protocol p) (enumerate_from k rs)) ≡ true
  later-apart p i r k [] h below few = refl
  later-apart p i r k (s ∷ rs) h below few =
      and_from _ _ (index-apart p i k r s h below (omega arith)) (later-apart p i r (k + 1) rs h (omega arith) (omega arith))

  own-apart : (p : AuthorizationPolicy) (k : ℕ) (rs : List Rule) → IsNamed action p → k + length rs ≤ 4096
      → are_apart name_of (map (rule_policy protocol p) (enumerate_from k rs)) ≡ true
  own-apart p k [] h few = refl
  own-apart p k (r ∷ rs) h few = and_from _ _ (later-apart p k r (k + 1) rs h (omega arith) (omega arith))
      (own-apart p (k + 1) rs h (omega arith))

  -- ---- rules of two policies

  policy-apart : (p q : AuthorizationPolicy) (i j : ℕ) (r s : Rule) → IsNamed action p → IsNamed action q → same_policy p q ≡ false
      → Apart (rule_policy protocol p (i, r)) (rule_policy protocol q (j, s)) ≡ true
  unfolding rule_policy
  policy-apart p q i j r s hp hq other =
      unequal (rule_name p i) (rule_name q j)
      (λ e. let parts = same action p q i j hp hq e in let both : false ≡ true = sym other ∙ same_names action p q parts.0 parts.1 in cc)

  rules-apart : (p q : AuthorizationPolicy) (i : ℕ) (r : Rule) (k : ℕ) (rs : List Rule) → IsNamed action p → IsNamed action q
      → same_policy p q ≡ false
      → list_all (Apart (rule_policy protocol p (i, r))) (map (rule_policy protocol q) (enumerate_from k rs)) ≡ true
  rules-apart p q i r k [] hp hq other = refl
  rules-apart p q i r k (s ∷ rs) hp hq other =
      and_from _ _ (policy-apart p q i k r s hp hq other) (rules-apart p q i r (k + 1) rs hp hq other)

  abbrev IsOther : AuthorizationPolicy → AuthorizationPolicy → Type 0
  IsOther p q = same_policy p q ≡ false

  all-apart : (p : AuthorizationPolicy) (i : ℕ) (r : Rule) (qs : List AuthorizationPolicy) → IsNamed action p → All (IsNamed action) qs
      → All (IsOther p) qs → list_all (Apart (rule_policy protocol p (i, r))) (flat_map (rule_policies protocol) qs) ≡ true
  all-apart p i r [] hp hq other = refl
  all-apart p i r (q ∷ qs) hp hq other =
      list_all-append (Apart (rule_policy protocol p (i, r))) (rule_policies protocol q) (flat_map (rule_policies protocol) qs)
      ∙ and_from _ _
      (all-filter (Apart (rule_policy protocol p (i, r))) (rule_policy protocol q) (has_policy protocol q.action) (enumerate_from 0 q.rules)
      (rules-apart p q i r 0 q.rules hp (All-head (IsNamed action) q qs hq) (All-head (IsOther p) q qs other)))
      (all-apart p i r qs hp (All-tail (IsNamed action) q qs hq) (All-tail (IsOther p) q qs other))

  -- ---- all rules

  joined : (p : AuthorizationPolicy) (entries : List (ℕ × Rule)) (others : List RbacPolicy)
      → ((entry : ℕ × Rule) → list_all (Apart (rule_policy protocol p entry)) others ≡ true)
      → are_apart name_of (map (rule_policy protocol p) entries) ≡ true → are_apart name_of others ≡ true
      → are_apart name_of (map (rule_policy protocol p) entries ++ others) ≡ true
  joined p [] others each own rest = rest
  joined p (entry ∷ entries) others each own rest =
      let first = rule_policy protocol p entry in
      let later = map (rule_policy protocol p) entries in
      let parts = and_parts (list_all (Apart first) later) (are_apart name_of later) own in
      and_from _ _ (list_all-append (Apart first) later others ∙ and_from _ _ parts.0 (each entry))
      (joined p entries others each parts.1 rest)

  pub names-apart : (ps : List AuthorizationPolicy) → All (IsNamed action) ps → AllPairs IsOther ps
      → are_apart name_of (flat_map (rule_policies protocol) ps) ≡ true
  names-apart [] h other = refl
  names-apart (p ∷ ps) h other =
      let here = All-head (IsNamed action) p ps h in
      let later = All-tail (IsNamed action) p ps h in
      let others : All (IsOther p) ps = λ k d within. other 0 (suc k) d (omega arith) (omega arith) in
      let pairs : AllPairs IsOther ps = λ i j d before within. other (suc i) (suc j) d (omega arith) (omega arith) in
      joined p (filter (has_policy protocol p.action) (enumerate_from 0 p.rules)) (flat_map (rule_policies protocol) ps)
      (λ entry. all-apart p entry.0 entry.1 ps here later others)
      (apart-filter (rule_policy protocol p) (has_policy protocol p.action) (enumerate_from 0 p.rules)
      (own-apart p 0 p.rules here (omega (arith, here.few))))
      (names-apart ps later pairs)

pub names-rise : (protocol : Protocol) (action : Action) (policies : List AuthorizationPolicy) → ArePoliciesOf action policies
    → names_rise (λ policy. policy.name) (policies_on protocol policies) ≡ true
unfolding policies_on
names-rise protocol action policies h =
    rises-in_order name_of (flat_map (rule_policies protocol) policies)
    (names-apart protocol action policies (all-named action policies h) h.accepted.each_once)
