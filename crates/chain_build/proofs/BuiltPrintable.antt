-- The listener that is built of a workload within its limits can be written.
use Rattle.std.proofs.Common.{◌≡◌, ℕ, ◌+◌, ◌≤◌, Bool, true, false, ◌||◌, nat_lt, IsTrue, List, [], ◌∷◌, ◌++◌, length, map, cond}
use Rattle.std.proofs.Common.{Result, Ok, Err, IfOk, refl, ◌∙◌, ap, arith, length-append}
use Rattle.std.proofs.lemmas.List.{length-map, map-append}
use Rattle.std.proofs.Math.Dec.{eqb-suc-zero}
use Rattle.std.proofs.lemmas.Bool.{and_from, le-leb, le-ltb, ltb-false, or_from, or_parts}
use Rattle.std.proofs.lemmas.List.Folds.{list_all-append, list_all-map}
use Rattle.std.specs.List.{list_all}
use Rattle.mesh_policy.proofs.Listed.{list_all-weaker}
use Rattle.mesh_policy.specs.Sizes.{Size, is_over_limit, policy_size, size_of, sum_of}
use Rattle.mesh_policy.specs.Workload.{Workload}
use Rattle.mesh_policy.specs.declared.jwt.JwtRule.{JwtRule}
use Rattle.mesh_policy.specs.declared.policy.Action.{Action}
use Rattle.mesh_policy.specs.declared.policy.Action.TheVariants.{Allow, Deny, Audit}
use Rattle.mesh_policy.specs.declared.policy.AuthorizationPolicy.{AuthorizationPolicy}
use Rattle.mesh_policy.specs.declared.service.Protocol.{Protocol}
use Rattle.mesh_policy.specs.declared.service.Protocol.TheVariants.{Http, Tcp}
use Rattle.mesh_select.specs.Workload.{KeepsLimits}
use Rattle.mesh_text.specs.declared.memory.Memory.{Memory}
use Rattle.envoy_types.specs.FilterForms.{body_is_printable, filters_are_printable, http_filter_is_printable}
use Rattle.envoy_types.specs.FilterForms.{network_filter_is_printable}
use Rattle.envoy_types.specs.ListenerForms.{is_printable}
use Rattle.envoy_types.specs.RbacForms.{rbac_is_printable}
use Rattle.envoy_types.specs.declared.access.Rbac.{Rbac}
use Rattle.envoy_types.specs.declared.chains.HttpFilter.TheVariants as http
use Rattle.envoy_types.specs.declared.chains.Listener.{Listener}
use Rattle.envoy_types.specs.declared.chains.NetworkFilter.TheVariants as network
use Rattle.authz_gen.specs.Laws.{FiltersArePrintable}
use Rattle.authz_gen.specs.Policies.{ArePoliciesOf, rbac_on}
use Rattle.chain_build.specs.Filters.{body_on, rbac_filters, rbac_for}
use Rattle.chain_build.specs.Listener.{built, chains_of}
use Rattle.chain_build.proofs.Enforced.{enforced}
use Rattle.chain_build.proofs.Printable.{all-count, all-distinct, all-fit}

-- ---- the policies of each action keep the limits that all keep together

-- within the limits of a workload
record IsWithin (size : Size) : Type 0 where
  pub values : size.values ≤ 2048
  pub entries : size.entries ≤ 1024
  pub bytes : size.bytes ≤ 65536

is-within : (size : Size) → is_over_limit size ≡ false → IsWithin size
is-within size h =
    let parts = or_parts (nat_lt 2048 size.values || nat_lt 1024 size.entries) (nat_lt 65536 size.bytes) h in
    let counts = or_parts (nat_lt 2048 size.values) (nat_lt 1024 size.entries) parts.0 in
    record {
      values = ltb-false 2048 size.values counts.0;
      entries = ltb-false 1024 size.entries counts.1;
      bytes = ltb-false 65536 size.bytes parts.1;
    }

not-over : (size : Size) → IsWithin size → is_over_limit size ≡ false
not-over size h = or_from _ _
    (or_from _ _ (le-ltb 2048 size.values h.values) (le-ltb 1024 size.entries h.entries)) (le-ltb 65536 size.bytes h.bytes)

abbrev size : List AuthorizationPolicy → Size
size policies = sum_of (map policy_size policies)

-- a count of sizes, which adds up
module _ (count : Size → ℕ) (none : count (sum_of []) ≡ 0)
    (one : (part : Size) (parts : List Size) → count (sum_of (part ∷ parts)) ≡ count part + count (sum_of parts)) where
  sum-append : (xs ys : List Size) → count (sum_of (xs ++ ys)) ≡ count (sum_of xs) + count (sum_of ys)
  sum-append [] ys = omega (arith, none)
  sum-append (x ∷ xs) ys = let rest = sum-append xs ys in omega (arith, rest, one x (xs ++ ys), one x xs)

  size-append : (xs ys : List AuthorizationPolicy) → count (size (xs ++ ys)) ≡ count (size xs) + count (size ys)
  size-append xs ys =
      ap (λ ss. count (sum_of ss)) (map-append policy_size xs ys) ∙ sum-append (map policy_size xs) (map policy_size ys)

within-parts : (xs ys : List AuthorizationPolicy) → IsWithin (size (xs ++ ys)) → IsWithin (size xs) × IsWithin (size ys)
within-parts xs ys h =
    let values : (size (xs ++ ys)).values ≡ (size xs).values + (size ys).values =
    size-append (λ s. s.values) refl (λ x xs. refl) xs ys in
    let entries : (size (xs ++ ys)).entries ≡ (size xs).entries + (size ys).entries =
    size-append (λ s. s.entries) refl (λ x xs. refl) xs ys in
    let bytes : (size (xs ++ ys)).bytes ≡ (size xs).bytes + (size ys).bytes =
    size-append (λ s. s.bytes) refl (λ x xs. refl) xs ys in (
      record {
        values = omega (arith, h.values, values);
        entries = omega (arith, h.entries, entries);
        bytes = omega (arith, h.bytes, bytes);
      },
      record {
        values = omega (arith, h.values, values);
        entries = omega (arith, h.entries, entries);
        bytes = omega (arith, h.bytes, bytes);
      },
    )

-- with rules of tokens or without them
without-tokens : (policies : List AuthorizationPolicy) (rules : List JwtRule) → IsWithin (size_of policies rules) → IsWithin (size policies)
unfolding size_of
without-tokens policies rules h =
    record { values = omega (arith, h.values); entries = omega (arith, h.entries); bytes = omega (arith, h.bytes) }

no-tokens : (policies : List AuthorizationPolicy) → IsWithin (size policies) → is_over_limit (size_of policies []) ≡ false
unfolding size_of
no-tokens policies h = not-over (size_of policies [])
    (record { values = omega (arith, h.values); entries = omega (arith, h.entries); bytes = omega (arith, h.bytes) })

-- ---- filters

abbrev Fits : List Rbac → Type 0
Fits filters = (length filters ≤ 1) × (list_all rbac_is_printable filters ≡ true)

filter-list : FiltersArePrintable → (protocol : Protocol) (action : Action) (policies : List AuthorizationPolicy)
    → ArePoliciesOf action policies → IsWithin (size policies) → Fits (rbac_for protocol action policies)
filter-list printable protocol action [] h within = (omega arith, refl)
filter-list printable protocol action (p ∷ ps) h within =
    let made = rbac_on protocol action (p ∷ ps) in
    let one : rbac_for protocol action (p ∷ ps) ≡ made ∷ [] = ap (λ b. cond b [] (made ∷ [])) (eqb-suc-zero (length ps)) in
    let count : length (rbac_for protocol action (p ∷ ps)) ≡ 1 = ap length one in
    let fits = printable protocol action (p ∷ ps) h (no-tokens (p ∷ ps) within) in
    (omega (arith, count), ap (list_all rbac_is_printable) one ∙ and_from _ _ fits refl)

-- one list of them for each action
joined-fit : (xs ys zs : List Rbac) → Fits xs → Fits ys → Fits zs
    → (length (xs ++ ys ++ zs) ≤ 3) × (list_all rbac_is_printable (xs ++ ys ++ zs) ≡ true)
joined-fit xs ys zs hx hy hz = (
  omega (arith, hx.0, hy.0, hz.0, length-append (xs ++ ys) zs, length-append xs ys),
  list_all-append rbac_is_printable (xs ++ ys) zs
      ∙ and_from _ _ (list_all-append rbac_is_printable xs ys ∙ and_from _ _ hx.1 hy.1) hz.1,
)

rbacs-fit : FiltersArePrintable → (workload : Workload) → KeepsLimits workload → (protocol : Protocol)
    → (length (rbac_filters protocol workload) ≤ 3) × (list_all rbac_is_printable (rbac_filters protocol workload) ≡ true)
unfolding rbac_filters
rbacs-fit printable workload limits protocol =
    let policies = workload.allow ++ workload.deny ++ workload.audit ++ workload.custom in
    let all = without-tokens policies workload.jwt_rules (is-within (size_of policies workload.jwt_rules) limits.size) in
    let three = (within-parts (workload.allow ++ workload.deny ++ workload.audit) workload.custom all).0 in
    let two = within-parts (workload.allow ++ workload.deny) workload.audit three in
    let one = within-parts workload.allow workload.deny two.0 in
    joined-fit (rbac_for protocol Audit workload.audit) (rbac_for protocol Deny workload.deny) (rbac_for protocol Allow workload.allow)
    (filter-list printable protocol Audit workload.audit (enforced workload limits Audit (λ e. cc)) two.1)
    (filter-list printable protocol Deny workload.deny (enforced workload limits Deny (λ e. cc)) one.1)
    (filter-list printable protocol Allow workload.allow (enforced workload limits Allow (λ e. cc)) one.0)

-- ---- what a chain does

-- the filters of a chain, as a list of filters has each
filters-fit : {F : Type 0} (kind : Rbac → F) (test : F → Bool) → ((rbac : Rbac) → test (kind rbac) ≡ rbac_is_printable rbac)
    → (filters : List Rbac) → (length filters ≤ 3) × (list_all rbac_is_printable filters ≡ true)
    → filters_are_printable test (map kind filters) ≡ true
filters-fit kind test same filters fit =
    let few : length filters ≤ 3 = fit.0 in
    let count : length (map kind filters) + 1 ≤ 8192 = omega (arith, few, length-map filters kind) in
    and_from _ _ (le-leb (length (map kind filters) + 1) 8192 count)
    (list_all-map test kind filters ∙ list_all-weaker rbac_is_printable (λ rbac. test (kind rbac)) (λ rbac h. same rbac ∙ h) filters fit.1)

bodies-fit : FiltersArePrintable → (workload : Workload) → KeepsLimits workload → (protocol : Protocol) (cluster : List ℕ)
    → body_is_printable (body_on protocol workload cluster) ≡ true
unfolding body_is_printable body_on network_filter_is_printable http_filter_is_printable
bodies-fit printable workload limits Tcp cluster =
    filters-fit network.Rbac network_filter_is_printable (λ rbac. refl) (rbac_filters Tcp workload)
    (rbacs-fit printable workload limits Tcp)
bodies-fit printable workload limits Http cluster =
    filters-fit http.Rbac http_filter_is_printable (λ rbac. refl) (rbac_filters Http workload)
    (rbacs-fit printable workload limits Http)

-- ---- the listener

pub built-printable : FiltersArePrintable → (workload : Workload) → KeepsLimits workload → is_printable (built workload) ≡ true
unfolding is_printable built chains_of
built-printable printable workload limits =
    let count = all-count workload workload.other_mode workload.ports limits.ports in
    and_from _ _ (and_from _ _ (and_from _ _ refl (and_from _ _ (le-leb 1 _ count.0) (le-leb _ 2048 (omega (arith, count.1)))))
    (all-fit workload (bodies-fit printable workload limits) workload.other_mode workload.ports limits.numbers))
    (all-distinct workload workload.other_mode workload.ports limits.rising)

-- where there was memory
pub can-be-written : FiltersArePrintable → (workload : Workload) → KeepsLimits workload
    → (r : Result Listener Memory) → IfOk r (λ listener. listener ≡ built workload) → IfOk r (λ listener. IsTrue (is_printable listener))
can-be-written printable workload limits (Ok listener) e = ap is_printable e ∙ built-printable printable workload limits
can-be-written printable workload limits (Err e) shape = tt
