-- The workload of a Pod that no reason speaks against keeps the limits.
use Rattle.std.proofs.Common.{◌≡◌, ℕ, ◌≤◌, Bool, true, false, cond, ◌&&◌, ◌<◌, ◌++◌, All, AllPairs, IsTrue, List, length, map, filter}
use Rattle.std.proofs.Common.{bytes_eq, get_or, is_some, Option, Some, None, nat_lt, refl, sym, ◌∙◌, ap₂, subst, arith}
use Rattle.std.proofs.lemmas.Bool.Decides.{nat_tests}
use Rattle.std.proofs.lemmas.List.{length-map}
use Rattle.std.proofs.lemmas.List.Elements.{All-filter, All-map, All-weaker, filter_passes}
use Rattle.std.proofs.lemmas.List.Kept.{AllPairs-filter}
use Rattle.std.specs.Option.{option_and_then, option_or}
use Rattle.mesh_policy.specs.AcceptedBundle.{AcceptedBundle, AcceptedItems, AcceptedPod, AcceptedProvider, same_policy}
use Rattle.mesh_policy.specs.AcceptedRules.{AcceptedPolicy}
use Rattle.mesh_policy.specs.Applying.{applies, authorization_of, comes_before}
use Rattle.mesh_policy.specs.Modes.{workload_policy}
use Rattle.mesh_policy.specs.Ports.{given, listed, ports_of}
use Rattle.mesh_policy.specs.SelectFault as fault
use Rattle.mesh_policy.specs.Sizes.{is_over_limit, size_of}
use Rattle.mesh_policy.specs.Values.{belongs}
use Rattle.mesh_policy.specs.Workload.{ListedPort, is_action, jwt_rules_of, policies_of, port_of, provider_named, with_action, workload_of}
use Rattle.mesh_policy.specs.declared.bundle.Bundle.{Bundle}
use Rattle.mesh_policy.specs.declared.pod.Pod.{Pod}
use Rattle.mesh_policy.specs.declared.policy.Action.{Action}
use Rattle.mesh_policy.specs.declared.policy.Action.TheVariants.{Allow, Deny, Audit, Custom}
use Rattle.mesh_policy.specs.declared.policy.AuthorizationPolicy.{AuthorizationPolicy}
use Rattle.mesh_policy.specs.declared.provider.Provider.{Provider}
use Rattle.mesh_select.specs.Workload.{KeepsLimits}
use Rattle.mesh_select.proofs.Apart.{pairs-in_order, pairs-map}
use Rattle.mesh_select.proofs.Authorizer.{NamesOne, found-name, with-name, without}
use Rattle.mesh_select.proofs.Bounds.{policies-accepted, rules-accepted}
use Rattle.mesh_select.proofs.InRange.{IsPort, found-accepted, listed-ports}
use Rattle.mesh_select.proofs.Judged.{none-first, none-later}
use Rattle.mesh_select.proofs.Limits.{size-by_action}
use Rattle.mesh_select.proofs.Lookups.{bytes_eq-flips}
use Rattle.mesh_select.proofs.Rising.{ascending-rises}

-- a reason that holds where a test does, and doesn't
untested : {A : Type 0} (b : Bool) (x : A) → cond b (Some x) None ≡ None → b ≡ false
untested true x h = cc
untested false x h = refl

-- two policies of one namespace have different names
abbrev Apart : AuthorizationPolicy → AuthorizationPolicy → Type 0
Apart p q = same_policy p q ≡ false

turned : (p q : AuthorizationPolicy) → Apart p q → Apart q p
turned p q h = ap₂ (λ (a b : Bool). a && b) (bytes_eq-flips q.namespace p.namespace) (bytes_eq-flips q.name p.name) ∙ h

same-action : (wanted action : Action) → is_action wanted action ≡ true → action ≡ wanted
same-action Allow Allow h = refl
same-action Deny Deny h = refl
same-action Audit Audit h = refl
same-action Custom Custom h = refl
same-action _ _ h = cc

-- an accepted policy of action CUSTOM names an authorizer
custom-names : (policy : AuthorizationPolicy) → policy.action ≡ Custom → AcceptedPolicy policy → is_some policy.provider ≡ true
custom-names policy same accepted = subst (λ (action : Action). IsTrue (belongs action policy.provider)) same accepted.provider_rule

module _ (bundle : Bundle) (pod : Pod) (accepted : AcceptedBundle bundle) where
  of-action : (action : Action) → AcceptedItems AcceptedPolicy same_policy (policies_of action bundle pod)
  of-action action = record {
    each =
        All-filter (λ policy. is_action action policy.action) AcceptedPolicy (authorization_of bundle pod)
        (policies-accepted bundle pod accepted);
    each_once =
        AllPairs-filter Apart (λ policy. is_action action policy.action) (authorization_of bundle pod)
        (pairs-in_order Apart turned (λ p q. comes_before (p.namespace, p.name) (q.namespace, q.name))
        (filter (λ p. applies bundle.mesh.root pod p.namespace p.labels) bundle.authorization)
        (AllPairs-filter Apart (λ p. applies bundle.mesh.root pod p.namespace p.labels)
        bundle.authorization accepted.authorization.each_once));
  }

  has-action : (action : Action) → All (λ policy. policy.action ≡ action) (policies_of action bundle pod)
  has-action action =
      All-weaker (λ policy. is_action action policy.action ≡ true) (λ policy. policy.action ≡ action)
      (λ policy. same-action action policy.action) (policies_of action bundle pod)
      (filter_passes (λ policy. is_action action policy.action) (authorization_of bundle pod))

  has-actions : (action : Action) → All (λ policy. policy.action ≡ action) (with_action (workload_of bundle pod) action)
  unfolding workload_of
  has-actions Allow = has-action Allow
  has-actions Deny = has-action Deny
  has-actions Audit = has-action Audit
  has-actions Custom = has-action Custom

  listed-rises : AllPairs (λ m n. m < n) (listed bundle pod)
  unfolding listed
  listed-rises = ascending-rises (map (λ entry. entry.number) (given bundle pod) ++ ports_of (workload_policy bundle pod))

  provider-accepted : (name : Option (List ℕ)) (provider : Provider) → option_and_then (provider_named bundle) name ≡ Some provider
      → AcceptedProvider provider
  provider-accepted None provider e = cc
  provider-accepted (Some name) provider e =
      found-accepted AcceptedProvider (λ provider. bytes_eq provider.name name) bundle.mesh.providers
      accepted.mesh.providers.each provider e

  few-listed : fault.number_fault bundle pod ≡ None → length (listed bundle pod) ≤ 16
  few-listed h =
      let few : nat_lt 16 (length (listed bundle pod)) ≡ false = untested (nat_lt 16 (length (listed bundle pod))) _ h in
      grind (arith, nat_tests)

  within-limit : fault.size_fault bundle pod ≡ None
      → is_over_limit (size_of (authorization_of bundle pod) (jwt_rules_of bundle pod)) ≡ false
  within-limit h = untested (is_over_limit (size_of (authorization_of bundle pod) (jwt_rules_of bundle pod))) _ h

  names-one : fault.unknown_fault bundle pod ≡ None → fault.second_fault bundle pod ≡ None
      → NamesOne (λ policy. policy.provider) (policies_of Custom bundle pod) (provider_named bundle)
  names-one known one = record {
    written = λ k d within. custom-names (get_or (policies_of Custom bundle pod) k d)
        (has-action Custom k d within) ((of-action Custom).each k d within);
    known = known;
    one = one;
  }

  -- of six reasons the two that speak of authorizers
  no-unknown : fault.fault_for bundle (Some pod) ≡ None → fault.unknown_fault bundle pod ≡ None
  no-unknown h = none-first (fault.unknown_fault bundle pod) _ (none-later (fault.port_fault bundle pod) _ h)

  no-second : fault.fault_for bundle (Some pod) ≡ None → fault.second_fault bundle pod ≡ None
  no-second h =
      none-first (fault.second_fault bundle pod) _
      (none-later (fault.unknown_fault bundle pod) _ (none-later (fault.port_fault bundle pod) _ h))

  -- and the last two
  last-two : fault.fault_for bundle (Some pod) ≡ None
      → option_or (fault.number_fault bundle pod) (option_or (fault.size_fault bundle pod) None) ≡ None
  last-two h =
      none-later (fault.header_fault bundle pod) _ (none-later (fault.second_fault bundle pod) _
      (none-later (fault.unknown_fault bundle pod) _ (none-later (fault.port_fault bundle pod) _ h)))

  no-number : fault.fault_for bundle (Some pod) ≡ None → fault.number_fault bundle pod ≡ None
  no-number h = none-first (fault.number_fault bundle pod) (option_or (fault.size_fault bundle pod) None) (last-two h)

  no-size : fault.fault_for bundle (Some pod) ≡ None → fault.size_fault bundle pod ≡ None
  no-size h = none-first (fault.size_fault bundle pod) None (none-later (fault.number_fault bundle pod) _ (last-two h))

  pub keeps-limits : AcceptedPod pod → fault.fault_for bundle (Some pod) ≡ None → KeepsLimits (workload_of bundle pod)
  unfolding workload_of
  keeps-limits container h = record {
    ports = subst (λ n. n ≤ 16) (sym (length-map (listed bundle pod) (port_of bundle pod))) (few-listed (no-number h));
    numbers = All-map (λ (port : ListedPort). IsPort port.number) (port_of bundle pod) (listed bundle pod)
        (listed-ports pod container bundle accepted);
    rising = pairs-map (λ (port later : ListedPort). port.number < later.number) (port_of bundle pod) (listed bundle pod) listed-rises;
    size = size-by_action (authorization_of bundle pod) (jwt_rules_of bundle pod) ∙ within-limit (no-size h);
    actions = has-actions;
    allow = of-action Allow;
    deny = of-action Deny;
    audit = of-action Audit;
    custom = of-action Custom;
    jwt_rules = rules-accepted bundle pod accepted;
    provider = λ provider e. provider-accepted _ provider e;
    named =
        with-name (λ policy. policy.provider) (policies_of Custom bundle pod) (provider_named bundle)
        (names-one (no-unknown h) (no-second h)) (found-name bundle.mesh.providers);
    unnamed =
        without (λ policy. policy.provider) (policies_of Custom bundle pod) (provider_named bundle)
        (names-one (no-unknown h) (no-second h));
  }
