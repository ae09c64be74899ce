-- What contracts see of a workload, and what is true of each.
use Rattle.std.specs.Prelude.{◌≡◌, ◌<◌, ◌≤◌, ◌++◌, false, All, AllPairs, IsTrue, [], Some, length}
use Rattle.std.specs.Option.{ForNone, ForSome}
use Rattle.mesh_policy.specs.AcceptedBundle.{AcceptedItems, AcceptedProvider, same_policy}
use Rattle.mesh_policy.specs.AcceptedRules.{AcceptedPolicy}
use Rattle.mesh_policy.specs.AcceptedTokens.{AcceptedJwtRule}
use Rattle.mesh_policy.specs.Sizes.{is_over_limit, size_of}
use Rattle.mesh_policy.specs.Values.{is_port}
use Rattle.mesh_policy.specs.Workload.{Workload, with_action}
use Rattle.mesh_policy.specs.declared.policy.Action.{Action}
use Rattle.mesh_select.specs.declared.workload.Workload.TheInside.{Inside}

-- all but the numbers of the listed ports, which stand in `ports` too
abbrev pub view_of : Inside → Workload
view_of w = record {
  ports = w.ports;
  other_mode = w.other_mode;
  allow = w.allow;
  deny = w.deny;
  audit = w.audit;
  custom = w.custom;
  jwt_rules = w.jwt_rules;
  provider = w.provider;
}

-- It keeps the limits, its ports are listed in order, its policies and rules are accepted, each policy under its action,
-- and the CUSTOM policies name its provider (Istio reference, Authorization Policy: `action`, `provider`).
pub record KeepsLimits (workload : Workload) : Type 0 where
  pub ports : length workload.ports ≤ 16
  -- from 1 to 65,535
  pub numbers : All (λ port. IsTrue (is_port port.number)) workload.ports
  -- each number is less than all later ones, so no two are the same
  pub rising : AllPairs (λ port later. port.number < later.number) workload.ports
  -- at most 2,048 values, 1,024 entries and 65,536 bytes
  pub size : is_over_limit (size_of (workload.allow ++ workload.deny ++ workload.audit ++ workload.custom) workload.jwt_rules) ≡ false
  -- the policies of an action have that action
  pub actions : (action : Action) → All (λ policy. policy.action ≡ action) (with_action workload action)
  -- no two policies of one action have one namespace and name
  pub allow : AcceptedItems AcceptedPolicy same_policy workload.allow
  pub deny : AcceptedItems AcceptedPolicy same_policy workload.deny
  pub audit : AcceptedItems AcceptedPolicy same_policy workload.audit
  pub custom : AcceptedItems AcceptedPolicy same_policy workload.custom
  pub jwt_rules : All AcceptedJwtRule workload.jwt_rules
  pub provider : ForSome workload.provider AcceptedProvider
  -- each CUSTOM policy names the provider, and where there is none, there is no CUSTOM policy
  pub named : ForSome workload.provider (λ provider. All (λ policy. policy.provider ≡ Some provider.name) workload.custom)
  pub unnamed : ForNone workload.provider (workload.custom ≡ [])
