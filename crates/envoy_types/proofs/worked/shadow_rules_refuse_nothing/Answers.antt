use Rattle.std.proofs.Common.{refl, true, false, None}
use Rattle.envoy_types.specs.Chosen.{chosen}
use Rattle.envoy_types.specs.ListenerVerdict.{envoy_verdict}
use Rattle.envoy_types.specs.WorkedListeners as worked
use Rattle.envoy_types.specs.declared.access.RbacAction.TheVariants as action
use Rattle.envoy_types.proofs.WorkedRules.{effective-all}
use Rattle.envoy_types.proofs.worked.shadow_rules_refuse_nothing.Goals as goal

pub returns-clause-asked : goal.returns-clause-asked
unfolding chosen envoy_verdict
returns-clause-asked c = rw (effective-all action.Deny worked.get (record { request = true; peer = false; claims = None })) refl

pub returns-clause-fail_open : goal.returns-clause-fail_open
unfolding chosen envoy_verdict
returns-clause-fail_open c = rw (effective-all action.Deny worked.get (record { request = true; peer = false; claims = None })) refl

pub returns-clause-allowed : goal.returns-clause-allowed
unfolding chosen envoy_verdict
returns-clause-allowed c =
    rw (effective-all action.Deny (worked.answered true) (record { request = true; peer = false; claims = None })) refl

pub returns-clause-denied : goal.returns-clause-denied
unfolding chosen envoy_verdict
returns-clause-denied c =
    rw (effective-all action.Deny (worked.answered false) (record { request = true; peer = false; claims = None })) refl

pub returns-clause-other_key : goal.returns-clause-other_key
unfolding chosen envoy_verdict
returns-clause-other_key c = rw (effective-all action.Deny worked.get (record { request = true; peer = false; claims = None })) refl

pub returns-clause-connection : goal.returns-clause-connection
unfolding chosen envoy_verdict
returns-clause-connection c =
    rw (effective-all action.Deny (worked.plain 9000) (record { request = false; peer = false; claims = None })) refl
