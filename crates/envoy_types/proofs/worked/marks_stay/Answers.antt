use Rattle.std.proofs.Common.{refl, true, false, None}
use Rattle.envoy_types.specs.Chosen.{chosen}
use Rattle.envoy_types.specs.ListenerVerdict.{envoy_verdict}
use Rattle.envoy_types.specs.WorkedListeners as worked
use Rattle.envoy_types.specs.declared.access.RbacAction.TheVariants as action
use Rattle.envoy_types.proofs.WorkedRules.{effective-all}
use Rattle.envoy_types.proofs.worked.marks_stay.Goals as goal

pub returns-clause-admitted : goal.returns-clause-admitted
unfolding chosen envoy_verdict
returns-clause-admitted c = rw (effective-all action.Log worked.get (record { request = true; peer = false; claims = None })) refl

pub returns-clause-refused : goal.returns-clause-refused
unfolding chosen envoy_verdict
returns-clause-refused c =
    rw (
      effective-all action.Log worked.get (record { request = true; peer = false; claims = None }),
      effective-all action.Deny worked.get (record { request = true; peer = false; claims = None }),
    ) refl

pub returns-clause-too_late : goal.returns-clause-too_late
unfolding chosen envoy_verdict
returns-clause-too_late c = rw (effective-all action.Deny worked.get (record { request = true; peer = false; claims = None })) refl
