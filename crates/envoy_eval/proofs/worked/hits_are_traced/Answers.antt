use Rattle.std.proofs.Common.{codes, false, refl, true, None}
use Rattle.mesh_policy.specs.Attributes.{Seen}
use Rattle.envoy_types.specs.Chosen.{chosen}
use Rattle.envoy_types.specs.ListenerVerdict.{envoy_verdict}
use Rattle.envoy_types.specs.WorkedListeners as worked
use Rattle.envoy_types.specs.declared.access.RbacAction.TheVariants as action
use Rattle.envoy_eval.specs.Trace.{trace_of}
use Rattle.envoy_eval.proofs.WorkedRules.{effective-named}
use Rattle.envoy_eval.proofs.worked.hits_are_traced.Goals as goal

-- a request is judged, and no name is known
abbrev seen : Seen
seen = record { request = true; peer = false; claims = None }

pub returns-clause-refused : goal.returns-clause-refused
unfolding trace_of chosen envoy_verdict
returns-clause-refused c = rw (effective-named (codes "one") action.Deny worked.get seen) refl

pub returns-clause-first : goal.returns-clause-first
unfolding trace_of chosen envoy_verdict
returns-clause-first c =
    rw (effective-named (codes "one") action.Log worked.get seen, effective-named (codes "one") action.Allow worked.get seen) refl

pub returns-clause-authorizer : goal.returns-clause-authorizer
unfolding trace_of chosen envoy_verdict
returns-clause-authorizer c = rw (effective-named (codes "istio-ext-authz-x") action.Deny worked.get seen) refl

pub returns-clause-unmatched : goal.returns-clause-unmatched
unfolding trace_of chosen envoy_verdict
returns-clause-unmatched c = refl
