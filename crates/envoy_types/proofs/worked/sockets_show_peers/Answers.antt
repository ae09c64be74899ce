use Rattle.std.proofs.Common.{refl, true, false, codes, [], Some, None}
use Rattle.envoy_types.specs.Chosen.{chosen}
use Rattle.envoy_types.specs.ListenerVerdict.{envoy_verdict}
use Rattle.envoy_types.specs.WorkedListeners as worked
use Rattle.envoy_types.specs.declared.access.RbacAction.TheVariants as action
use Rattle.envoy_types.specs.declared.principal.PrincipalLeaf.TheVariants.{Authenticated}
use Rattle.envoy_types.proofs.WorkedRules.{effective-leaf}
use Rattle.envoy_types.proofs.worked.sockets_show_peers.Goals as goal

pub returns-clause-known : goal.returns-clause-known
unfolding chosen envoy_verdict
returns-clause-known c =
    rw (effective-leaf action.Allow (Authenticated None) (worked.offering (Some (codes "p")) [])
    (record { request = false; peer = true; claims = None })) refl

pub returns-clause-opaque : goal.returns-clause-opaque
unfolding chosen envoy_verdict
returns-clause-opaque c =
    rw (effective-leaf action.Allow (Authenticated None) (worked.offering (Some (codes "p")) [])
    (record { request = false; peer = false; claims = None })) refl
