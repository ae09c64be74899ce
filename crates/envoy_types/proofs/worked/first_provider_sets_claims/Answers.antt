use Rattle.std.proofs.Common.{refl, true, false, codes, [], ◌∷◌, Some}
use Rattle.mesh_policy.specs.declared.token_verdict.Claim.{out-Claim}
use Rattle.envoy_types.specs.Chosen.{chosen}
use Rattle.envoy_types.specs.ListenerVerdict.{envoy_verdict}
use Rattle.envoy_types.specs.WorkedListeners as worked
use Rattle.envoy_types.specs.declared.access.RbacAction.TheVariants as action
use Rattle.envoy_types.specs.declared.metadata.ValueMatcher.TheVariants.{Words}
use Rattle.envoy_types.specs.declared.principal.PrincipalLeaf.TheVariants.{Metadata}
use Rattle.envoy_types.specs.declared.strings.MatchKind.TheVariants.{Exact}
use Rattle.envoy_types.proofs.WorkedRules.{effective-leaf}
use Rattle.envoy_types.proofs.worked.first_provider_sets_claims.Goals as goal

pub returns-clause-first : goal.returns-clause-first
unfolding out-Claim denote.Hole.Carrier.out chosen envoy_verdict
returns-clause-first c =
    rw (effective-leaf action.Allow (Metadata (codes "sub" ∷ []) (Words (worked.words Exact (codes "bob")))) worked.shown
    (record { request = true; peer = false; claims = Some (worked.valid (codes "b") (codes "bob")).claims })) refl

pub returns-clause-second : goal.returns-clause-second
unfolding out-Claim denote.Hole.Carrier.out chosen envoy_verdict
returns-clause-second c =
    rw (effective-leaf action.Allow (Metadata (codes "sub" ∷ []) (Words (worked.words Exact (codes "ann")))) worked.shown
    (record { request = true; peer = false; claims = Some (worked.valid (codes "b") (codes "bob")).claims })) refl
