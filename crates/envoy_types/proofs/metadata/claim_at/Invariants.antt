use Rattle.std.proofs.Common.{◌≡◌, length}
use Rattle.mesh_policy.specs.Attributes.{claim_at}
use Rattle.envoy_types.proofs.metadata.claim_at.Given as goal

abbrev pub invariant-keys : goal.invariant-keys
invariant-keys l = claim_at l.rest l.fields ≡ claim_at l.path l.claims

abbrev pub decreases-keys : goal.decreases-keys
decreases-keys l = length l.rest
