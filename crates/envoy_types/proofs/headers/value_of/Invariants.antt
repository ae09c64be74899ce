use Rattle.std.proofs.Common.{◌≡◌, drop}
use Rattle.mesh_policy.specs.Token as token
use Rattle.envoy_types.proofs.headers.value_of.Given as goal

abbrev pub invariant-loop-header : goal.invariant-loop-header
invariant-loop-header l = token.value_of l.name l.headers ≡ token.value_of l.name (drop l.header-index l.headers)
