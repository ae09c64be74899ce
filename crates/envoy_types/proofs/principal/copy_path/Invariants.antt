use Rattle.std.proofs.Common.{◌≡◌, take}
use Rattle.envoy_types.proofs.principal.copy_path.Given as goal

abbrev pub invariant-loop-key : goal.invariant-loop-key
invariant-loop-key l = l.copies ≡ take l.key-index l.path
