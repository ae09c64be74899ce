use Rattle.std.proofs.Common.{◌≡◌, map, take}
use Rattle.policy_json.specs.ConditionKeys.{name_in}
use Rattle.policy_json.proofs.condition_keys.names_in.Given as goal

abbrev pub invariant-loop-piece : goal.invariant-loop-piece
invariant-loop-piece l = l.names ≡ map name_in (map (λ x. x.now) (take l.piece-index l.piece-items))
