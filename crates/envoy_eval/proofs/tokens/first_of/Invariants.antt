-- The providers that are passed hold no valid token.
use Rattle.std.proofs.Common.{◌≡◌, drop}
use Rattle.envoy_eval.specs.Tokens.{first_position_by}
use Rattle.envoy_eval.proofs.tokens.first_of.Given as goal

abbrev pub invariant-loop-name : goal.invariant-loop-name
invariant-loop-name l =
    first_position_by l.filter.providers l.case l.names ≡ first_position_by l.filter.providers l.case (drop l.name-index l.names)
