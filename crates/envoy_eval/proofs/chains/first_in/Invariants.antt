-- The names that are passed are not listed.
use Rattle.std.proofs.Common.{◌≡◌, ◌+◌, drop}
use Rattle.std.specs.List.{position_or_len}
use Rattle.envoy_types.specs.Chosen.{lists_name}
use Rattle.envoy_eval.proofs.chains.first_in.Given as goal

abbrev pub invariant-loop-at : goal.invariant-loop-at
invariant-loop-at l = position_or_len (λ name. lists_name name l.matching) l.names
    ≡ l.at + position_or_len (λ name. lists_name name l.matching) (drop l.at l.names)
