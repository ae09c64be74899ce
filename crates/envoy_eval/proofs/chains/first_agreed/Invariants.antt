-- The chains that are left to look at are asked for the names in front of the first that was listed so far.
use Rattle.std.proofs.Common.{◌≡◌, ◌≤◌, ◌&&◌, drop, length, take}
use Rattle.std.specs.List.{list_any, position_or_len}
use Rattle.envoy_types.specs.Chosen.{lists_name}
use Rattle.envoy_eval.specs.Chains.{is_open}
use Rattle.envoy_eval.proofs.chains.first_agreed.Given as goal

abbrev pub invariant-loop-chain : goal.invariant-loop-chain
invariant-loop-chain l = record {
  within : l.first ≤ length l.names;
  agreed : position_or_len (λ name. list_any (λ c. is_open l.port l.transport c.matching && lists_name name c.matching) l.chains) l.names
      ≡ position_or_len (λ name. list_any (λ c. is_open l.port l.transport c.matching && lists_name name c.matching)
      (drop l.chain-index l.chains)) (take l.first l.names);
}
