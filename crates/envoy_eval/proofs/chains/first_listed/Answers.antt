use Rattle.std.proofs.Common.{◌≡◌, ◌∙◌, ◌&&◌, ℕ, Bool, false, List, length, sym}
use Rattle.std.specs.List.{position_or_len}
use Rattle.envoy_types.specs.Chosen.{lists_name}
use Rattle.envoy_types.specs.declared.chains.ChainMatch.{ChainMatch}
use Rattle.envoy_eval.specs.Chains.{is_open}
use Rattle.envoy_eval.proofs.Agreed.{none-passes}
use Rattle.envoy_eval.proofs.chains.first_listed.Goals as goal

closed : (b : Bool) (matching : ChainMatch) (names : List (List ℕ)) → b ≡ false
    → length names ≡ position_or_len (λ name. b && lists_name name matching) names
closed b matching names e = rw e (none-passes names)

pub returns-else-is_open : goal.returns-else-is_open
returns-else-is_open c =
    closed (is_open c.args.port c.args.transport c.args.matching.now) c.args.matching.now c.args.names.now
    (sym c.is_open.ensures ∙ c.if-is_open.false)
