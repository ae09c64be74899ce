use Rattle.std.proofs.Common.{◌&&◌}
use Rattle.std.specs.List.{list_any}
use Rattle.std.specs.Option.{option_copied}
use Rattle.envoy_types.specs.Chosen.{lists_name}
use Rattle.envoy_eval.specs.Chains.{is_open}
use Rattle.envoy_eval.proofs.Agreed.{name-at}
use Rattle.envoy_eval.proofs.chains.name_left.Goals as goal

pub returns : goal.returns
returns c =
    name-at (λ name. list_any (λ d. is_open c.args.port c.args.transport d.matching && lists_name name d.matching) c.args.chains.now)
    c.args.names.now c.first_agreed.result (option_copied c.text_at.result) c.first_agreed.ensures c.text_at.ensures
