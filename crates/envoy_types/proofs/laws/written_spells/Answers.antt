use Rattle.envoy_types.proofs.ListenerBack.{spells-one, written-spells}
use Rattle.envoy_types.proofs.laws.written_spells.Goals as goal

pub returns-clause-back : goal.returns-clause-back
returns-clause-back c = written-spells

pub returns-clause-one : goal.returns-clause-one
returns-clause-one c = spells-one
