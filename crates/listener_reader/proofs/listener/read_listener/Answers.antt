-- The chains that were read are within their limit.
use Rattle.std.proofs.Common.{arith, length, ap}
use Rattle.serde_json.specs.View.{view}
use Rattle.listener_reader.proofs.FewChains.{few-chains}
use Rattle.listener_reader.proofs.listener.read_listener.Goals as goal

pub distinct-requires : goal.distinct-requires
distinct-requires c =
    omega (
      arith,
      few-chains (view c.args.v.now) c.args.at.now c.in_ok-chains.ensures.0,
      ap length c.in_ok-chains.ensures.1,
      ap length c.deref.ensures,
    )
