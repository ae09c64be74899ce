use Rattle.std.proofs.Common.{◌&&◌, arith}
use Rattle.envoy_types.specs.Chosen.{lists_name}
use Rattle.envoy_types.specs.declared.chains.FilterChain.{FilterChain}
use Rattle.envoy_eval.specs.Chains.{is_open}
use Rattle.envoy_eval.proofs.Agreed.{all, one_more}
use Rattle.envoy_eval.proofs.chains.first_agreed.Goals as goal

pub loop-chain-preserved : goal.loop-chain-preserved
loop-chain-preserved c =
    let more = one_more (λ (d : FilterChain) name. is_open c.args.port c.args.transport d.matching && lists_name name d.matching)
    c.args.chains.now c.loop-chain.chain-index c.chain-item.result c.args.names.now c.loop-chain.first c.first_listed-first.result
    c.loop-chain-test.true c.chain-item.is c.loop-chain.invariant.within c.first_listed-first.ensures c.loop-chain.invariant.agreed in
    record { within = more.0; agreed = more.1 }

pub returns : goal.returns
returns c =
    all (λ (d : FilterChain) name. is_open c.args.port c.args.transport d.matching && lists_name name d.matching)
    c.args.chains.now c.loop-chain.chain-index c.args.names.now c.loop-chain.first (omega (arith, c.loop-chain-test.false))
    c.loop-chain.invariant.within c.loop-chain.invariant.agreed
