-- The chains of the ports' numbers are those of the ports, and behind them stand those of all other ports.
use Rattle.std.proofs.Common.{◌++◌, None, ◌∙◌, ap₂}
use Rattle.mesh_policy.specs.declared.service.Protocol.TheVariants.{Tcp}
use Rattle.chain_build.specs.Listener.{chains_at, chains_of}
use Rattle.chain_build.proofs.Numbers.{by-number}
use Rattle.chain_build.proofs.listener.chains_of.Goals as goal

pub returns : goal.returns
unfolding chains_of
returns c =
    let workload = c.args.workload.now in
    c.in_ok-push_chains.ensures
    ∙ ap₂ (λ chains mode. chains ++ chains_at workload Tcp mode None)
    (c.in_ok-chains.ensures ∙ by-number workload c.limits.ensures.rising) c.other_mode-other_mode.ensures
