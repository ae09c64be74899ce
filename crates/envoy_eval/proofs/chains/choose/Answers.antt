use Rattle.std.proofs.Common.{◌∙◌, ap}
use Rattle.std.specs.Option.{option_copied}
use Rattle.envoy_types.specs.Chosen.{offered, transport_of}
use Rattle.envoy_eval.proofs.Left.{chosen-by}
use Rattle.envoy_eval.proofs.chains.choose.Goals as goal

pub returns : goal.returns
returns c =
    chosen-by c.args.listener.now c.args.case.now c.as_slice-chains.result.now c.port_left-port.result c.transport_of.result
    c.transport_left-transport.result c.offered.result.now (option_copied c.name_left-name.result) c.first_left.result
    c.as_slice-chains.ensures c.port_left-port.ensures (c.transport_of.ensures ∙ ap transport_of c.as_ref.ensures.value)
    c.transport_left-transport.ensures (c.offered.ensures ∙ ap offered c.as_ref-2.ensures.value)
    c.name_left-name.ensures c.first_left.ensures
