-- The header of one more place is there, if it is one.
use Rattle.envoy_types.specs.ProviderForms.{from_header_written, header_of}
use Rattle.listener_writer.proofs.Entries.{one-more}
use Rattle.listener_writer.proofs.places.header_values.Goals as goal

pub loop-place-preserved : goal.loop-place-preserved
loop-place-preserved c = one-more header_of from_header_written c.args.places.now c.loop-place.place-index c.place-item.result _ _
    c.loop-place-test.true c.place-item.is c.loop-place.invariant c.in_ok-push_header.ensures
