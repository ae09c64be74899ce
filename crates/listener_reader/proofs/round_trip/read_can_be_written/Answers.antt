-- By the lemma on what a listener without fault means.
use Rattle.listener_reader.proofs.ListenerPrintable.{spelled-printable}
use Rattle.listener_reader.proofs.round_trip.read_can_be_written.Goals as goal

pub returns : goal.returns
returns c = spelled-printable
