-- By the law on what a written listener spells.
use Rattle.listener_reader.proofs.ReadBack.{written-is-read}
use Rattle.listener_reader.proofs.round_trip.written_is_read.Goals as goal

pub returns : goal.returns
returns c = written-is-read
