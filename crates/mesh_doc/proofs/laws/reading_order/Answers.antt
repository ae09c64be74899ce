use Rattle.mesh_doc.proofs.Order.{first_in-append, first-all_of, empty-first_in}
use Rattle.mesh_doc.proofs.laws.reading_order.Goals as goal

pub returns : goal.returns
returns c = record { joined = first_in-append; whole = first-all_of; empty = empty-first_in }
