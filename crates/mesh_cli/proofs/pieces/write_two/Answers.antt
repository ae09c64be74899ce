-- A front of the second piece comes behind the whole first one.
use Rattle.mesh_cli.proofs.Fronts.{front-then}
use Rattle.mesh_cli.proofs.pieces.write_two.Goals as goal

pub returns-clause-front : goal.returns-clause-front
returns-clause-front g c =
    front-then (g.S.Sink.known c.args.sink.now) (g.S.Sink.known c.write_all.new.sink) (g.S.Sink.known c.write_all-2.new.sink)
    c.args.first.now c.args.second.now c.in_ok-write_all.ensures.ok c.write_all-2.ensures.front
