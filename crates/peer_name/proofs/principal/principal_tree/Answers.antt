use Rattle.std.proofs.Common.{Ok, sym, ◌∙◌, ap}
use Rattle.peer_name.specs.Principal.{principal_tree}
use Rattle.peer_name.proofs.PrincipalHolds.{holds}
use Rattle.peer_name.proofs.principal.principal_tree.Goals as goal

pub returns-in-Present-clause-means : goal.returns-in-Present-clause-means
unfolding principal_tree
returns-in-Present-clause-means c =
    holds (Ok c.known_peer.result) c.args.p.now (c.known_peer.ensures ∙ ap principal_tree (sym c.in-Present.is))
