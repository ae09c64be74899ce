-- The tree of presence holds as the others do.
use Rattle.std.proofs.Common.{◌∙◌, Ok, ap, sym}
use Rattle.peer_name.specs.Namespace.{namespace_tree}
use Rattle.peer_name.proofs.NamespaceHolds.{holds}
use Rattle.peer_name.proofs.namespace.namespace_tree.Goals as goal

pub returns-in-Present-clause-means : goal.returns-in-Present-clause-means
unfolding namespace_tree
returns-in-Present-clause-means c =
    holds c.args.p.now (Ok c.known_peer.result) (c.known_peer.ensures ∙ ap namespace_tree (sym c.in-Present.is))
