use Rattle.std.proofs.Common.{◌∷◌, ◌++◌, [], List, ◌∙◌, ap}
use Rattle.mesh_tree.specs.declared.tree.Tree.{Tree}
use Rattle.envoy_types.specs.declared.principal.PrincipalLeaf.{PrincipalLeaf}
use Rattle.peer_name.proofs.SuffixParts.{no-shorter, one-shorter}
use Rattle.peer_name.proofs.principal.push_but_shorter.Goals as goal

pub returns-in-None : goal.returns-in-None
returns-in-None c = no-shorter c.args.suffix.now c.args.end.now c.args.parts.now c.in-None.ensures.cases

pub returns-in_ok-push-in-Some : goal.returns-in_ok-push-in-Some
returns-in_ok-push-in-Some c =
    let h = c.in-Some.ensures.cases in
    c.in_ok-push-in-Some.ensures.ok
    ∙ ap (λ (more : List (Tree PrincipalLeaf)). c.args.parts.now ++ more)
    (ap (λ (tree : Tree PrincipalLeaf). tree ∷ []) c.in_ok-not_principal-in-Some.ensures
    ∙ one-shorter c.args.suffix.now c.args.end.now c.in-Some.shorter.now h.0 h.1.0 h.1.1 h.2)
