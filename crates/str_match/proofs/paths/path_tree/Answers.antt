-- The tree of a template is that of the definition.
use Rattle.std.proofs.Common.{◌∙◌, ap, sym}
use Rattle.str_match.specs.Paths.{path_as, path_tree}
use Rattle.str_match.proofs.PathsHold.{made-path}
use Rattle.str_match.proofs.paths.path_tree.Goals as goal

pub returns-in-Some-clause-means : goal.returns-in-Some-clause-means
unfolding path_tree
returns-in-Some-clause-means c =
    made-path c.args.value.now c.leaf.result (c.leaf.ensures.shape ∙ sym (ap (λ t. path_as t c.args.value.now) (sym c.in_ok-uri.ensures.value ∙ c.in-Some.is)))
