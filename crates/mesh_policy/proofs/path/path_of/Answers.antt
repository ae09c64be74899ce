use Rattle.std.proofs.Common.{◌==◌, ◌∙◌, ap}
use Rattle.std.specs.List.{before_first}
use Rattle.mesh_policy.proofs.PathLemmas.{cut_twice}
use Rattle.mesh_policy.proofs.path.path_of.Goals as goal

pub returns : goal.returns
returns c =
    c.before_query.ensures ∙ ap (before_first (λ d. d == 63)) c.before_fragment.ensures
    ∙ cut_twice (λ d. d == 63) (λ d. d == 35) c.args.path.now
