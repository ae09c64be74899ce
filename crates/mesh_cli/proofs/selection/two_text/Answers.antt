-- The pieces stand as the format writes them.
use Rattle.std.proofs.Common.{◌++◌, codes, ◌∙◌}
use Rattle.mesh_cli.proofs.Joined.{two}
use Rattle.mesh_cli.proofs.selection.two_text.Goals as goal

pub returns : goal.returns
returns c =
    c.from_string.ensures ∙ c.in_ok-text.ensures.ok
    ∙ (λ i. codes "TwoProviders " ++ (c.as_str-name.ensures i ++ (codes " " ++ c.as_str-other.ensures i)))
    ∙ two (codes "TwoProviders ") c.args.name.now c.args.other.now
