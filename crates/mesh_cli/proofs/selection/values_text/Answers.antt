-- The pieces stand as the format writes them.
use Rattle.std.proofs.Common.{codes, decimal, ◌∙◌}
use Rattle.mesh_cli.proofs.Joined.{three}
use Rattle.mesh_cli.proofs.selection.values_text.Goals as goal

pub returns : goal.returns
returns c =
    c.from_string.ensures ∙ c.in_ok-text.ensures.ok
    ∙ three (codes "TooManyValues ") (decimal c.args.values) (decimal c.args.entries) (decimal c.args.bytes)
