-- The pieces stand as the format writes them.
use Rattle.std.proofs.Common.{◌++◌, codes, decimal, ◌∙◌}
use Rattle.mesh_cli.specs.Selection.{protocol_text}
use Rattle.mesh_cli.proofs.Joined.{three}
use Rattle.mesh_cli.proofs.selection.conflict_text.Goals as goal

pub returns : goal.returns
returns c =
    c.from_string.ensures ∙ c.in_ok-text.ensures.ok
    ∙ (λ i. codes "PortConflict " ++ (decimal c.args.port ++ (codes " " ++ (c.protocol_text-first.ensures i
    ++ (codes " " ++ c.protocol_text-second.ensures i)))))
    ∙ three (codes "PortConflict ") (decimal c.args.port) (protocol_text c.args.first) (protocol_text c.args.second)
