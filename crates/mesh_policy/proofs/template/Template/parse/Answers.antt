use Rattle.std.proofs.Common.{sym, ◌∙◌, ap}
use Rattle.mesh_policy.proofs.UriLemmas.{is_uri_of, uri_pieces_of}
use Rattle.mesh_policy.specs.Template.{is_uri, uri_pieces}
use Rattle.mesh_policy.proofs.template.Template.parse.Goals as goal

pub invariant_of-result : goal.invariant_of-result
invariant_of-result c = ap is_uri c.in_ok-uri.ensures ∙ is_uri_of c.args.s.now (sym c.if-not-is_template.ensures)

pub returns-clause-pieces : goal.returns-clause-pieces
returns-clause-pieces c = ap uri_pieces c.in_ok-uri.ensures ∙ uri_pieces_of c.args.s.now (sym c.if-not-is_template.ensures)
