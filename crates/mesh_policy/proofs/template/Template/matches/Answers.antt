use Rattle.std.proofs.Common.{◌∙◌, ap, List, ℕ}
use Rattle.mesh_policy.proofs.TemplateLemmas.{template_means}
use Rattle.mesh_policy.specs.Template.{template_holds}
use Rattle.mesh_policy.proofs.template.Template.matches.Goals as goal

pub returns-clause-means : goal.returns-clause-means
returns-clause-means c =
    template_means c.segments_hold.result c.args.self.now c.args.path.now c.as_uri.ensures.form
    (c.segments_hold.ensures ∙ ap (λ (u : List ℕ). template_holds u c.args.path.now) c.as_uri.ensures.value)
