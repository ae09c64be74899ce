use Rattle.std.proofs.Common.{◌∙◌, List, ap}
use Rattle.std.specs.BTreeMap.{is_at}
use Rattle.std.specs.List.{list_any}
use Rattle.mesh_policy.specs.Applying.{is_same_label}
use Rattle.mesh_policy.specs.declared.pod.Label.{Label}
use Rattle.mesh_policy.specs.declared.pod.Pod.{Pod}
use Rattle.mesh_select.proofs.Lookups.{label-found}
use Rattle.mesh_select.specs.Labels.{label_cmp}
use Rattle.mesh_select.proofs.labels.SelectedPod.has.Goals as goal

pub returns : goal.returns
returns c =
    c.contains.ensures
    ∙ ap (λ (ks : List Label). list_any (is_at (label_cmp c.args.wanted.now)) ks) c.self.invariant.0
    ∙ label-found c.args.wanted.now c.self.inside.pod.now.labels
    ∙ ap (λ (p : Pod). list_any (is_same_label c.args.wanted.now) p.labels) c.self.view_is
