use Rattle.std.proofs.Common.{◌∙◌, ap, find, option_map}
use Rattle.std.specs.Str.{bytes_eq}
use Rattle.mesh_policy.specs.declared.pod.Pod.{Pod}
use Rattle.mesh_select.proofs.labels.SelectedPod.port.Goals as goal

pub returns : goal.returns
returns c =
    c.copied.ensures ∙ c.get.ensures.value ∙ c.self.invariant.1 c.args.name.now
    ∙ ap (λ (p : Pod). option_map (λ entry. entry.port) (find (λ entry. bytes_eq entry.name c.args.name.now) p.ports)) c.self.view_is
