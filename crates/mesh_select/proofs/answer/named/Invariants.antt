use Rattle.std.proofs.Common.{◌≡◌, ◌&&◌, drop, find}
use Rattle.std.specs.Str.{bytes_eq}
use Rattle.mesh_select.proofs.answer.named.Given as goal

abbrev pub invariant-loop-pod : goal.invariant-loop-pod
invariant-loop-pod l =
    find (λ pod. bytes_eq pod.namespace l.namespace && bytes_eq pod.name l.name) (drop l.pod-index l.b.pods)
    ≡ find (λ pod. bytes_eq pod.namespace l.namespace && bytes_eq pod.name l.name) l.b.pods
