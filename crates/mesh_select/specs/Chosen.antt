-- Some manifests and one of their Pods.
use Rattle.mesh_policy.specs.declared.bundle.Bundle.{Bundle}
use Rattle.mesh_policy.specs.declared.pod.Pod.{Pod}

-- the manifests, and the Pod that the workload is selected for
pub record Chosen : Type 0 where
  pub bundle : Bundle
  pub pod : Pod
