use Rattle.std.proofs.Common.{◌≡◌, ℕ, ◌&&◌, List, Option, Some, None, bytes_eq, sym, ap, subst}
use Rattle.mesh_policy.specs.AcceptedBundle.{AcceptedBundle, AcceptedPod}
use Rattle.mesh_policy.specs.SelectFault.{SelectFault, fault_for, pod_named, select_fault}
use Rattle.mesh_policy.specs.declared.bundle.Bundle.{Bundle}
use Rattle.mesh_policy.specs.declared.pod.Pod.{Pod}
use Rattle.mesh_select.specs.SelectError.{Judges}
use Rattle.mesh_select.proofs.InRange.{found-accepted}
use Rattle.mesh_select.proofs.answer.select.Goals as goal

-- the reason is that of the Pod which is found
of-found : (bundle : Bundle) (namespace name : List ℕ) (pod : Option Pod) → pod ≡ pod_named namespace name bundle
    → fault_for bundle pod ≡ select_fault bundle namespace name
unfolding select_fault
of-found bundle namespace name pod e = ap (fault_for bundle) e

pub returns-in-None-clause-reason : goal.returns-in-None-clause-reason
returns-in-None-clause-reason c = sym (of-found c.args.b.now c.args.namespace.now c.args.pod.now None c.in-None.ensures)

pub returns-in-Some-clause-reason : goal.returns-in-Some-clause-reason
returns-in-Some-clause-reason c =
    subst (λ (reason : Option SelectFault). Judges c.select_pod.result reason)
    (of-found c.args.b.now c.args.namespace.now c.args.pod.now (Some c.in-Some.pod.now) c.in-Some.ensures) c.select_pod.ensures.reason

-- a Pod that is found is one of those that are accepted
accepted-pod : (bundle : Bundle) (namespace name : List ℕ) → AcceptedBundle bundle → (pod : Pod) → Some pod ≡ pod_named namespace name bundle
    → AcceptedPod pod
accepted-pod bundle namespace name h pod e =
    found-accepted AcceptedPod (λ p. bytes_eq p.namespace namespace && bytes_eq p.name name) bundle.pods h.pods.each pod (sym e)

pub select_pod-requires-clause-pod : goal.select_pod-requires-clause-pod
select_pod-requires-clause-pod c =
    accepted-pod c.args.b.now c.args.namespace.now c.args.pod.now c.requires c.in-Some.pod.now c.in-Some.ensures
