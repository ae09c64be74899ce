-- The modes of ports by the oldest PeerAuthentication of each width.
use Rattle.std.specs.Prelude.{ℕ, Bool, not, ◌&&◌, List, [], ◌∷◌, filter, Option, unwrap_or}
use Rattle.std.specs.Option.{option_and_then}
use Rattle.std.specs.Str.{bytes_eq}
use Rattle.mesh_policy.specs.Lists.{first_some}
use Rattle.mesh_policy.specs.Modes.{has_selector, oldest}
use Rattle.mesh_policy.specs.declared.peer.Mode.{Mode}
use Rattle.mesh_policy.specs.declared.peer.Mode.TheVariants.{Permissive}
use Rattle.mesh_policy.specs.declared.peer.PeerAuthentication.{PeerAuthentication}
use Rattle.mesh_select.specs.declared.modes.Width.{Width}
use Rattle.mesh_select.specs.declared.modes.Width.TheVariants.{Workload, Namespace, Mesh}

-- the policy that counts for the workload, for its namespace and for the mesh, where there is one
pub record Levels : Type 0 where
  pub workload : Option PeerAuthentication
  pub namespace : Option PeerAuthentication
  pub mesh : Option PeerAuthentication

-- A policy with a selector speaks for workloads, one without for its namespace, and in the root namespace for the mesh
-- (Istio reference, PeerAuthentication: `selector`; MeshConfig: `rootNamespace`).
abbrev pub has_width : Width → List ℕ → PeerAuthentication → Bool
has_width Workload root policy = has_selector policy
has_width Namespace root policy = not (has_selector policy) && not (bytes_eq policy.namespace root)
has_width Mesh root policy = not (has_selector policy) && bytes_eq policy.namespace root

-- of the policies that apply the oldest of each width
abbrev pub levels_of : List ℕ → List PeerAuthentication → Levels
levels_of root peers = record {
  workload = oldest (filter (has_width Workload root) peers);
  namespace = oldest (filter (has_width Namespace root) peers);
  mesh = oldest (filter (has_width Mesh root) peers);
}

-- the first that is set
abbrev pub mode_from : Option Mode → Levels → Mode
mode_from of_port levels =
    unwrap_or (first_some (of_port
    ∷ option_and_then (λ policy. policy.mode) levels.workload
    ∷ option_and_then (λ policy. policy.mode) levels.namespace
    ∷ option_and_then (λ policy. policy.mode) levels.mesh ∷ [])) Permissive
