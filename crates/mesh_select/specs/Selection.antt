-- What selection finds for a Pod before it judges: each part is that of the definition.
use Rattle.std.specs.Prelude.{◌≡◌, ◌++◌, ◌^◌, ◌<◌, length, map}
use Rattle.mesh_policy.specs.Applying.{authorization_of, peers_of}
use Rattle.mesh_policy.specs.Lists.{ascending}
use Rattle.mesh_policy.specs.Ports.{ports_of}
use Rattle.mesh_policy.specs.Workload.{jwt_rules_of}
use Rattle.mesh_policy.specs.declared.service.Protocol.TheVariants.{Http}
use Rattle.mesh_select.specs.Modes.{levels_of}
use Rattle.mesh_select.specs.Ports.{given_by_all, numbers_with}
use Rattle.mesh_select.specs.declared.selection.Selection.TheInside.{Inside}

-- the ports, policies and rules that apply to the Pod, each as its definition has it
pub record HasParts (s : Inside) : Type 0 where
  pub given : s.given.items ≡ given_by_all s.pod s.bundle.now.services
  pub http : s.http.keys ≡ numbers_with Http (given_by_all s.pod s.bundle.now.services)
  pub levels : s.levels ≡ levels_of s.bundle.now.mesh.root (peers_of s.bundle.now s.pod)
  pub listed : s.listed.items ≡ ascending (map (λ entry. entry.number) (given_by_all s.pod s.bundle.now.services)
      ++ ports_of (levels_of s.bundle.now.mesh.root (peers_of s.bundle.now s.pod)).workload)
  pub few_listed : length s.listed.items < 2 ^ 32
  pub policies : s.policies.items ≡ authorization_of s.bundle.now s.pod
  pub rules : map (λ rule. rule.now) s.rules.items ≡ jwt_rules_of s.bundle.now s.pod
