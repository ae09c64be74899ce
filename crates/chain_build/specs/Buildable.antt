-- Which workloads a listener is built for so far.
use Rattle.std.specs.Prelude.{◌≡◌, []}
use Rattle.mesh_policy.specs.Workload.{Workload}
use Rattle.mesh_policy.specs.declared.service.Protocol.TheVariants.{Http}
use Rattle.authz_gen.specs.Policies.{AreToldOn}

-- no authorizer is asked, and nothing of a token
pub record IsBuildable (workload : Workload) : Type 0 where
  pub custom : workload.custom ≡ []
  pub jwt_rules : workload.jwt_rules ≡ []
  pub audit : AreToldOn Http workload.audit
  pub deny : AreToldOn Http workload.deny
  pub allow : AreToldOn Http workload.allow
