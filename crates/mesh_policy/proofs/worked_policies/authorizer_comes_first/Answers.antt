use Rattle.std.proofs.Common.{refl}
use Rattle.std.specs.Fmt.{digits}
use Rattle.mesh_policy.specs.Modes.{mode_at, other_mode}
use Rattle.mesh_policy.specs.Ports.{given, listed, protocol_at}
use Rattle.mesh_policy.specs.Authenticated.{authenticated}
use Rattle.mesh_policy.specs.RuleHolds.{rule_holds, rule_holds_tcp}
use Rattle.mesh_policy.specs.Verdicts.{arrival, verdict_of}
use Rattle.mesh_policy.specs.Workload.{workload_of}
use Rattle.mesh_policy.proofs.worked_policies.authorizer_comes_first.Goals as goal

pub returns-clause-allowed : goal.returns-clause-allowed
unfolding digits authenticated mode_at other_mode given listed protocol_at rule_holds rule_holds_tcp arrival verdict_of workload_of
returns-clause-allowed c = refl
