use Rattle.std.proofs.Common.{refl}
use Rattle.std.specs.Fmt.{digits}
use Rattle.mesh_policy.specs.Authenticated.{authenticated}
use Rattle.mesh_policy.specs.Explanation.{explanation_of}
use Rattle.mesh_policy.specs.Modes.{mode_at, other_mode}
use Rattle.mesh_policy.specs.Ports.{given, listed, protocol_at}
use Rattle.mesh_policy.specs.RuleHolds.{rule_holds}
use Rattle.mesh_policy.specs.Verdicts.{arrival}
use Rattle.mesh_policy.specs.Workload.{workload_of}
use Rattle.mesh_policy.proofs.worked_policies.explained_by_the_least_name.Goals as goal

pub returns : goal.returns
unfolding digits authenticated explanation_of mode_at other_mode given listed protocol_at rule_holds arrival workload_of
returns c = refl
