use Rattle.std.proofs.Common.{refl}
use Rattle.mesh_policy.specs.declared.token_verdict.Claim.{out-Claim}
use Rattle.mesh_policy.specs.Authenticated.{authenticated}
use Rattle.mesh_policy.specs.Modes.{mode_at, other_mode}
use Rattle.mesh_policy.specs.Ports.{given, listed, protocol_at}
use Rattle.mesh_policy.specs.RuleHolds.{rule_holds}
use Rattle.mesh_policy.specs.Verdicts.{arrival, verdict_of}
use Rattle.mesh_policy.specs.Workload.{workload_of}
use Rattle.mesh_policy.proofs.worked_policies.tokens_are_judged.Goals as goal

pub returns-clause-valid : goal.returns-clause-valid
unfolding out-Claim denote.Hole.Carrier.out authenticated mode_at other_mode given listed protocol_at rule_holds arrival verdict_of workload_of
returns-clause-valid c = refl
