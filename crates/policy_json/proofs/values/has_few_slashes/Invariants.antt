use Rattle.std.proofs.Common.{◌≡◌, ◌==◌, drop, nat_le}
use Rattle.std.specs.Prelude.{count_by}
use Rattle.policy_json.proofs.values.has_few_slashes.Given as goal

abbrev pub invariant-loop-c : goal.invariant-loop-c
invariant-loop-c l = nat_le (count_by (λ c. c == 47) l.text) 8 ≡ nat_le (count_by (λ c. c == 47) (drop l.c-index l.text)) l.left
