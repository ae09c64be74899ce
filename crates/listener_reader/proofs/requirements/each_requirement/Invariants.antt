-- The entries that are left have the first fault, and stand behind those that were read.
use Rattle.std.proofs.Common.{◌≡◌, ℕ, ◌-◌, ◌==◌, ◌++◌, length, drop}
use Rattle.serde_json.specs.View.{items_view}
use Rattle.mesh_doc.specs.Faults.{first}
use Rattle.mesh_doc.specs.Lists.{each_in}
use Rattle.mesh_doc.specs.Turns.{each_in_turn}
use Rattle.envoy_types.specs.JwtForms.{provider_names, requirement_entry_faults, requirement_entry_in}
use Rattle.listener_reader.proofs.requirements.each_requirement.Given as goal

abbrev pub invariant-loop-i : goal.invariant-loop-i
invariant-loop-i l = record {
  faults :
      first (each_in_turn {S = ℕ} (λ left. requirement_entry_faults (provider_names l.given) (left == 0)) (λ left _. left - 1)
      (length l.items - 1) 0 (items_view l.items) l.at)
      ≡ first (each_in_turn {S = ℕ} (λ left. requirement_entry_faults (provider_names l.given) (left == 0)) (λ left _. left - 1)
      (length l.items - 1 - l.i) l.i (items_view (drop l.i l.items)) l.at);
  value :
      each_in requirement_entry_in (items_view l.items)
      ≡ l.all ++ each_in requirement_entry_in (items_view (drop l.i l.items));
}
