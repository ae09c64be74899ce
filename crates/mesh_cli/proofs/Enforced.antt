-- The text of a printable listener that decides as the policies do enforces them.
use Rattle.std.proofs.Common.{◌≡◌, ℕ, Bool, true, cond, List, Some, None, ◌∙◌, ap}
use Rattle.std.specs.Str.{is_utf8}
use Rattle.serde_json.specs.Read.{read}
use Rattle.mesh_policy.specs.declared.case.Case.{Case}
use Rattle.mesh_policy.specs.Verdicts.{verdict_of}
use Rattle.mesh_policy.specs.WellFormedCase.{WellFormedCase}
use Rattle.mesh_policy.specs.Workload.{Workload}
use Rattle.envoy_types.specs.declared.chains.Listener.{Listener}
use Rattle.envoy_types.specs.ListenerForms.{Spells, SpellsOne, WrittenSpells, is_printable, listener_written}
use Rattle.envoy_types.specs.ListenerVerdict.{envoy_verdict}
use Rattle.mesh_cli.specs.Headline.{Enforces}
use Rattle.mesh_cli.specs.Answer.{document_of}

pub enforced : WrittenSpells → SpellsOne → (workload : Workload) (listener : Listener) (text : List ℕ)
    → is_printable listener ≡ true
    → ((case : Case) → WellFormedCase case workload.jwt_rules → envoy_verdict listener case ≡ verdict_of workload case)
    → is_utf8 text ≡ true → read text ≡ Some (listener_written listener) → Enforces workload text
unfolding document_of
enforced back one workload listener text printable verdicts utf8 reads =
    let told : Spells (listener_written listener) listener = back listener printable in
    record {
      value = listener_written listener;
      reads = ap (λ (valid : Bool). cond valid (read text) None) utf8 ∙ reads;
      listener = listener;
      spells = told;
      only = λ other spells. one (listener_written listener) other listener spells told;
      verdicts = verdicts;
    }
