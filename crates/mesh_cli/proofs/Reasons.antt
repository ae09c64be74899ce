-- The text of an error is that of the reason it tells, and so is the refusal.
use Rattle.std.proofs.Common.{◌≡◌, ℕ, List, Option, Some, None, refl, sym, subst, ◌∙◌, ap}
use Rattle.std.specs.Option.{option_map}
use Rattle.mesh_policy.specs.SelectFault.{SelectFault}
use Rattle.mesh_policy.specs.Workload.{Workload}
use Rattle.mesh_select.specs.SelectError.{Tells}
use Rattle.mesh_select.specs.declared.error.SelectError.{SelectError}
use Rattle.mesh_select.specs.declared.error.SelectError.TheVariants as error
use Rattle.mesh_cli.specs.declared.refusal.Stop.{Stop}
use Rattle.mesh_cli.specs.declared.refusal.Stop.TheVariants as no_text
use Rattle.mesh_cli.specs.Answer.{answer_for}
use Rattle.mesh_cli.specs.PodName.{PodName}
use Rattle.mesh_cli.specs.Refusal.{Stops}
use Rattle.mesh_cli.specs.Selection.{reason_of, reason_text, refuses_pod}
use Rattle.mesh_cli.proofs.Options.{some-same}

by-reason : (t : List ℕ) (told reason : SelectFault) → Some (reason_text told) ≡ Some t → Some reason ≡ Some told → t ≡ reason_text reason
by-reason t told reason written same = sym (some-same _ _ written) ∙ ap reason_text (sym (some-same _ _ same))

pub told-text : (e : SelectError) (t : List ℕ) (reason : SelectFault) → option_map reason_text (reason_of e) ≡ Some t
    → Tells e (Some reason)
    → t ≡ reason_text reason
told-text error.NoWorkload t reason h k = by-reason t _ reason h k
told-text (error.PortConflict port first second) t reason h k = by-reason t _ reason h k
told-text (error.UnknownProvider name) t reason h k = by-reason t _ reason h k
told-text (error.TwoProviders name other) t reason h k = by-reason t _ reason h k
told-text (error.TokenHeaderTested name) t reason h k = by-reason t _ reason h k
told-text (error.TooManyPorts ports) t reason h k = by-reason t _ reason h k
told-text (error.TooManyValues values entries bytes) t reason h k = by-reason t _ reason h k
told-text error.Memory t reason h k = cc

-- what an error that selection answers is told as
pub refused : (e : SelectError) (stop : Stop) (name : PodName) (o : Option SelectFault) (w : Option Workload)
    → ((reason : SelectFault) → Tells e (Some reason) → Stops stop (refuses_pod name reason))
    → (e ≡ error.Memory → stop ≡ no_text.Memory) → Tells e o → Stops stop (answer_for name o w)
refused e stop name (Some reason) w told memory tells = told reason tells
refused error.NoWorkload stop name None w told memory tells = cc
refused (error.PortConflict port first second) stop name None w told memory tells = cc
refused (error.UnknownProvider n) stop name None w told memory tells = cc
refused (error.TwoProviders n m) stop name None w told memory tells = cc
refused (error.TokenHeaderTested n) stop name None w told memory tells = cc
refused (error.TooManyPorts ports) stop name None w told memory tells = cc
refused (error.TooManyValues values entries bytes) stop name None w told memory tells = cc
refused error.Memory stop name None w told memory tells =
    let P : Stop → Type 0 = λ s. Stops s (answer_for name None w) in
    subst P (sym (memory refl)) tt
