-- An answer of what is written of a listener that can be written: that listener, and no fault.
use Rattle.std.proofs.Common.{◌≡◌, None, Some, Result, Ok, Err, refl, sym, ◌∙◌, MatchResult}
use Rattle.mesh_doc.specs.Faults.{Reads}
use Rattle.mesh_doc.specs.Places.{Steps}
use Rattle.mesh_doc.specs.declared.fault.DocError.{DocError}
use Rattle.mesh_doc.specs.declared.fault.DocError.TheVariants as error
use Rattle.envoy_types.proofs.ListenerBack.{written-spells}
use Rattle.envoy_types.specs.ListenerForms.{Spells, listener_faults, listener_in}
use Rattle.envoy_types.specs.declared.chains.Listener.{Listener}
use Rattle.serde_json.specs.Data.{Data}
use Rattle.listener_reader.specs.ReadBack.{WrittenIsRead}

spelled-is-read : (d : Data) (listener : Listener) → Spells d listener → (at : Steps) (answer : Result Listener DocError)
    → Reads answer (listener_faults d at) (listener_in d) → MatchResult answer (λ read. read ≡ listener) (λ e. e ≡ error.Memory)
spelled-is-read d listener spells at (Ok read) h = h.1 ∙ spells.1
spelled-is-read d listener spells at (Err error.Memory) h = refl
spelled-is-read d listener spells at (Err (error.Fault f)) h =
    let none-is-some : None ≡ Some f = sym (spells.0 at) ∙ h in absurd (cc)

pub written-is-read : WrittenIsRead
written-is-read listener printable = spelled-is-read _ listener (written-spells listener printable)
