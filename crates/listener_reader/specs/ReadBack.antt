-- What is written of a listener is read back.
use Rattle.std.specs.Prelude.{◌≡◌, true, Result, MatchResult}
use Rattle.mesh_doc.specs.Faults.{Reads}
use Rattle.mesh_doc.specs.Places.{Steps}
use Rattle.mesh_doc.specs.declared.fault.DocError.{DocError}
use Rattle.mesh_doc.specs.declared.fault.DocError.TheVariants as error
use Rattle.envoy_types.specs.ListenerForms.{is_printable, listener_faults, listener_in, listener_written}
use Rattle.envoy_types.specs.declared.chains.Listener.{Listener}

-- Whatever answers the listener that a value spells, or its first fault, answers of what is written of a listener that can be
-- written that same listener, wherever it stands. Want of memory is free.
abbrev pub WrittenIsRead : Type 0
WrittenIsRead =
    (listener : Listener) → is_printable listener ≡ true → (at : Steps) (answer : Result Listener DocError)
    → Reads answer (listener_faults (listener_written listener) at) (listener_in (listener_written listener))
    → MatchResult answer (λ read. read ≡ listener) (λ e. e ≡ error.Memory)
