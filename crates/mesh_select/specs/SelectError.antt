-- What an error of selection says.
use Rattle.std.specs.Prelude.{◌≡◌, Option, Some, None, Result, MatchResult}
use Rattle.mesh_policy.specs.SelectFault as fault
use Rattle.mesh_policy.specs.SelectFault.{SelectFault}
use Rattle.mesh_select.specs.declared.error.SelectError.{SelectError}
use Rattle.mesh_select.specs.declared.error.SelectError.TheVariants as error

-- an error is that reason with what it keeps, unless it is want of memory
abbrev pub Tells : SelectError → Option SelectFault → Type 0
Tells error.NoWorkload reason = reason ≡ Some fault.no_workload
Tells (error.PortConflict port first second) reason = reason ≡ Some (fault.port_conflict port first second)
Tells (error.UnknownProvider name) reason = reason ≡ Some (fault.unknown_provider name)
Tells (error.TwoProviders name other) reason = reason ≡ Some (fault.two_providers name other)
Tells (error.TokenHeaderTested name) reason = reason ≡ Some (fault.token_header_tested name)
Tells (error.TooManyPorts ports) reason = reason ≡ Some (fault.too_many_ports ports)
Tells (error.TooManyValues values entries bytes) reason = reason ≡ Some (fault.too_many_values values entries bytes)
Tells error.Memory reason = Unit {0}

-- there is no such reason, or the error tells it
abbrev pub Judges : {A : Type 0} → Result A SelectError → Option SelectFault → Type 0
Judges result reason = MatchResult result (λ _. reason ≡ None) (λ e. Tells e reason)
