-- The number with which the program ends (POSIX, "exit status"): docs/FORMATS.md has the table.
use Rattle.std.specs.Prelude.{ℕ}
use Rattle.mesh_cli.specs.declared.refusal.Status.{Status}
use Rattle.mesh_cli.specs.declared.refusal.Status.TheVariants.{Done, Refused, Words, ReadFault, WriteFault, Memory}

abbrev pub number_of : Status → ℕ
number_of Done = 0
number_of Refused = 1
number_of Words = 2
number_of ReadFault = 3
number_of WriteFault = 4
number_of Memory = 5
