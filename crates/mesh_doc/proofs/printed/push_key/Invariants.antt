use Rattle.std.proofs.Common.{◌≡◌, ◌++◌, string_bytes}
use Rattle.std.specs.Str.Iter.{chars_rest}
use Rattle.mesh_doc.specs.Printed.{shown_key}
use Rattle.mesh_doc.proofs.printed.push_key.Given as goal

abbrev pub invariant-loop-c : goal.invariant-loop-c
invariant-loop-c l = string_bytes l.initial.out ++ shown_key l.key ≡ string_bytes l.out ++ shown_key (chars_rest l.c-iterator)
