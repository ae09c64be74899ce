use Rattle.std.proofs.Common.{◌≡◌, ◌++◌, codes, take, string_bytes}
use Rattle.std.specs.List.{flat_map}
use Rattle.mesh_doc.specs.Printed.{shown_step}
use Rattle.mesh_doc.proofs.printed.place_text.Given as goal

abbrev pub invariant-loop-step : goal.invariant-loop-step
invariant-loop-step l = string_bytes l.out ≡ codes "$" ++ flat_map shown_step (take l.step-index l.step-items)
