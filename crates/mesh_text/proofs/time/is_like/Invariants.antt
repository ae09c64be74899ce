use Rattle.std.proofs.Common.{◌≡◌, drop}
use Rattle.mesh_text.specs.Time.{fits_form}
use Rattle.mesh_text.proofs.time.is_like.Given as goal

abbrev pub invariant-loop-i : goal.invariant-loop-i
invariant-loop-i l = fits_form l.form l.s ≡ fits_form (drop l.i l.form) (drop l.i l.s)
