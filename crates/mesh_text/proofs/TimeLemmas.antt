-- What fits a form is as long as the form.
use Rattle.std.proofs.Common.{◌≡◌, ◌≢◌, ℕ, ◌&&◌, ◌==◌, false, List, [], ◌∷◌, length, if◌then◌else◌, ap, sym, ◌∙◌, refl, arith}
use Rattle.std.proofs.Math.Bool.{and-false}
use Rattle.mesh_text.specs.Bytes.{digit_zero}
use Rattle.mesh_text.specs.Number.{is_digit}
use Rattle.mesh_text.specs.Time.{fits_form}

pub not_as_long : (form s : List ℕ) → length form ≢ length s → false ≡ fits_form form s
not_as_long [] [] apart = absurd (apart refl)
not_as_long [] (c ∷ cs) apart = refl
not_as_long (f ∷ fs) [] apart = refl
not_as_long (f ∷ fs) (c ∷ cs) apart =
    let shorter : length fs ≢ length cs = λ e. apart (omega (arith, e)) in
    let here = if f == digit_zero then is_digit c else (c == f) in
    sym (and-false here) ∙ ap (λ b. here && b) (not_as_long fs cs shorter)
