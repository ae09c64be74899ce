-- What is judged of several reasons, of which the first counts.
use Rattle.std.proofs.Common.{◌≡◌, Option, Some, None, Result, refl, sym, subst}
use Rattle.std.specs.Option.{option_or}
use Rattle.mesh_policy.specs.SelectFault.{SelectFault}
use Rattle.mesh_select.specs.SelectError.{Judges}
use Rattle.mesh_select.specs.declared.error.SelectError.{SelectError}

-- where the first reason doesn't hold, what is judged of the second is judged of both
pub judges-later : {A : Type 0} (result : Result A SelectError) (o p : Option SelectFault)
    → o ≡ None → Judges result p → Judges result (option_or o p)
judges-later result o p none h = subst (λ (r : Option SelectFault). Judges result (option_or r p)) (sym none) h

-- what is judged of a reason alone
pub judges-alone : {A : Type 0} (result : Result A SelectError) (o : Option SelectFault)
    → Judges result o → Judges result (option_or o None)
judges-alone result None h = h
judges-alone result (Some reason) h = h

-- of several reasons none holds
pub none-first : {A : Type 0} (o p : Option A) → option_or o p ≡ None → o ≡ None
none-first None p h = refl
none-first (Some a) p h = h

pub none-later : {A : Type 0} (o p : Option A) → option_or o p ≡ None → p ≡ None
none-later None p h = h
none-later (Some a) p h = cc
