-- The first fault along the parts is the first of all.
use Rattle.std.proofs.Common.{◌≡◌, List, [], ◌∷◌, refl, sym, ◌∙◌, ap₂}
use Rattle.mesh_doc.specs.Faults.{none, single, joined, hiding, all_of, shown_behind, or_else}
use Rattle.mesh_doc.specs.Laws.{first_in, FirstOfJoined, FirstOfAll, NoneOfEmpty}
use Rattle.mesh_doc.specs.declared.fault.Fault.{Fault}

pub first_in-append : FirstOfJoined
first_in-append [] gs = refl
first_in-append (f ∷ fs) gs = refl

pub first_in-shown_behind : (fs gs : List Fault) → first_in (shown_behind fs gs) ≡ or_else (first_in fs) (first_in gs)
first_in-shown_behind [] gs = refl
first_in-shown_behind (f ∷ fs) gs = refl

pub first-all_of : FirstOfAll
first-all_of none = refl
first-all_of (single f) = refl
first-all_of (joined fs gs) = ap₂ or_else (first-all_of fs) (first-all_of gs) ∙ sym (first_in-append (all_of fs) (all_of gs))
first-all_of (hiding fs gs) = ap₂ or_else (first-all_of fs) (first-all_of gs) ∙ sym (first_in-shown_behind (all_of fs) (all_of gs))

pub empty-first_in : NoneOfEmpty
empty-first_in [] e = refl
empty-first_in (f ∷ fs) e = cc
