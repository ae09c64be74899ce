-- What joins the faults of the parts to the list of all faults.
use Rattle.std.specs.Prelude.{◌≡◌, List, [], ◌∷◌, ◌++◌, Option, Some, None}
use Rattle.mesh_doc.specs.Faults.{Faults, all_of, first, or_else}
use Rattle.mesh_doc.specs.declared.fault.Fault.{Fault}

abbrev pub first_in : List Fault → Option Fault
first_in [] = None
first_in (f ∷ fs) = Some f

-- the first of joined lists is the first of the earliest that is not empty
abbrev pub FirstOfJoined : Type 0
FirstOfJoined = (fs gs : List Fault) → first_in (fs ++ gs) ≡ or_else (first_in fs) (first_in gs)

-- so what a reader answers along the parts is the first of the whole list
abbrev pub FirstOfAll : Type 0
FirstOfAll = (fs : Faults) → first fs ≡ first_in (all_of fs)

-- and there is none only where the list is empty
abbrev pub NoneOfEmpty : Type 0
NoneOfEmpty = (fs : List Fault) → first_in fs ≡ None → fs ≡ []
