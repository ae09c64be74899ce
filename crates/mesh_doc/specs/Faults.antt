-- The faults of a value in reading order, and the word by which each reader's contract speaks of them.
--
-- A form is told by its `Check`: what can be wrong with a value that stands at a place. A check lists every fault.
-- The reader stops at the first one.
use Rattle.std.specs.Prelude.{◌≡◌, ℕ, Bool, true, false, List, [], ◌∷◌, ◌++◌, Option, Some, None, Result, Ok, Err}
use Rattle.serde_json.specs.Data.{Data}
use Rattle.mesh_doc.specs.Places.{Steps, at_key}
use Rattle.mesh_doc.specs.declared.fault.DocError.{DocError}
use Rattle.mesh_doc.specs.declared.fault.DocError.TheVariants as error
use Rattle.mesh_doc.specs.declared.fault.Fault.{Fault}
use Rattle.mesh_doc.specs.declared.reason.Reason.{Reason}

-- what is wrong with a value, as its parts have it
pub data Faults : Type 0 where
  none : Faults
  single : Fault → Faults
  -- those of the one part, and then those of the next
  joined : Faults → Faults → Faults
  -- those of the second are there only where the first has none: what is behind a wrong kind is not read
  hiding : Faults → Faults → Faults

-- the second list, unless the first has a fault
abbrev pub shown_behind : List Fault → List Fault → List Fault
shown_behind [] gs = gs
shown_behind (f ∷ fs) gs = f ∷ fs

-- the list of all of them
abbrev pub all_of : Faults → List Fault
all_of none = []
all_of (single f) = f ∷ []
all_of (joined fs gs) = all_of fs ++ all_of gs
all_of (hiding fs gs) = shown_behind (all_of fs) (all_of gs)

-- the earlier of two, where there is one
abbrev pub or_else : Option Fault → Option Fault → Option Fault
or_else None later = later
or_else (Some f) later = Some f

-- the first of them, found along the parts (`reading_order` has the law that this is the first of the list)
abbrev pub first : Faults → Option Fault
first none = None
first (single f) = Some f
first (joined fs gs) = or_else (first fs) (first gs)
first (hiding fs gs) = or_else (first fs) (first gs)

-- ---- the answer of a reader

-- the first of the faults. Want of memory is free
abbrev pub Refuses : DocError → Faults → Type 0
Refuses (error.Fault f) fs = first fs ≡ Some f
Refuses error.Memory fs = Unit {0}

-- the value exactly where there is no fault, and a fault exactly where it is the first
abbrev pub Reads : {A : Type 0} → Result A DocError → Faults → A → Type 0
Reads (Ok a) fs value = (first fs ≡ None) × (a ≡ value)
Reads (Err e) fs value = Refuses e fs

-- ---- how a check is put together

-- what is wrong with a value that stands at a place
abbrev pub Check : Type 0
Check = Data → Steps → Faults

-- one fault, at the place itself
abbrev pub fault : Reason → Steps → Faults
fault reason at = single (record { place = at; reason = reason })

-- none where the test holds
abbrev pub unless : Bool → Reason → Steps → Faults
unless true reason at = none
unless false reason at = fault reason at

-- the value itself passes the test
abbrev pub demands : (Data → Bool) → Reason → Check
demands test reason d at = unless (test d) reason at

-- a fault of the value that stands at one of its fields, there or not
abbrev pub at_field : List ℕ → Check → Check
at_field name f d at = f d (at_key name at)

-- in reading order
infixr 8 ◌⨾◌
abbrev pub ◌⨾◌ : Check → Check → Check
f ⨾ g = λ d at. joined (f d at) (g d at)

-- the second is read only where the first finds nothing
infixl 10 ◌▸◌
abbrev pub ◌▸◌ : Check → Check → Check
f ▸ g = λ d at. hiding (f d at) (g d at)
