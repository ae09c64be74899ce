-- Two lists of values side by side: those of which one has to fit, and those of which none may (Istio reference,
-- "Authorization Policy").
use Rattle.std.specs.Prelude.{ℕ, List}
use Rattle.serde_json.specs.Data.{Data}
use Rattle.mesh_doc.specs.Faults.{Check, ◌⨾◌}
use Rattle.mesh_doc.specs.Lists.{listed, listed_in}
use Rattle.policy_json.specs.declared.both_listed.ValueLists.{ValueLists}

-- a field and its negative one, each with at most 2,048 values of one form
unfoldable pub both_listed : List ℕ → List ℕ → Check → Check
both_listed name not_name f = listed name 2048 f ⨾ listed not_name 2048 f

-- what both lists mean
abbrev pub both_listed_in : {A : Type 0} → List ℕ → List ℕ → (Data → A) → Data → ValueLists A
both_listed_in name not_name value d = record { values = listed_in name value d; not_values = listed_in not_name value d }
