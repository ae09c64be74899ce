-- The names of fields that stand in an object without unknown ones.
use Rattle.std.proofs.Common.{◌≡◌, ◌||◌, ℕ, Bool, true, false, List, [], ◌∷◌, Option, None, refl, sym, ◌∙◌}
use Rattle.std.proofs.lemmas.Option.{none-some}
use Rattle.std.proofs.lemmas.Slice.Eq.{bytes_eq-Decides}
use Rattle.std.specs.Str.{bytes_eq}
use Rattle.serde_json.specs.Data.{Data, Members, member}
use Rattle.mesh_doc.specs.Faults.{first, or_else, unless}
use Rattle.mesh_doc.specs.Known.{is_known, unknown_in}
use Rattle.mesh_doc.specs.Places.{Steps, at_key}
use Rattle.mesh_doc.specs.declared.fault.Fault.{Fault}
use Rattle.mesh_doc.specs.declared.reason.Reason.{Reason}
use Rattle.envoy_types.specs.TreeForms.{TreeForm, known_names, parts_field_faults, parts_field_in, trees_faults, trees_in}
use Rattle.envoy_types.specs.declared.keys.TheConstants.{ANY}

swapped : (a b : List ℕ) → bytes_eq a b ≡ true → bytes_eq b a ≡ true
swapped a b h = (bytes_eq-Decides b a).1 (sym ((bytes_eq-Decides a b).0 h))

or-false : (b : Bool) → (b || false) ≡ true → b ≡ true
or-false true h = refl
or-false false h = h

passes : (b : Bool) (reason : Reason) (at : Steps) (rest : Option Fault) → or_else (first (unless b reason at)) rest ≡ None → b ≡ true
passes true reason at rest h = refl
passes false reason at rest h = absurd (none-some _ (sym h))

-- the first field of an object that has no other field than this one
pub own_field : (name key : List ℕ) (d : Data) (ms : Members) (at : Steps)
    → first (unknown_in (name ∷ []) (member key d ms) at) ≡ None → bytes_eq key name ≡ true
unfolding is_known
own_field name key d ms at h = swapped name key (or-false (bytes_eq name key) (passes (is_known (name ∷ []) key) _ _ _ h))

-- one of two that is not the first is the second
later : (b : Bool) (rest : Bool) → (b ≡ true → false ≡ true) → (b || rest) ≡ true → rest ≡ true
later true rest none h = absurd (let e : false ≡ true = none refl in cc)
later false rest none h = h

not-swapped : (a b : List ℕ) → bytes_eq b a ≡ false → bytes_eq a b ≡ true → false ≡ true
not-swapped a b other h = sym other ∙ swapped a b h

-- an alternative that is no And, Or, Not or Any is a leaf
pub leaf_known : {L : Type 0} (form : TreeForm L) (key : List ℕ)
    → is_known (known_names form) key ≡ true → bytes_eq key form.and_name ≡ false → bytes_eq key form.or_name ≡ false
    → bytes_eq key form.not_name ≡ false → bytes_eq key ANY.now ≡ false → is_known form.leaf_names key ≡ true
unfolding is_known
leaf_known form key known no-and no-or no-not no-any =
    later _ _ (not-swapped ANY.now key no-any)
    (later _ _ (not-swapped form.not_name key no-not)
    (later _ _ (not-swapped form.or_name key no-or)
    (later _ _ (not-swapped form.and_name key no-and) known)))

-- so the set of an And or an Or is read at its first field
pub first_of_parts : {L : Type 0} (form : TreeForm L) (key : List ℕ) (d : Data) (ms : Members) (at : Steps)
    → first (unknown_in (form.parts_name ∷ []) (member key d ms) at) ≡ None
    → (parts_field_faults form (member key d ms) at ≡ trees_faults form d (at_key form.parts_name at))
    × (parts_field_in form (member key d ms) ≡ trees_in form d)
first_of_parts form key d ms at h = let own = own_field form.parts_name key d ms at h in (rw (own) refl, rw (own) refl)
