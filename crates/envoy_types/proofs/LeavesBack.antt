-- A leaf that is written as one field keeps the promises of its kind of leaves.
use Rattle.std.proofs.Common.{◌≡◌, ℕ, true, List, ap}
use Rattle.serde_json.specs.Data.{Data, object, no_members, member}
use Rattle.mesh_doc.specs.Faults.{Check}
use Rattle.mesh_doc.specs.Known.{is_known}
use Rattle.envoy_types.proofs.PartsBack.{Back}
use Rattle.envoy_types.specs.TreeForms.{ReadsBack, TreeForm, WritesLeaf}

-- a leaf means no more than the value of its field
pub as-leaf : {A L : Type 0} (leaf : A → L) {f : Check} {value : Data → A} {d : Data} {a : A} → Back f value d a
    → Back f (λ v. leaf (value v)) d (leaf a)
as-leaf leaf known = record { passes = known.passes; back = ap leaf known.back }

-- the field alone tells the leaf
pub leaf-reads-back : {L : Type 0} (form : TreeForm L) (leaf : L) (name : List ℕ) (value : Data)
    → form.leaf_written leaf ≡ object (member name value no_members)
    → Back (form.leaf_faults name) (form.leaf_in name) value leaf → ReadsBack form leaf
leaf-reads-back form leaf name value written known key d is =
    let same_name : key ≡ name = cc in
    let same_value : d ≡ value = cc in
    ((λ at. rw (same_name, same_value) (known.passes.clean at)), rw (same_name, same_value) known.back)

-- and has the name of a leaf
pub leaf-writes : {L : Type 0} (form : TreeForm L) (leaf : L) (name : List ℕ) (value : Data)
    → form.leaf_written leaf ≡ object (member name value no_members) → is_known form.leaf_names name ≡ true → WritesLeaf form leaf
leaf-writes form leaf name value written known = (name, value, written, known)
