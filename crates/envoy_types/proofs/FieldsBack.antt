-- What a form of fields finds in an object that was written field by field: each field at its name, and no other.
use Rattle.std.proofs.Common.{◌≡◌, ℕ, Bool, true, false, true≢false, List, [], ◌∷◌, Option, Some, None, option_map, refl, sym}
use Rattle.std.proofs.Common.{subst, ◌∙◌, not, if◌then◌else◌}
use Rattle.std.proofs.lemmas.Bool.{and_parts, or_parts}
use Rattle.std.proofs.lemmas.Slice.Eq.{bytes_eq-Decides}
use Rattle.std.specs.List.{list_all, list_any}
use Rattle.std.specs.Ordering.{match_ordering}
use Rattle.std.specs.Cmp.Lexicographic.{slice_cmp}
use Rattle.std.specs.Ordering.{nat_cmp}
use Rattle.std.specs.declared.cmp.Ordering.{Ordering}
use Rattle.std.specs.declared.cmp.Ordering.TheVariants.{Less, Equal, Greater}
use Rattle.std.specs.Str.{bytes_eq}
use Rattle.serde_json.proofs.Views.{get_member-put, get_member-put_other}
use Rattle.serde_json.specs.Data.{Data, Members, no_members, member, put}
use Rattle.serde_json.specs.Find.{get, get_member}
use Rattle.mesh_doc.proofs.NoFault.{earlier, later}
use Rattle.mesh_doc.specs.Faults.{Check, first, or_else, ◌⨾◌, ◌▸◌, demands, unless}
use Rattle.mesh_doc.specs.Fields.{strict, required_written, optional_written, required_written_in, optional_written_in}
use Rattle.mesh_doc.specs.Kinds.{object_faults}
use Rattle.mesh_doc.specs.Known.{is_known, unknown_in, unknown_faults}
use Rattle.mesh_doc.specs.Places.{Steps, at_key}
use Rattle.mesh_doc.specs.declared.fault.Fault.{Fault}
use Rattle.mesh_doc.specs.declared.reason.Reason.{Reason}
use Rattle.envoy_types.specs.WrittenFields.{Field, are_different, field_names, fields_onto, object_of, put_written, with_field}

-- ---- a value without fault

-- at whatever place it stands
pub record Passes (f : Check) (d : Data) : Type 0 where
  pub clean : (at : Steps) → first (f d at) ≡ None

pub both : {f g : Check} {d : Data} → Passes f d → Passes g d → Passes (f ⨾ g) d
both p q = record { clean = λ at. rw (p.clean at, q.clean at) refl }

pub behind : {f g : Check} {d : Data} → Passes f d → Passes g d → Passes (f ▸ g) d
behind p q = record { clean = λ at. rw (p.clean at, q.clean at) refl }

pub demanded : (test : Data → Bool) (reason : Reason) (d : Data) → test d ≡ true → Passes (demands test reason) d
demanded test reason d h = record { clean = λ at. rw h refl }

-- ---- a name and the members

same-name : (q name : List ℕ) → bytes_eq q name ≡ true → q ≡ name
same-name q name h = (bytes_eq-Decides q name).0 h

-- found where it was put
here : (q name : List ℕ) (o : Option Data) (ms : Members) → bytes_eq q name ≡ true → get_member q ms ≡ None
    → get_member q (put_written name o ms) ≡ o
here q name None ms h lacks = lacks
here q name (Some d) ms h lacks = subst (λ n. get_member n (put name d ms) ≡ Some d) (sym (same-name q name h)) (get_member-put name d ms)

-- not found where another was
elsewhere : (q name : List ℕ) (o : Option Data) (ms : Members) → bytes_eq q name ≡ false
    → get_member q (put_written name o ms) ≡ get_member q ms
elsewhere q name None ms h = refl
elsewhere q name (Some d) ms h =
    get_member-put_other q name d ms (λ e. true≢false (sym ((bytes_eq-Decides q name).1 e) ∙ h))

skips : (q : List ℕ) (ms : Members) (fs : List Field) → list_any (bytes_eq q) (field_names fs) ≡ false
    → get_member q (fields_onto ms fs) ≡ get_member q ms
skips q ms [] h = refl
skips q ms (f ∷ fs) h = skips q (with_field ms f) fs (or_parts _ _ h).1 ∙ elsewhere q f.0 f.1 ms (or_parts _ _ h).0

-- the field of the name
abbrev pub found : List ℕ → List Field → Option Data
found q [] = None
found q (f ∷ fs) = if bytes_eq q f.0 then f.1 else found q fs

not-false : (b : Bool) → not b ≡ true → b ≡ false
not-false true h = cc
not-false false h = refl

unlike : (q name : List ℕ) (names : List (List ℕ)) → bytes_eq q name ≡ true → not (list_any (bytes_eq name) names) ≡ true
    → list_any (bytes_eq q) names ≡ false
unlike q name names e h = subst (λ n. list_any (bytes_eq n) names ≡ false) (sym (same-name q name e)) (not-false _ h)

get-first : (b : Bool) (q : List ℕ) (ms : Members) (f : Field) (fs : List Field) → bytes_eq q f.0 ≡ b
    → not (list_any (bytes_eq f.0) (field_names fs)) ≡ true → get_member q ms ≡ None
    → (get_member q (with_field ms f) ≡ None → get_member q (fields_onto (with_field ms f) fs) ≡ found q fs)
    → get_member q (fields_onto (with_field ms f) fs) ≡ (if b then f.1 else found q fs)
get-first true q ms f fs e apart lacks later =
    skips q (with_field ms f) fs (unlike q f.0 (field_names fs) e apart) ∙ here q f.0 f.1 ms e lacks
get-first false q ms f fs e apart lacks later = later (elsewhere q f.0 f.1 ms e ∙ lacks)

get-fields : (q : List ℕ) (ms : Members) (fs : List Field) → are_different (field_names fs) ≡ true → get_member q ms ≡ None
    → get_member q (fields_onto ms fs) ≡ found q fs
get-fields q ms [] h lacks = lacks
get-fields q ms (f ∷ fs) h lacks =
    get-first (bytes_eq q f.0) q ms f fs refl (and_parts _ _ h).0 lacks (get-fields q (with_field ms f) fs (and_parts _ _ h).1)

-- what stands at a name of an object is the field of the name
pub get-object : (q : List ℕ) (fs : List Field) → are_different (field_names fs) ≡ true → get q (object_of fs) ≡ found q fs
get-object q fs h = get-fields q no_members fs h refl

-- ---- no other names

-- none in either of two
pub none-in-both : (a b : Option Fault) → a ≡ None → b ≡ None → or_else a b ≡ None
none-in-both None b e f = f
none-in-both (Some x) b e f = cc

is-known : (b : Bool) (reason : Reason) (at : Steps) → b ≡ true → first (unless b reason at) ≡ None
is-known true reason at h = refl
is-known false reason at h = cc

known-at : (o : Ordering) (known : List (List ℕ)) (k l : List ℕ) (d e : Data) (ms : Members) (at : Steps)
    → is_known known k ≡ true → first (unknown_in known (member l e ms) at) ≡ None → first (unknown_in known (put k d ms) at) ≡ None
    → first (unknown_in known (match_ordering o (member k d (member l e ms)) (member l d ms) (member l e (put k d ms))) at) ≡ None
known-at Less known k l d e ms at h old new = none-in-both _ _ (is-known _ _ _ h) old
known-at Equal known k l d e ms at h old new = old
known-at Greater known k l d e ms at h old new = none-in-both _ _ (earlier _ _ old) new

known-put : (known : List (List ℕ)) (k : List ℕ) (d : Data) (ms : Members) (at : Steps) → is_known known k ≡ true
    → first (unknown_in known ms at) ≡ None → first (unknown_in known (put k d ms) at) ≡ None
known-put known k d no_members at h old = none-in-both _ _ (is-known _ _ _ h) refl
known-put known k d (member l e ms) at h old =
    known-at (slice_cmp nat_cmp k l) known k l d e ms at h old (known-put known k d ms at h (later _ _ old))

known-written : (known : List (List ℕ)) (k : List ℕ) (o : Option Data) (ms : Members) (at : Steps) → is_known known k ≡ true
    → first (unknown_in known ms at) ≡ None → first (unknown_in known (put_written k o ms) at) ≡ None
known-written known k None ms at h old = old
known-written known k (Some d) ms at h old = known-put known k d ms at h old

known-fields : (known : List (List ℕ)) (ms : Members) (fs : List Field) (at : Steps)
    → list_all (λ f. is_known known f.0) fs ≡ true → first (unknown_in known ms at) ≡ None
    → first (unknown_in known (fields_onto ms fs) at) ≡ None
known-fields known ms [] at h old = old
known-fields known ms (f ∷ fs) at h old =
    known-fields known (with_field ms f) fs at (and_parts _ _ h).1 (known-written known f.0 f.1 ms at (and_parts _ _ h).0 old)

-- ---- objects of fields

pub only-known : (known : List (List ℕ)) (fs : List Field) → list_all (λ f. is_known known f.0) fs ≡ true
    → Passes (unknown_faults known) (object_of fs)
unfolding unknown_faults object_faults
only-known known fs h = record { clean = λ at. known-fields known no_members fs at h refl }

-- fields that pass, in an object of known fields
pub strict-object : (known : List (List ℕ)) (checks : Check) (fs : List Field) → list_all (λ f. is_known known f.0) fs ≡ true
    → Passes checks (object_of fs) → Passes (strict known checks) (object_of fs)
strict-object known checks fs h p = record {
  clean = λ at. none-in-both _ _ ((only-known known fs h).clean at) (p.clean at);
}

-- ---- a field of an object, by what stands at its name

pub required-passes : (name : List ℕ) (f : Check) (d v : Data) → get name d ≡ Some v → Passes f v → Passes (required_written name f) d
unfolding required_written
required-passes name f d v e p = record { clean = λ at. rw e (p.clean (at_key name at)) }

pub optional-passes : (name : List ℕ) (f : Check) (d v : Data) → get name d ≡ Some v → Passes f v → Passes (optional_written name f) d
unfolding optional_written
optional-passes name f d v e p = record { clean = λ at. rw e (p.clean (at_key name at)) }

pub absent-passes : (name : List ℕ) (f : Check) (d : Data) → get name d ≡ None → Passes (optional_written name f) d
unfolding optional_written
absent-passes name f d e = record { clean = λ at. rw e refl }

pub required-back : {A : Type 0} (name : List ℕ) (value : Data → A) (d v : Data) → get name d ≡ Some v
    → required_written_in name value d ≡ value v
unfolding required_written_in
required-back name value d v e = rw e refl

pub optional-back : {A : Type 0} (name : List ℕ) (value : Data → A) (d : Data) (o : Option Data) → get name d ≡ o
    → optional_written_in name value d ≡ option_map value o
unfolding optional_written_in
optional-back name value d o e = rw e refl
