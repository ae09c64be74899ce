-- A map has each key once, so that none of its members is left out.
use Rattle.std.proofs.Common.{◌≡◌, ℕ, List, [], ◌∷◌, false, String, Global, Less, string_bytes, string_cmp, nat_cmp, is_eq, bytes_eq, refl, sym, ap, ◌∙◌}
use Rattle.std.proofs.lemmas.Cmp.{nat_list_cmp_total}
use Rattle.std.proofs.lemmas.Map.Text.{is_eq-slice_cmp}
use Rattle.std.specs.Cmp.Lexicographic.{slice_cmp}
use Rattle.std.specs.List.{AllByRecursion, list_any}
use Rattle.std.specs.List.Sorted.{IsStrictlySortedBy}
use Rattle.std.specs.Map.{keys_of}
use Rattle.std.specs.Ordering.{ordering_reverse}
use Rattle.serde_json.specs.Data.{member}
use Rattle.serde_json.specs.View.{members_view, view}
use Rattle.serde_json.specs.declared.value.Value.{Value}
use Rattle.mesh_doc.specs.Maps.{unique_besides}

-- a key is none of the names
abbrev IsBesides : List (List ℕ) → String Global → Type 0
IsBesides seen key = list_any (bytes_eq (string_bytes key)) seen ≡ false

differ : (x y : List ℕ) → slice_cmp nat_cmp x y ≡ Less → bytes_eq y x ≡ false
differ x y below = sym (is_eq-slice_cmp y x) ∙ ap is_eq (nat_list_cmp_total.antisymm y x ∙ ap ordering_reverse below)

-- nor is it a key below it
one_more : (key : String Global) (ks : List (String Global)) (seen : List (List ℕ))
    → AllByRecursion (λ k. string_cmp key k ≡ Less) ks → AllByRecursion (IsBesides seen) ks
    → AllByRecursion (IsBesides (string_bytes key ∷ seen)) ks
one_more key [] seen above besides = tt
one_more key (k ∷ ks) seen above besides =
    (rw (differ (string_bytes key) (string_bytes k) above.0) besides.0, one_more key ks seen above.1 besides.1)

nothing_seen : (ks : List (String Global)) → AllByRecursion (IsBesides []) ks
nothing_seen [] = tt
nothing_seen (k ∷ ks) = (refl, nothing_seen ks)

none_left_out : (es : List (String Global × Value)) (seen : List (List ℕ))
    → IsStrictlySortedBy string_cmp (keys_of es) → AllByRecursion (IsBesides seen) (keys_of es)
    → unique_besides seen (members_view es) ≡ members_view es
unfolding IsStrictlySortedBy
none_left_out [] seen sorted besides = refl
none_left_out (e ∷ es) seen sorted besides =
    let rest = none_left_out es (string_bytes e.0 ∷ seen) sorted.1 (one_more e.0 (keys_of es) seen sorted.0 besides.1) in
    rw besides.0 (ap (member (string_bytes e.0) (view e.1)) rest)

pub unique_besides-sorted : (es : List (String Global × Value)) → IsStrictlySortedBy string_cmp (keys_of es)
    → unique_besides [] (members_view es) ≡ members_view es
unique_besides-sorted es sorted = none_left_out es [] sorted (nothing_seen (keys_of es))
