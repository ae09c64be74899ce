-- Accepted items stay accepted where some are left out, or they are put in another order.
use Rattle.std.proofs.Common.{◌≡◌, ℕ, ◌&&◌, Bool, false, List, filter, ap, sym, ◌∙◌}
use Rattle.std.proofs.lemmas.Bool.Decides.{Decides-like, same_from_decides}
use Rattle.std.proofs.lemmas.List.Elements.{All-filter}
use Rattle.std.proofs.lemmas.List.Kept.{AllPairs-filter}
use Rattle.std.proofs.lemmas.List.Sorted.{All-permutation}
use Rattle.std.proofs.lemmas.Map.Keys.{apart_from_distinct, IsDistinct-from_apart, IsDistinct-IsPermutation}
use Rattle.std.proofs.lemmas.Slice.Eq.{bytes_eq-Decides}
use Rattle.std.specs.List.{IsDistinct}
use Rattle.std.specs.List.Sorted.{IsPermutation}
use Rattle.std.specs.Str.{bytes_eq}
use Rattle.mesh_policy.specs.AcceptedBundle.{AcceptedItems}
use Rattle.mesh_policy.specs.AcceptedLists.{EachOnce, same_names}

pub AcceptedItems-filter : {A : Type 0} (Accepted : A → Type 0) (same : A → A → Bool) (keeps : A → Bool) (items : List A)
    → AcceptedItems Accepted same items → AcceptedItems Accepted same (filter keeps items)
AcceptedItems-filter Accepted same keeps items h = record {
  each = All-filter keeps Accepted items h.each;
  each_once = AllPairs-filter (λ a b. same a b ≡ false) keeps items h.each_once;
}

pub EachOnce-permutation : {A : Type 0} (same : A → A → Bool) (flips : (a b : A) → same a b ≡ same b a) (xs ys : List A)
    → IsPermutation xs ys → EachOnce same xs → EachOnce same ys
EachOnce-permutation {A} same flips xs ys p h =
    let before : IsDistinct same xs = IsDistinct-from_apart same xs h in
    let after : IsDistinct same ys = IsDistinct-IsPermutation same flips xs ys p before in
    λ i j d below inside. apart_from_distinct same ys i j d after below inside

pub AcceptedItems-permutation : {A : Type 0} (Accepted : A → Type 0) (same : A → A → Bool) (flips : (a b : A) → same a b ≡ same b a)
    (xs ys : List A) → IsPermutation xs ys → AcceptedItems Accepted same xs → AcceptedItems Accepted same ys
AcceptedItems-permutation Accepted same flips xs ys p h = record {
  each = All-permutation Accepted xs ys p h.each;
  each_once = EachOnce-permutation same flips xs ys p h.each_once;
}

bytes_eq-flips : (a b : List ℕ) → bytes_eq a b ≡ bytes_eq b a
bytes_eq-flips a b =
    same_from_decides (bytes_eq a b) (bytes_eq b a) (bytes_eq-Decides a b)
    (Decides-like (bytes_eq b a) (λ e. sym e) (λ e. sym e) (bytes_eq-Decides b a))

pub same_names-flips : (namespace name namespace' name' : List ℕ)
    → same_names namespace name namespace' name' ≡ same_names namespace' name' namespace name
same_names-flips namespace name namespace' name' =
    ap (λ b. b && bytes_eq name name') (bytes_eq-flips namespace namespace')
    ∙ ap (λ b. bytes_eq namespace' namespace && b) (bytes_eq-flips name name')
