-- The parts of the tree of a suffix, end by end.
use Rattle.std.proofs.Common.{◌≡◌, ◌≢◌, ℕ, ◌+◌, ◌<◌, true, List, [], ◌∷◌, ◌++◌, length, drop, map, get_or, flat_map, Bor}
use Rattle.std.proofs.Common.{refl, sym, ◌∙◌, ap, add-one, append-nil, append_assoc, drop-cons}
use Rattle.std.proofs.lemmas.Bool.{cond-false, cond-true, false_from_ne_true}
use Rattle.std.proofs.lemmas.Bool.Decides.{Decides-eqb}
use Rattle.std.proofs.lemmas.Slice.Eq.{starts_is}
use Rattle.std.specs.List.{starts_with}
use lib.Dec.{eqb}
use Rattle.mesh_policy.specs.PeerNames.{scheme}
use Rattle.mesh_tree.specs.declared.tree.Tree.{Tree}
use Rattle.envoy_types.specs.declared.principal.PrincipalLeaf.{PrincipalLeaf}
use Rattle.peer_name.specs.Principal.{all_but_shorter, not_named}

pub no-shorter : (v end : List ℕ) (parts : List (Tree PrincipalLeaf)) → ((rest : List ℕ) → v ≢ end ++ rest)
    → parts ≡ parts ++ all_but_shorter v end
no-shorter v end parts lacks =
    let begins = starts_is Decides-eqb v end (starts_with eqb v end) refl in
    let none : all_but_shorter v end ≡ [] =
    cond-false (starts_with eqb v end) (not_named (scheme ++ drop (length end) v) ∷ []) []
    (false_from_ne_true _ (λ e. lacks (drop (length end) v) (begins.0 e))) in
    sym (ap (λ (more : List (Tree PrincipalLeaf)). parts ++ more) none ∙ append-nil parts)

pub one-shorter : (v end shorter : List ℕ) (n : ℕ) → n ≡ length end → v ≡ end ++ drop n v → shorter ≡ drop n v
    → not_named (scheme ++ shorter) ∷ [] ≡ all_but_shorter v end
one-shorter v end shorter n long begun rest =
    let begins : starts_with eqb v end ≡ true = (starts_is Decides-eqb v end (starts_with eqb v end) refl).1 (drop n v) begun in
    ap (λ (s : List ℕ). not_named (scheme ++ s) ∷ []) (rest ∙ ap (λ (k : ℕ). drop k v) long)
    ∙ sym (cond-true (starts_with eqb v end) (not_named (scheme ++ drop (length end) v) ∷ []) [] begins)

pub one-more : {A : Type 0} (f : List ℕ → List A) (items : List (Bor (List ℕ))) (i : ℕ) (d : Bor (List ℕ)) (before after whole : List A)
    → i < length items → before ++ flat_map f (map (λ n. n.now) (drop i items)) ≡ whole → after ≡ before ++ f (get_or items i d).now
    → after ++ flat_map f (map (λ n. n.now) (drop (i + 1) items)) ≡ whole
one-more {A} f items i d before after whole within is e =
    let left = flat_map f (map (λ (n : Bor (List ℕ)). n.now) (drop (i + 1) items)) in
    let next : get_or items i d ∷ drop (i + 1) items ≡ drop i items = rw (add-one, drop-cons items i d) refl in
    ap (λ (t : List A). t ++ left) e
    ∙ append_assoc before (f (get_or items i d).now) left
    ∙ ap (λ (t : List (Bor (List ℕ))). before ++ flat_map f (map (λ (n : Bor (List ℕ)). n.now) t)) next
    ∙ is
