-- Numbers that are put in their places one after another rise: each is less than all later ones.
use Rattle.std.proofs.Common.{◌≡◌, ℕ, ◌<◌, AllPairs, List, [], ◌∷◌, refl, arith}
use Rattle.std.proofs.lemmas.Cmp.{ranked}
use Rattle.std.proofs.lemmas.List.Elements.{All-cons, All-nil, All-weaker}
use Rattle.std.proofs.lemmas.List.Kept.{AllPairs-cons}
use Rattle.std.proofs.lemmas.Map.Views.{All-insert_key}
use Rattle.std.specs.BTreeSet.{insert_key}
use Rattle.std.specs.List.{fold}
use Rattle.std.specs.Ordering.{MatchOrdering, match_ordering, nat_cmp}
use Rattle.std.specs.declared.cmp.Ordering.{Ordering}
use Rattle.std.specs.declared.cmp.Ordering.TheVariants.{Less, Equal, Greater}
use Rattle.mesh_policy.specs.Lists.{ascending}
use Rattle.mesh_select.proofs.Apart.{pairs-head, pairs-nil, pairs-tail}

abbrev Below : ℕ → ℕ → Type 0
Below m n = m < n

below-later : (k m n : ℕ) → k < m → m < n → k < n
below-later k m n low high = omega arith

insert-rises : (k : ℕ) (ns : List ℕ) → AllPairs Below ns → AllPairs Below (insert_key nat_cmp ns k)
insert-rises k [] h = AllPairs-cons Below k [] (All-nil (Below k)) h
insert-rises k (n ∷ ns) h =
    at (nat_cmp k n) (ranked k n (nat_cmp k n) refl) (insert-rises k ns (pairs-tail Below n ns h)) where
      at : (r : Ordering) → MatchOrdering r (k < n) (k ≡ n) (n < k) → AllPairs Below (insert_key nat_cmp ns k)
          → AllPairs Below (match_ordering r (k ∷ n ∷ ns) (n ∷ ns) (n ∷ insert_key nat_cmp ns k))
      at Less low inner =
          AllPairs-cons Below k (n ∷ ns)
          (All-cons (Below k) n ns low
          (All-weaker (Below n) (Below k) (λ later. below-later k n later low) ns (pairs-head Below n ns h))) h
      at Equal same inner = h
      at Greater high inner =
          AllPairs-cons Below n (insert_key nat_cmp ns k) (All-insert_key nat_cmp k (Below n) ns (pairs-head Below n ns h) high) inner

fold-rises : (numbers ns : List ℕ) → AllPairs Below ns → AllPairs Below (fold (insert_key nat_cmp) ns numbers)
fold-rises [] ns h = h
fold-rises (k ∷ numbers) ns h = fold-rises numbers (insert_key nat_cmp ns k) (insert-rises k ns h)

pub ascending-rises : (numbers : List ℕ) → AllPairs (λ m n. m < n) (ascending numbers)
ascending-rises numbers = fold-rises numbers [] (pairs-nil Below)
