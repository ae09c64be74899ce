-- What is written of the items that have a value, one item more at a time.
use Rattle.std.proofs.Common.{◌≡◌, ◌+◌, ◌<◌, ℕ, List, [], ◌∷◌, ◌++◌, length, map, take, get_or, Option, sym, ◌∙◌, ap}
use Rattle.std.specs.List.{filter_map}
use Rattle.std.proofs.lemmas.List.{map-append, take_more}
use Rattle.std.proofs.lemmas.List.Elements.{filter_map-append}
use Rattle.serde_json.specs.Data.{Data}

-- one more item is looked at
pub one-more : {A B : Type 0} (h : A → Option B) (written : B → Data) (xs : List A) (i : ℕ) (x : A) (front now : List Data)
    → i < length xs → x ≡ get_or xs i x → front ≡ map written (filter_map h (take i xs))
    → now ≡ front ++ map written (filter_map h (x ∷ [])) → now ≡ map written (filter_map h (take (i + 1) xs))
one-more h written xs i x front now lt is f n =
    let taken : take (i + 1) xs ≡ take i xs ++ x ∷ [] = take_more xs i x lt ∙ ap (λ y. take i xs ++ y ∷ []) (sym is) in
    n ∙ ap (λ a. a ++ map written (filter_map h (x ∷ []))) f
    ∙ sym (map-append written (filter_map h (take i xs)) (filter_map h (x ∷ [])))
    ∙ ap (map written) (sym (filter_map-append h (take i xs) (x ∷ [])))
    ∙ ap (λ ys. map written (filter_map h ys)) (sym taken)
