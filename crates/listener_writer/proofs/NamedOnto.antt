-- Parts by their names, put into an object from the last one on.
use Rattle.std.proofs.Common.{◌≡◌, ℕ, List, [], ◌∷◌, ◌++◌, length, refl, sym, ◌∙◌, ap, arith}
use Rattle.serde_json.specs.Data.{Data, Members, put}
use Rattle.envoy_types.specs.WrittenFields.{named_onto}

-- the last of them is the first that is put in
named_onto-last : {A : Type 0} (name : A → List ℕ) (written : A → Data) (ms : Members) (front : List A) (last : A)
    → named_onto name written ms (front ++ last ∷ []) ≡ named_onto name written (put (name last) (written last) ms) front
named_onto-last name written ms [] last = refl
named_onto-last name written ms (x ∷ front) last = ap (put (name x) (written x)) (named_onto-last name written ms front last)

-- one more is put in
pub put-last : {A : Type 0} (name : A → List ℕ) (written : A → Data) (ms now : Members) (rest front : List A) (last : A)
    (key : List ℕ) (value : Data) → now ≡ put key value ms → key ≡ name last → value ≡ written last → rest ≡ front ++ last ∷ []
    → named_onto name written now front ≡ named_onto name written ms rest
put-last name written ms now rest front last key value e k v r =
    ap (λ m. named_onto name written m front) (e ∙ ap (λ n. put n value ms) k ∙ ap (λ d. put (name last) d ms) v)
    ∙ sym (named_onto-last name written ms front last) ∙ ap (named_onto name written ms) (sym r)

-- none is left
pub none-left : {A : Type 0} (name : A → List ℕ) (written : A → Data) (ms : Members) (rest : List A) → length rest ≡ 0
    → ms ≡ named_onto name written ms rest
none-left name written ms [] h = refl
none-left name written ms (x ∷ rest) h = absurd (omega arith)
