-- Which texts with a slash stand in a peer's name, by what its segments are.
use Rattle.std.proofs.Common.{◌≡◌, ℕ, Bool, true, false, not, ◌&&◌, ◌||◌, ◌⊎◌, inl, inr}
use Rattle.std.proofs.Common.{List, [], ◌∷◌, ◌++◌, codes, refl, sym, ◌∙◌, ap}
use Rattle.std.proofs.Math.Bool.{and_comm, and-false, and-true, or_comm, or-false}
use Rattle.std.proofs.lemmas.Bool.{and_right, or_cases, or_from, or_parts}
use Rattle.std.proofs.lemmas.Slice.Eq.{bytes_eq-Decides}
use Rattle.std.specs.Str.{bytes_eq}
use lib.Dec.{eqb}
use Rattle.mesh_text.specs.Bytes.{slash}
use Rattle.mesh_text.specs.Parts.{is_part, is_prefix, is_suffix}
use Rattle.mesh_policy.specs.Template.{has_slash}
use Rattle.peer_name.specs.Namespace.{is_end_of_ns, is_front_of_sa}
use Rattle.peer_name.proofs.Segments.{part_none, part_seam, prefix_none, prefix_seam, prefix_within, suffix_empty}

or_alike : (a b c d : Bool) → a ≡ c → b ≡ d → (a || b) ≡ (c || d)
or_alike a b c d e f = ap (λ (x : Bool). x || b) e ∙ ap (λ (y : Bool). c || y) f

-- different first segments
prefix_other : (x w y r : List ℕ) → has_slash x ≡ false → has_slash y ≡ false → bytes_eq x y ≡ false
    → is_prefix (x ++ slash ∷ w) (y ++ slash ∷ r) ≡ false
prefix_other x w y r h k apart = prefix_seam x w y r h k ∙ ap (λ (b : Bool). b && is_prefix w r) apart

-- it doesn't stand across the first slash
part_past : (x w y r : List ℕ) → has_slash x ≡ false → has_slash y ≡ false → is_prefix w r ≡ false
    → is_part (x ++ slash ∷ w) (y ++ slash ∷ r) ≡ is_part (x ++ slash ∷ w) r
part_past x w y r h k e =
    part_seam x w y r h k ∙ ap (λ (b : Bool). b || is_part (x ++ slash ∷ w) r) (and_right (is_suffix x y) (is_prefix w r) e)

-- it begins at the first slash, or behind it
part_at_slash : (w y r : List ℕ) → has_slash y ≡ false → is_part (slash ∷ w) (y ++ slash ∷ r) ≡ (is_prefix w r || is_part (slash ∷ w) r)
part_at_slash w y r k =
    part_seam [] w y r refl k ∙ ap (λ (b : Bool). (b && is_prefix w r) || is_part (slash ∷ w) r) (suffix_empty y)

abbrev scheme_segment : List ℕ
scheme_segment = codes "spiffe:"

abbrev ns : List ℕ
ns = codes "ns"

abbrev sa : List ℕ
sa = codes "sa"

-- a name by its seven segments
abbrev pub segmented : List ℕ → List ℕ → List ℕ → List ℕ
segmented trust namespace account =
    scheme_segment ++ slash ∷ ([] ++ slash ∷ (trust ++ slash ∷ (ns ++ slash ∷ (namespace ++ slash ∷ (sa ++ slash ∷ account)))))

-- ---- texts that stand in the words `ns` and `sa`

front_of_sa : (c : ℕ) (cs : List ℕ) → is_prefix (c ∷ cs) sa ≡ is_front_of_sa (c ∷ cs)
front_of_sa c [] = sym (at (eqb c 115)) where
  at : (b : Bool) → ((b && true) || (b && false)) ≡ (b && true)
  at true = refl
  at false = refl
front_of_sa c (d ∷ []) = sym (at (eqb c 115) (eqb d 97)) where
  at : (b e : Bool) → ((b && false) || (b && (e && true))) ≡ (b && (e && true))
  at true e = refl
  at false e = refl
front_of_sa c (d ∷ e ∷ es) = sym (at (eqb c 115) (eqb d 97)) where
  at : (b e : Bool) → ((b && false) || (b && (e && false))) ≡ (b && (e && false))
  at true e = refl
  at false e = refl

-- of the fronts of `sa` the empty one alone is left, which begins every namespace
only_empty_front : (x N : List ℕ) (b : Bool) → is_front_of_sa x ≡ false → (is_prefix x N || (b && is_prefix x sa)) ≡ is_prefix x N
only_empty_front [] N b e = refl
only_empty_front (c ∷ cs) N b e =
    ap (λ (y : Bool). is_prefix (c ∷ cs) N || y) (and_right b (is_prefix (c ∷ cs) sa) (front_of_sa c cs ∙ e))
    ∙ or-false (is_prefix (c ∷ cs) N)

-- of the ends of `ns` the empty one alone is left, with which every namespace ends
only_empty_end : (x N : List ℕ) (b d : Bool) → is_end_of_ns x ≡ false
    → ((is_suffix x [] && b) || ((is_suffix x ns && d) || is_suffix x N)) ≡ is_suffix x N
only_empty_end [] N b d e = at b d (suffix_empty N) where
  at : (b d : Bool) → is_suffix [] N ≡ true → (b || (d || is_suffix [] N)) ≡ is_suffix [] N
  at true d h = sym h
  at false true h = sym h
  at false false h = refl
only_empty_end (c ∷ cs) N b d e =
    let parts = or_parts (bytes_eq (c ∷ cs) (codes "s")) (bytes_eq (c ∷ cs) ns) e in
    ap (λ (y : Bool). (y && d) || is_suffix (c ∷ cs) N)
    (or_from (bytes_eq (c ∷ cs) ns) _ parts.1 (or_from (bytes_eq (c ∷ cs) (codes "s")) _ parts.0 refl))

-- neither of the two begins `ns`
not_in_ns : (x N : List ℕ) → is_front_of_sa x ≡ true → bytes_eq ns N ≡ true → is_prefix x N ≡ false
not_in_ns x N e same =
    ap (is_prefix x) (sym ((bytes_eq-Decides ns N).0 same)) ∙ at (or_cases (bytes_eq x (codes "s")) (bytes_eq x sa) e)
  where
    at : (bytes_eq x (codes "s") ≡ true) ⊎ (bytes_eq x sa ≡ true) → is_prefix x ns ≡ false
    at (inl h) = ap (λ (y : List ℕ). is_prefix y ns) ((bytes_eq-Decides x (codes "s")).0 h)
    at (inr h) = ap (λ (y : List ℕ). is_prefix y ns) ((bytes_eq-Decides x sa).0 h)

-- neither of the two ends `sa`
not_in_sa : (x N : List ℕ) → is_end_of_ns x ≡ true → bytes_eq sa N ≡ true → is_suffix x N ≡ false
not_in_sa x N e same =
    ap (is_suffix x) (sym ((bytes_eq-Decides sa N).0 same)) ∙ at (or_cases (bytes_eq x (codes "s")) (bytes_eq x ns) e)
  where
    at : (bytes_eq x (codes "s") ≡ true) ⊎ (bytes_eq x ns ≡ true) → is_suffix x sa ≡ false
    at (inl h) = ap (λ (y : List ℕ). is_suffix y sa) ((bytes_eq-Decides x (codes "s")).0 h)
    at (inr h) = ap (λ (y : List ℕ). is_suffix y sa) ((bytes_eq-Decides x ns).0 h)

not_empty : (x : List ℕ) → is_end_of_ns x ≡ true → is_suffix x [] ≡ false
not_empty [] e = absurd cc
not_empty (c ∷ cs) e = refl

-- what the excluded names add, the exclusion takes away
but_for : (here there left_out : Bool) → (left_out ≡ true → here ≡ false)
    → ((here || (left_out && there)) && (not left_out && true)) ≡ here
but_for here there true h = and-false (here || there) ∙ sym (h refl)
but_for true there false h = refl
but_for false there false h = refl

-- a name of the trust domain T, the namespace N and the account A, none of which has a slash
module _ (T N A : List ℕ) (t : has_slash T ≡ false) (n : has_slash N ≡ false) (a : has_slash A ≡ false) where
  abbrev behind_sa : List ℕ
  behind_sa = sa ++ slash ∷ A

  abbrev behind_namespace : List ℕ
  behind_namespace = N ++ slash ∷ behind_sa

  abbrev behind_trust : List ℕ
  behind_trust = ns ++ slash ∷ behind_namespace

  -- ---- behind `/ns/`

  ns_nowhere : (v : List ℕ) → is_part (slash ∷ (ns ++ slash ∷ v)) behind_namespace ≡ false
  ns_nowhere v =
      part_past [] (ns ++ slash ∷ v) N behind_sa refl n (prefix_other ns v sa A refl refl refl)
      ∙ part_past [] (ns ++ slash ∷ v) sa A refl refl (prefix_none ns v A a)
      ∙ part_none [] (ns ++ slash ∷ v) A a

  ns_twice : (v : List ℕ)
      → is_part (slash ∷ (ns ++ slash ∷ v)) (T ++ slash ∷ behind_trust)
      ≡ (is_prefix v behind_namespace || (bytes_eq ns N && is_prefix v behind_sa))
  ns_twice v =
      part_at_slash (ns ++ slash ∷ v) T behind_trust t
      ∙ or_alike _ _ (is_prefix v behind_namespace) (bytes_eq ns N && is_prefix v behind_sa)
      (prefix_seam ns v ns behind_namespace refl refl)
      (part_at_slash (ns ++ slash ∷ v) ns behind_namespace refl
      ∙ or_alike _ _ (bytes_eq ns N && is_prefix v behind_sa) false (prefix_seam ns v N behind_sa refl n) (ns_nowhere v)
      ∙ or-false (bytes_eq ns N && is_prefix v behind_sa))

  -- the namespace and what follows it begin with the text, or, in the namespace `ns`, what follows the namespace
  behind_ns : (v : List ℕ) → bytes_eq ns T ≡ false
      → is_part (codes "/ns/" ++ v) (segmented T N A) ≡ (is_prefix v behind_namespace || (bytes_eq ns N && is_prefix v behind_sa))
  behind_ns v apart =
      part_past [] (ns ++ slash ∷ v) scheme_segment ([] ++ slash ∷ (T ++ slash ∷ behind_trust)) refl refl
      (prefix_other ns v [] (T ++ slash ∷ behind_trust) refl refl refl)
      ∙ part_past [] (ns ++ slash ∷ v) [] (T ++ slash ∷ behind_trust) refl refl (prefix_other ns v T behind_trust refl t apart)
      ∙ ns_twice v

  pub exact-part : (x : List ℕ) → has_slash x ≡ false → bytes_eq ns T ≡ false
      → is_part (codes "/ns/" ++ x ++ codes "/sa/") (segmented T N A) ≡ bytes_eq x N
  exact-part x h apart =
      behind_ns (x ++ slash ∷ (sa ++ slash ∷ [])) apart
      ∙ or_alike _ _ (bytes_eq x N) false
      (prefix_seam x (sa ++ slash ∷ []) N behind_sa h n
      ∙ ap (λ (b : Bool). bytes_eq x N && b) (prefix_seam sa [] sa A refl refl)
      ∙ and-true (bytes_eq x N))
      (and_right (bytes_eq ns N) _ (prefix_seam x (sa ++ slash ∷ []) sa A h refl
      ∙ and_right (bytes_eq x sa) _ (prefix_none sa [] A a)))
      ∙ or-false (bytes_eq x N)

  prefix-part : (x : List ℕ) → has_slash x ≡ false → bytes_eq ns T ≡ false
      → is_part (codes "/ns/" ++ x) (segmented T N A) ≡ (is_prefix x N || (bytes_eq ns N && is_prefix x sa))
  prefix-part x h apart =
      behind_ns x apart
      ∙ or_alike _ _ (is_prefix x N) (bytes_eq ns N && is_prefix x sa) (prefix_within x N behind_sa h)
      (ap (λ (b : Bool). bytes_eq ns N && b) (prefix_within x sa A h))

  -- ---- before `/sa/`

  abbrev before_sa : List ℕ → List ℕ
  before_sa x = x ++ slash ∷ (sa ++ slash ∷ [])

  -- the text ends a segment, and the next one is `sa` with more behind it
  part_at_sa : (x y z r : List ℕ) → has_slash x ≡ false → has_slash y ≡ false → has_slash z ≡ false
      → is_part (before_sa x) (y ++ slash ∷ (z ++ slash ∷ r)) ≡ ((is_suffix x y && bytes_eq sa z) || is_part (before_sa x) (z ++ slash ∷ r))
  part_at_sa x y z r h k l =
      part_seam x (sa ++ slash ∷ []) y (z ++ slash ∷ r) h k
      ∙ ap (λ (b : Bool). (is_suffix x y && b) || is_part (before_sa x) (z ++ slash ∷ r))
      (prefix_seam sa [] z r refl l ∙ and-true (bytes_eq sa z))

  -- no segment but the last stands behind `sa`
  sa_last : (x : List ℕ) → has_slash x ≡ false → is_part (before_sa x) behind_namespace ≡ is_suffix x N
  sa_last x h =
      part_at_sa x N sa A h n refl
      ∙ or_alike _ _ (is_suffix x N) false (and-true (is_suffix x N))
      (part_past x (sa ++ slash ∷ []) sa A h refl (prefix_none sa [] A a) ∙ part_none x (sa ++ slash ∷ []) A a)
      ∙ or-false (is_suffix x N)

  sa_behind_trust : (x : List ℕ) → has_slash x ≡ false
      → is_part (before_sa x) (T ++ slash ∷ behind_trust) ≡ ((is_suffix x ns && bytes_eq sa N) || is_suffix x N)
  sa_behind_trust x h =
      part_past x (sa ++ slash ∷ []) T behind_trust h t (prefix_other sa [] ns behind_namespace refl refl refl)
      ∙ part_at_sa x ns N behind_sa h refl n
      ∙ ap (λ (b : Bool). (is_suffix x ns && bytes_eq sa N) || b) (sa_last x h)

  -- the empty text, in a trust domain `sa`; what `ns` ends with, in a namespace `sa`; what the namespace ends with
  suffix-part : (x : List ℕ) → has_slash x ≡ false
      → is_part (x ++ codes "/sa/") (segmented T N A)
      ≡ ((is_suffix x [] && bytes_eq sa T) || ((is_suffix x ns && bytes_eq sa N) || is_suffix x N))
  suffix-part x h =
      part_past x (sa ++ slash ∷ []) scheme_segment ([] ++ slash ∷ (T ++ slash ∷ behind_trust)) h refl
      (prefix_other sa [] [] (T ++ slash ∷ behind_trust) refl refl refl)
      ∙ part_at_sa x [] T behind_trust h refl t
      ∙ ap (λ (b : Bool). (is_suffix x [] && bytes_eq sa T) || b) (sa_behind_trust x h)

  -- ---- the texts that stand in `ns` or `sa` as well

  pub prefix-other : (x : List ℕ) → has_slash x ≡ false → bytes_eq ns T ≡ false → is_front_of_sa x ≡ false
      → is_part (codes "/ns/" ++ x) (segmented T N A) ≡ is_prefix x N
  prefix-other x h apart e = prefix-part x h apart ∙ only_empty_front x N (bytes_eq ns N) e

  pub prefix-of_sa : (x : List ℕ) → has_slash x ≡ false → bytes_eq ns T ≡ false → is_front_of_sa x ≡ true
      → (is_part (codes "/ns/" ++ x) (segmented T N A) && (not (is_part (codes "/ns/ns/sa/") (segmented T N A)) && true)) ≡ is_prefix x N
  prefix-of_sa x h apart e =
      ap (λ (b : Bool). b && (not (is_part (codes "/ns/ns/sa/") (segmented T N A)) && true)) (prefix-part x h apart)
      ∙ ap (λ (b : Bool). (is_prefix x N || (bytes_eq ns N && is_prefix x sa)) && (not b && true)) (exact-part ns refl apart)
      ∙ but_for (is_prefix x N) (is_prefix x sa) (bytes_eq ns N) (λ same. not_in_ns x N e same)

  pub suffix-other : (x : List ℕ) → has_slash x ≡ false → is_end_of_ns x ≡ false
      → is_part (x ++ codes "/sa/") (segmented T N A) ≡ is_suffix x N
  suffix-other x h e = suffix-part x h ∙ only_empty_end x N (bytes_eq sa T) (bytes_eq sa N) e

  pub suffix-of_ns : (x : List ℕ) → has_slash x ≡ false → bytes_eq ns T ≡ false → is_end_of_ns x ≡ true
      → (is_part (x ++ codes "/sa/") (segmented T N A) && (not (is_part (codes "/ns/sa/sa/") (segmented T N A)) && true)) ≡ is_suffix x N
  suffix-of_ns x h apart e =
      ap (λ (b : Bool). b && (not (is_part (codes "/ns/sa/sa/") (segmented T N A)) && true)) (suffix-part x h)
      ∙ ap (λ (b : Bool). ((is_suffix x [] && bytes_eq sa T) || ((is_suffix x ns && bytes_eq sa N) || is_suffix x N)) && (not b && true))
      (exact-part sa refl apart)
      ∙ ap (λ (b : Bool). ((b && bytes_eq sa T) || ((is_suffix x ns && bytes_eq sa N) || is_suffix x N)) && (not (bytes_eq sa N) && true))
      (not_empty x e)
      ∙ ap (λ (b : Bool). b && (not (bytes_eq sa N) && true)) (or_comm (is_suffix x ns && bytes_eq sa N) (is_suffix x N))
      ∙ ap (λ (b : Bool). (is_suffix x N || b) && (not (bytes_eq sa N) && true)) (and_comm (is_suffix x ns) (bytes_eq sa N))
      ∙ but_for (is_suffix x N) (is_suffix x ns) (bytes_eq sa N) (λ same. not_in_sa x N e same)
