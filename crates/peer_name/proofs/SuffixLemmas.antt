-- A suffix of a name is one of the principal behind `spiffe://`, but where it is an end of `spiffe://` and the principal.
use Rattle.std.proofs.Common.{◌≡◌, ℕ, ◌<◌, ◌+◌, Bool, true, false, not, ◌&&◌, ◌||◌, List, [], ◌∷◌, ◌++◌, length, drop}
use Rattle.std.proofs.Common.{if◌then◌else◌, refl, sym, ◌∙◌, ap, arith, length-append}
use Rattle.std.proofs.Math.Bool.{and-false}
use Rattle.std.proofs.lemmas.Bool.{false_from_ne_true, and_from}
use Rattle.std.proofs.lemmas.Bool.Decides.{Decides-eqb}
use Rattle.std.proofs.lemmas.Slice.Eq.{bytes_eq-Decides, starts_is}
use Rattle.std.specs.List.{list_all, starts_with}
use Rattle.std.specs.Str.{bytes_eq}
use lib.Dec.{eqb}
use Rattle.mesh_text.specs.Parts.{is_suffix}
use Rattle.mesh_policy.specs.PeerNames.{scheme}
use Rattle.peer_name.specs.Principal.{scheme_ends}

-- one of a list, or else the last
abbrev any-before : {A : Type 0} (test : A → Bool) → List A → Bool → Bool
any-before test [] last = last
any-before test (x ∷ xs) last = any-before test xs (test x || last)

-- where none of the list is to hold, the last decides
none-before : {A : Type 0} (test : A → Bool) (xs : List A) (last : Bool)
    → (any-before test xs last && list_all (λ x. not (test x)) xs) ≡ (last && list_all (λ x. not (test x)) xs)
none-before test [] last = refl
none-before test (x ∷ xs) last = at (test x) (none-before test xs) where
  at : (b : Bool) → ((l : Bool) → (any-before test xs l && list_all (λ y. not (test y)) xs) ≡ (l && list_all (λ y. not (test y)) xs))
      → (any-before test xs (b || last) && (not b && list_all (λ y. not (test y)) xs))
      ≡ (last && (not b && list_all (λ y. not (test y)) xs))
  at true rest = and-false (any-before test xs true) ∙ sym (and-false last)
  at false rest = rest last

-- a text ends with none that is longer
differs : (v t : List ℕ) → length t < length v → bytes_eq v t ≡ false
differs v t h = false_from_ne_true _ (λ e.
    let long : length v ≡ length t = ap length ((bytes_eq-Decides v t).0 e) in
    absurd (omega (arith, long, h)))

no-suffix : (v x : List ℕ) → length x < length v → is_suffix v x ≡ false
no-suffix v [] h = differs v [] h
no-suffix v (c ∷ cs) h =
    let here : bytes_eq v (c ∷ cs) ≡ false = differs v (c ∷ cs) h in
    let below : is_suffix v cs ≡ false = no-suffix v cs (omega (arith, h)) in
    rw (here, below) refl

-- so no text is a suffix of what stands behind a front of it
is-other : (v x : List ℕ) (c : ℕ) (front : List ℕ) → is_suffix v x ≡ true → not (bytes_eq v (c ∷ front ++ x)) ≡ true
is-other v x c front h = ap not (false_from_ne_true _ (λ e.
    let long : length v ≡ length (c ∷ front ++ x) = ap length ((bytes_eq-Decides v (c ∷ front ++ x)).0 e) in
    let more : length (front ++ x) ≡ length front + length x = length-append front x in
    let none : is_suffix v x ≡ false = no-suffix v x (omega (arith, long, more)) in
    absurd cc))

abbrev HasNoEmpty : List (List ℕ) → Type 0
HasNoEmpty [] = Unit {0}
HasNoEmpty ([] ∷ fronts) = ⊥
HasNoEmpty ((c ∷ front) ∷ fronts) = HasNoEmpty fronts

are-other : (v x : List ℕ) (fronts : List (List ℕ)) → HasNoEmpty fronts → is_suffix v x ≡ true
    → list_all (λ front. not (bytes_eq v (front ++ x))) fronts ≡ true
are-other v x [] some h = refl
are-other v x ([] ∷ fronts) some h = absurd some
are-other v x ((c ∷ front) ∷ fronts) some h = and_from _ _ (is-other v x c front h) (are-other v x fronts some h)

guarded : (v x : List ℕ) (b : Bool) → is_suffix v x ≡ b
    → (is_suffix v x && list_all (λ front. not (bytes_eq v (front ++ x))) scheme_ends) ≡ is_suffix v x
guarded v x true e = and_from _ _ e (are-other v x scheme_ends tt e) ∙ sym e
guarded v x false e = ap (λ (b : Bool). b && list_all (λ front. not (bytes_eq v (front ++ x))) scheme_ends) e ∙ sym e

pub suffix-behind-scheme : (v x : List ℕ)
    → (is_suffix v (scheme ++ x) && list_all (λ end. not (bytes_eq v (end ++ x))) scheme_ends) ≡ is_suffix v x
suffix-behind-scheme v x = none-before (λ end. bytes_eq v (end ++ x)) scheme_ends (is_suffix v x) ∙ guarded v x (is_suffix v x) refl

-- ---- one end

same-eqb : (c : ℕ) → eqb c c ≡ true
same-eqb c = (Decides-eqb c c).1 refl

same-front : (front a b : List ℕ) → bytes_eq (front ++ a) (front ++ b) ≡ bytes_eq a b
same-front [] a b = refl
same-front (c ∷ front) a b = ap (λ (same : Bool). same && bytes_eq (front ++ a) (front ++ b)) (same-eqb c) ∙ same-front front a b

-- what stands behind an end is the principal where the text is the end and the principal
pub behind-end : (v x end : List ℕ)
    → (if starts_with eqb v end then not (bytes_eq (drop (length end) v) x) else true) ≡ not (bytes_eq v (end ++ x))
behind-end v x end = at (starts_with eqb v end) refl where
  begins : (starts_with eqb v end ≡ true → v ≡ end ++ drop (length end) v)
      × ((rest : List ℕ) → v ≡ end ++ rest → starts_with eqb v end ≡ true)
  begins = starts_is Decides-eqb v end (starts_with eqb v end) refl

  at : (b : Bool) → starts_with eqb v end ≡ b → (if b then not (bytes_eq (drop (length end) v) x) else true) ≡ not (bytes_eq v (end ++ x))
  at true e = ap not (sym (same-front end (drop (length end) v) x) ∙ ap (λ (t : List ℕ). bytes_eq t (end ++ x)) (sym (begins.0 e)))
  at false e = sym (ap not (false_from_ne_true _ (λ k.
      let begun : starts_with eqb v end ≡ true = begins.1 x ((bytes_eq-Decides v (end ++ x)).0 k) in
      absurd cc)))
