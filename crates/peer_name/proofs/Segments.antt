-- Where a text with slashes begins another, or stands in it: segment by segment.
use Rattle.std.proofs.Common.{◌≡◌, ℕ, Bool, true, false, ◌&&◌, ◌||◌, List, [], ◌∷◌, ◌++◌, refl, sym, ◌∙◌, ap}
use Rattle.std.proofs.Math.Bool.{and_assoc, and-false}
use Rattle.std.proofs.lemmas.Bool.{false_from_ne_true, or_from, or_parts}
use Rattle.std.proofs.lemmas.Bool.Decides.{Decides-eqb}
use Rattle.std.proofs.lemmas.Slice.Eq.{bytes_eq-Decides}
use Rattle.std.specs.Str.{bytes_eq}
use lib.Dec.{eqb}
use Rattle.mesh_text.specs.Bytes.{slash}
use Rattle.mesh_text.specs.Parts.{is_part, is_prefix, is_suffix}
use Rattle.mesh_policy.specs.Template.{has_slash}

slash_apart : (c : ℕ) → eqb c slash ≡ false → eqb slash c ≡ false
slash_apart c h =
    false_from_ne_true _ (λ e. let same : true ≡ false = sym ((Decides-eqb c slash).1 (sym ((Decides-eqb slash c).0 e))) ∙ h in absurd cc)

-- ---- where it begins a text

-- a text without a slash begins with none that has one
pub prefix_none : (x w t : List ℕ) → has_slash t ≡ false → is_prefix (x ++ slash ∷ w) t ≡ false
prefix_none [] w [] h = refl
prefix_none [] w (d ∷ ds) h = ap (λ (b : Bool). b && is_prefix w ds) (slash_apart d (or_parts (eqb d slash) (has_slash ds) h).0)
prefix_none (c ∷ cs) w [] h = refl
prefix_none (c ∷ cs) w (d ∷ ds) h =
    ap (λ (b : Bool). eqb c d && b) (prefix_none cs w ds (or_parts (eqb d slash) (has_slash ds) h).1) ∙ and-false (eqb c d)

-- the first segments are the same, and the rest begins with the rest
pub prefix_seam : (x w y r : List ℕ) → has_slash x ≡ false → has_slash y ≡ false
    → is_prefix (x ++ slash ∷ w) (y ++ slash ∷ r) ≡ (bytes_eq x y && is_prefix w r)
prefix_seam [] w [] r h k = refl
prefix_seam [] w (d ∷ ds) r h k =
    ap (λ (b : Bool). b && is_prefix w (ds ++ slash ∷ r)) (slash_apart d (or_parts (eqb d slash) (has_slash ds) k).0)
prefix_seam (c ∷ cs) w [] r h k = ap (λ (b : Bool). b && is_prefix (cs ++ slash ∷ w) r) (or_parts (eqb c slash) (has_slash cs) h).0
prefix_seam (c ∷ cs) w (d ∷ ds) r h k =
    let own = or_parts (eqb c slash) (has_slash cs) h in
    let other = or_parts (eqb d slash) (has_slash ds) k in
    ap (λ (b : Bool). eqb c d && b) (prefix_seam cs w ds r own.1 other.1)
    ∙ sym (and_assoc (eqb c d) (bytes_eq cs ds) (is_prefix w r))

-- a text without a slash begins the first segment
pub prefix_within : (x y r : List ℕ) → has_slash x ≡ false → is_prefix x (y ++ slash ∷ r) ≡ is_prefix x y
prefix_within [] y r h = refl
prefix_within (c ∷ cs) [] r h = ap (λ (b : Bool). b && is_prefix cs r) (or_parts (eqb c slash) (has_slash cs) h).0
prefix_within (c ∷ cs) (d ∷ ds) r h =
    ap (λ (b : Bool). eqb c d && b) (prefix_within cs ds r (or_parts (eqb c slash) (has_slash cs) h).1)

-- ---- where it stands in a text

-- in a text without a slash stands none that has one
pub part_none : (x w t : List ℕ) → has_slash t ≡ false → is_part (x ++ slash ∷ w) t ≡ false
part_none x w [] h = prefix_none x w [] h
part_none x w (d ∷ ds) h =
    or_from _ _ (prefix_none x w (d ∷ ds) h) (part_none x w ds (or_parts (eqb d slash) (has_slash ds) h).1)

or_over : (a b p q : Bool) → ((a && p) || ((b && p) || q)) ≡ (((a || b) && p) || q)
or_over true true true q = refl
or_over true true false q = refl
or_over true false true q = refl
or_over true false false q = refl
or_over false b p q = refl

-- it stands across the first slash, or behind it
pub part_seam : (x w y r : List ℕ) → has_slash x ≡ false → has_slash y ≡ false
    → is_part (x ++ slash ∷ w) (y ++ slash ∷ r) ≡ ((is_suffix x y && is_prefix w r) || is_part (x ++ slash ∷ w) r)
part_seam x w [] r h k = ap (λ (b : Bool). b || is_part (x ++ slash ∷ w) r) (prefix_seam x w [] r h k)
part_seam x w (d ∷ ds) r h k =
    let other = or_parts (eqb d slash) (has_slash ds) k in
    ap (λ (b : Bool). b || is_part (x ++ slash ∷ w) (ds ++ slash ∷ r)) (prefix_seam x w (d ∷ ds) r h k)
    ∙ ap (λ (b : Bool). (bytes_eq x (d ∷ ds) && is_prefix w r) || b) (part_seam x w ds r h other.1)
    ∙ or_over (bytes_eq x (d ∷ ds)) (is_suffix x ds) (is_prefix w r) (is_part (x ++ slash ∷ w) r)

-- each text ends with the empty one
pub suffix_empty : (t : List ℕ) → is_suffix [] t ≡ true
suffix_empty [] = refl
suffix_empty (c ∷ cs) = suffix_empty cs

-- ---- texts with a slash against texts without

slash_kept : (b : Bool) (cs : List ℕ) → (b || has_slash cs) ≡ true → b ≡ false → has_slash cs ≡ true
slash_kept true cs h k = absurd cc
slash_kept false cs h k = h

-- no text without a slash begins or ends with one that has a slash, or is one
pub prefix_slash : (v t : List ℕ) → has_slash v ≡ true → has_slash t ≡ false → is_prefix v t ≡ false
prefix_slash [] t h k = absurd cc
prefix_slash (c ∷ cs) [] h k = refl
prefix_slash (c ∷ cs) (d ∷ ds) h k =
    let other = or_parts (eqb d slash) (has_slash ds) k in
    at (eqb c d) refl (λ kept. prefix_slash cs ds kept other.1)
  where
    at : (b : Bool) → eqb c d ≡ b → (has_slash cs ≡ true → is_prefix cs ds ≡ false) → (b && is_prefix cs ds) ≡ false
    at true e inner =
        let same : c ≡ d = (Decides-eqb c d).0 e in
        inner (slash_kept (eqb c slash) cs h (ap (λ x. eqb x slash) same ∙ (or_parts (eqb d slash) (has_slash ds) k).0))
    at false e inner = refl

pub same_slash : (v t : List ℕ) → has_slash v ≡ true → has_slash t ≡ false → bytes_eq v t ≡ false
same_slash v t h k =
    false_from_ne_true _ (λ e. let apart : true ≡ false = sym h ∙ ap has_slash ((bytes_eq-Decides v t).0 e) ∙ k in absurd cc)

pub suffix_slash : (v t : List ℕ) → has_slash v ≡ true → has_slash t ≡ false → is_suffix v t ≡ false
suffix_slash v [] h k = same_slash v [] h k
suffix_slash v (d ∷ ds) h k = or_from _ _ (same_slash v (d ∷ ds) h k) (suffix_slash v ds h (or_parts (eqb d slash) (has_slash ds) k).1)
