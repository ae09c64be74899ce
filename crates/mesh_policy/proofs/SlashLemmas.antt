-- Texts cut at their slashes.
use Rattle.std.proofs.Common.{◌≡◌, ℕ, ◌+◌, ◌||◌, Bool, true, false, cond, List, [], ◌∷◌, ◌++◌, Some, None, length}
use Rattle.std.proofs.Common.{take, drop, ap, sym, ◌∙◌, refl, arith, lit<, Bor}
use Rattle.std.proofs.Math.Seq.{take-append_seam}
use Rattle.std.proofs.lemmas.Bool.{or_from, or_parts, or_right}
use Rattle.std.proofs.lemmas.Bool.Decides.{Decides-eqb}
use Rattle.std.proofs.lemmas.List.Splits.{slice_split-cons_yes, slice_split-cons_no, slice_split_first, join_with_byte-slice_split}
use Rattle.std.proofs.lemmas.Str.Pattern.{IsSplitOnceResult, split_once_first, split_parts}
use Rattle.std.specs.List.{after_first, before_first, join_with_byte, onto_first, position_or_len}
use Prim.Native.Nat.{suc}
use lib.Dec.{eqb}
use Rattle.mesh_policy.proofs.TokenLemmas.{lacks_byte}
use Rattle.mesh_policy.specs.Template.{has_slash, segments_of}

-- a text without a slash is one segment
pub split_plain : (x : List ℕ) → has_slash x ≡ false → segments_of x ≡ x ∷ []
split_plain [] h = refl
split_plain (c ∷ cs) h =
    let parts : (eqb c 47 ≡ false) × (has_slash cs ≡ false) = or_parts (eqb c 47) (has_slash cs) h in
    slice_split-cons_no (λ d. eqb d 47) c cs parts.0 ∙ ap (onto_first c) (split_plain cs parts.1)

-- and the first segment where a slash follows it
pub split_seam : (x ys : List ℕ) → has_slash x ≡ false → segments_of (x ++ 47 ∷ ys) ≡ x ∷ segments_of ys
split_seam [] ys h = slice_split-cons_yes (λ d. eqb d 47) 47 ys refl
split_seam (c ∷ cs) ys h =
    let parts : (eqb c 47 ≡ false) × (has_slash cs ≡ false) = or_parts (eqb c 47) (has_slash cs) h in
    slice_split-cons_no (λ d. eqb d 47) c (cs ++ 47 ∷ ys) parts.0 ∙ ap (onto_first c) (split_seam cs ys parts.1)

place_seam : (x ys : List ℕ) → has_slash x ≡ false → position_or_len (λ d. eqb d 47) (x ++ 47 ∷ ys) ≡ length x
place_seam [] ys h = refl
place_seam (c ∷ cs) ys h =
    let parts : (eqb c 47 ≡ false) × (has_slash cs ≡ false) = or_parts (eqb c 47) (has_slash cs) h in
    let below = place_seam cs ys parts.1 in
    rw parts.0 (omega (arith, below))

pub before_seam : (x ys : List ℕ) → has_slash x ≡ false → before_first (λ d. eqb d 47) (x ++ 47 ∷ ys) ≡ x
before_seam x ys h = ap (λ n. take n (x ++ 47 ∷ ys)) (place_seam x ys h) ∙ take-append_seam x (47 ∷ ys)

drop_past : (x ys : List ℕ) → drop (length x + 1) (x ++ 47 ∷ ys) ≡ ys
drop_past [] ys = refl
drop_past (c ∷ cs) ys = let long : length (c ∷ cs) + 1 ≡ suc (length cs + 1) = omega arith in rw long (drop_past cs ys)

pub after_seam : (x ys : List ℕ) → has_slash x ≡ false → after_first (λ d. eqb d 47) (x ++ 47 ∷ ys) ≡ ys
after_seam x ys h = ap (λ n. drop (n + 1) (x ++ 47 ∷ ys)) (place_seam x ys h) ∙ drop_past x ys

pub slash_seam : (x ys : List ℕ) → has_slash (x ++ 47 ∷ ys) ≡ true
slash_seam [] ys = refl
slash_seam (c ∷ cs) ys = or_right (eqb c 47) (has_slash (cs ++ 47 ∷ ys)) (slash_seam cs ys)

abbrev HasCut : List ℕ → Type 0
HasCut t = (x : List ℕ) × (y : List ℕ) × (t ≡ x ++ 47 ∷ y) × (has_slash x ≡ false)

has_cut : (t : List ℕ) → has_slash t ≡ true → HasCut t
has_cut [] h = absurd cc
has_cut (c ∷ cs) h = at_head (eqb c 47) refl h (λ k. has_cut cs k)
  where
    at_head : (b : Bool) → eqb c 47 ≡ b → (b || has_slash cs) ≡ true → (has_slash cs ≡ true → HasCut cs) → HasCut (c ∷ cs)
    at_head true e k rest = ([], cs, ap (λ d. d ∷ cs) ((Decides-eqb c 47).0 e), refl)
    at_head false e k rest =
        let below : HasCut cs = rest k in
        (c ∷ below.0, below.1, ap (λ ys. c ∷ ys) below.2, or_from (eqb c 47) (has_slash below.0) e below.3)

-- a text with a slash is what stands before the first, the slash, and what follows
pub cut : (t : List ℕ) → has_slash t ≡ true → t ≡ before_first (λ d. eqb d 47) t ++ 47 ∷ after_first (λ d. eqb d 47) t
cut t h =
    let found : HasCut t = has_cut t h in
    let before : before_first (λ d. eqb d 47) t ≡ found.0 = ap (before_first (λ d. eqb d 47)) found.2
    ∙ before_seam found.0 found.1 found.3 in
    let after : after_first (λ d. eqb d 47) t ≡ found.1 = ap (after_first (λ d. eqb d 47)) found.2 ∙ after_seam found.0 found.1 found.3 in
    found.2 ∙ ap (λ x. x ++ 47 ∷ found.1) (sym before) ∙ ap (λ y. before_first (λ d. eqb d 47) t ++ 47 ∷ y) (sym after)

-- no segment has a slash
abbrev pub SlashFree : List (List ℕ) → Type 0
SlashFree [] = Unit {0}
SlashFree (x ∷ xs) = (has_slash x ≡ false) × SlashFree xs

pub slash_free : (s : List ℕ) → SlashFree (segments_of s)
slash_free [] = (refl, tt)
slash_free (c ∷ cs) = at_head (eqb c 47) (segments_of cs) refl (slash_free cs)
  where
    at_head : (b : Bool) (ps : List (List ℕ)) → eqb c 47 ≡ b → SlashFree ps → SlashFree (cond b ([] ∷ ps) (onto_first c ps))
    at_head true ps e f = (refl, f)
    at_head false [] e f = (or_from (eqb c 47) false e refl, tt)
    at_head false (p ∷ ps) e f = (or_from (eqb c 47) (has_slash p) e f.0, f.1)

abbrev pub HasSegment : List (List ℕ) → Type 0
HasSegment ps = (first : List ℕ) × (more : List (List ℕ)) × (ps ≡ first ∷ more)

pub some_segment : (s : List ℕ) → HasSegment (segments_of s)
some_segment [] = ([], [], refl)
some_segment (c ∷ cs) = at_head (eqb c 47) (segments_of cs)
  where
    at_head : (b : Bool) (ps : List (List ℕ)) → HasSegment (cond b ([] ∷ ps) (onto_first c ps))
    at_head true ps = ([], ps, refl)
    at_head false [] = (c ∷ [], [], refl)
    at_head false (p ∷ ps) = (c ∷ p, ps, refl)

-- cut and joined again, and joined and cut again
pub join_split : (s : List ℕ) → join_with_byte 47 (segments_of s) ≡ s
join_split s = join_with_byte-slice_split 47 s

pub split_join : (first : List ℕ) (more : List (List ℕ)) → SlashFree (first ∷ more)
    → segments_of (join_with_byte 47 (first ∷ more)) ≡ first ∷ more
split_join first [] f = split_plain first f.0
split_join first (next ∷ more) f =
    split_seam first (join_with_byte 47 (next ∷ more)) f.0 ∙ ap (λ ps. first ∷ ps) (split_join next more f.1)

-- what `split_once` gives of the segments
pub one_more : (s : List ℕ) (x : Bor (List ℕ) × Bor (List ℕ)) → IsSplitOnceResult 47 s (Some x)
    → segments_of s ≡ x.0.now ∷ segments_of x.1.now
one_more s x h =
    let first = split_once_first 47 s (Some x) h (lit< tt) in
    slice_split_first (λ d. eqb d 47) s 0 first.0
    ∙ ap (λ y. y ∷ segments_of (after_first (λ d. eqb d 47) s)) (sym first.1)
    ∙ ap (λ y. x.0.now ∷ segments_of y) (sym first.2)

pub no_more : (s : List ℕ) → IsSplitOnceResult 47 s None → has_slash s ≡ false
no_more s h = lacks_byte 47 s (split_parts 47 s None h (lit< tt))

-- and of a text
pub parts_are : (s : List ℕ) (x : Bor (List ℕ) × Bor (List ℕ)) → IsSplitOnceResult 47 s (Some x)
    → (x.0.now ≡ before_first (λ d. eqb d 47) s) × (x.1.now ≡ after_first (λ d. eqb d 47) s) × (s ≡ x.0.now ++ 47 ∷ x.1.now)
parts_are s x h =
    let first = split_once_first 47 s (Some x) h (lit< tt) in
    let apart = split_parts 47 s (Some x) h (lit< tt) in
    (first.1, first.2, apart.0)
