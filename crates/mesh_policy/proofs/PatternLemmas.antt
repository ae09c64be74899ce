-- Stars at the ends of a text.
use Rattle.std.proofs.Common.{◌≡◌, ◌≢◌, ℕ, ◌-◌, ◌<◌, true, false, List, [], ◌∷◌, ◌++◌, length, take, drop, get_or, ap, sym}
use Rattle.std.proofs.Common.{◌∙◌, refl, arith, if◌then◌else◌, drop-cons, take-append-drop}
use Rattle.std.proofs.Math.Seq.{take-append_seam}
use Rattle.std.proofs.Math.ListN.{drop_of_length-le}
use Rattle.std.proofs.lemmas.Bool.{cond-false, cond-true, false_from_ne_true}
use Rattle.std.proofs.lemmas.Bool.Decides.{Decides-eqb}
use Rattle.std.proofs.lemmas.List.{get_or_push, length_push}
use Rattle.std.proofs.lemmas.Slice.Eq.{bytes_eq-Decides}
use Rattle.std.specs.Str.{bytes_eq}
use Rattle.mesh_policy.specs.Pattern.{begins_with_star, ends_with_star, pattern_of, unstarred_pattern_of}
use Rattle.mesh_policy.specs.declared.pattern.Pattern.TheVariants.{Exact, Prefix, Suffix, Present}

pub no_star_in_front : (s : List ℕ) → ((rest : List ℕ) → s ≢ 42 ∷ rest) → begins_with_star s ≡ false
no_star_in_front [] h = refl
no_star_in_front (x ∷ xs) h = false_from_ne_true _ (λ e. h xs (ap (λ y. y ∷ xs) ((Decides-eqb x 42).0 e)))

pub star_at_end : (s front : List ℕ) → s ≡ front ++ 42 ∷ [] → Prefix front ≡ unstarred_pattern_of s
star_at_end s front e =
    let long : length s - 1 ≡ length front = omega (arith, ap length e, length_push front 42) in
    let last : get_or s (length s - 1) 0 ≡ 42 = ap (λ i. get_or s i 0) long ∙ ap (λ xs. get_or xs (length front) 0) e
    ∙ get_or_push front 42 0 (length front) refl in
    let rest : take (length s - 1) s ≡ front = ap (λ i. take i s) long ∙ ap (take (length front)) e ∙ take-append_seam front (42 ∷ []) in
    ap Prefix (sym rest) ∙ sym (cond-true (ends_with_star s) (Prefix (take (length s - 1) s)) (Exact s) ((Decides-eqb _ 42).1 last))

last_apart : (s : List ℕ) → s ≢ [] → s ≡ take (length s - 1) s ++ get_or s (length s - 1) 0 ∷ []
last_apart [] h = absurd (h refl)
last_apart (x ∷ xs) h =
    let n = length xs in
    let inside : n < length (x ∷ xs) = omega arith in
    let past : drop n xs ≡ [] = drop_of_length-le xs (omega arith) in
    let end : drop n (x ∷ xs) ≡ get_or (x ∷ xs) n 0 ∷ [] = drop-cons (x ∷ xs) n 0 inside ∙ ap (λ ys. get_or (x ∷ xs) n 0 ∷ ys) past in
    let last : length (x ∷ xs) - 1 ≡ n = omega arith in
    rw last (sym (take-append-drop n (x ∷ xs)) ∙ ap (λ ys. take n (x ∷ xs) ++ ys) end)

pub no_star_at_end : (s : List ℕ) → s ≢ [] → ((front : List ℕ) → s ≢ front ++ 42 ∷ []) → Exact s ≡ unstarred_pattern_of s
no_star_at_end s written h =
    sym (cond-false (ends_with_star s) (Prefix (take (length s - 1) s)) (Exact s)
    (false_from_ne_true _ (λ e.
    h (take (length s - 1) s) (last_apart s written ∙ ap (λ y. take (length s - 1) s ++ y ∷ []) ((Decides-eqb _ 42).0 e)))))

-- a text that is a star alone begins with one
pub not_only_star : (s front : List ℕ) → begins_with_star s ≡ false → s ≡ front ++ 42 ∷ [] → front ≢ []
not_only_star s front h e none =
    let star : s ≡ 42 ∷ [] = e ∙ ap (λ xs. xs ++ 42 ∷ []) none in
    let first : true ≡ false = sym (ap begins_with_star star) ∙ h in
    absurd cc

pub pattern_unstarred : (s : List ℕ) → begins_with_star s ≡ false → unstarred_pattern_of s ≡ pattern_of s
pattern_unstarred s h =
    let apart : bytes_eq s (42 ∷ []) ≡ true → true ≡ false = λ e. sym (ap begins_with_star ((bytes_eq-Decides s (42 ∷ [])).0 e)) ∙ h in
    let not_alone : bytes_eq s (42 ∷ []) ≡ false = false_from_ne_true _ (λ e. let first = apart e in absurd cc) in
    sym (cond-false (bytes_eq s (42 ∷ [])) Present (if begins_with_star s then Suffix (drop 1 s) else unstarred_pattern_of s) not_alone
    ∙ cond-false (begins_with_star s) (Suffix (drop 1 s)) (unstarred_pattern_of s) h)
