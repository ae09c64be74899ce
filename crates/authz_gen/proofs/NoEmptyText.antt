-- A match value that is not empty has no empty text in its form.
use Rattle.std.proofs.Common.{◌≡◌, ◌≢◌, ℕ, ◌-◌, Bool, true, false, List, [], ◌∷◌, codes, drop, length, take, if◌then◌else◌}
use Rattle.std.proofs.Common.{refl, sym, ◌∙◌, ap, arith}
use Rattle.std.proofs.lemmas.Bool.Decides.{Decides-eqb}
use Rattle.std.proofs.lemmas.List.{length-take-le}
use Rattle.std.proofs.lemmas.Slice.Eq.{bytes_eq-Decides}
use Rattle.std.specs.Str.{bytes_eq}
use Rattle.mesh_policy.specs.Pattern.{HasNoEmptyText, begins_with_star, ends_with_star, pattern_of}
use Rattle.mesh_policy.specs.Values.{is_short}
use Rattle.mesh_policy.specs.declared.pattern.Pattern.TheVariants.{Exact, Prefix, Suffix, Present}

-- behind the star of a suffix there is something, since the value is not the star alone
suffix-there : (s : List ℕ) → s ≢ [] → bytes_eq s (42 ∷ []) ≡ false → begins_with_star s ≡ true → drop 1 s ≢ []
suffix-there [] written more star e = written refl
suffix-there (x ∷ []) written more star e =
    let alone : bytes_eq (x ∷ []) (42 ∷ []) ≡ true =
    (bytes_eq-Decides (x ∷ []) (42 ∷ [])).1 (ap (λ y. y ∷ []) ((Decides-eqb x 42).0 star)) in
    let both : true ≡ false = sym alone ∙ more in
    cc
suffix-there (x ∷ y ∷ rest) written more star e = cc

-- and before that of a prefix, since the star is not in front
prefix-there : (s : List ℕ) → s ≢ [] → begins_with_star s ≡ false → ends_with_star s ≡ true → take (length s - 1) s ≢ []
prefix-there [] written front star e = written refl
prefix-there (x ∷ []) written front star e =
    let both : true ≡ false = sym star ∙ front in
    cc
prefix-there (x ∷ y ∷ rest) written front star e =
    let n = length (x ∷ y ∷ rest) - 1 in
    omega (arith, ap length e, length-take-le n (x ∷ y ∷ rest) (omega arith))

written-form : (alone front end : Bool) (suffix prefix whole : List ℕ) → (alone ≡ false → front ≡ true → suffix ≢ [])
    → (front ≡ false → end ≡ true → prefix ≢ []) → whole ≢ []
    → HasNoEmptyText (if alone then Present else (if front then Suffix suffix else (if end then Prefix prefix else Exact whole)))
written-form true front end suffix prefix whole in_suffix in_prefix written = tt
written-form false true end suffix prefix whole in_suffix in_prefix written = in_suffix refl refl
written-form false false true suffix prefix whole in_suffix in_prefix written = in_prefix refl refl
written-form false false false suffix prefix whole in_suffix in_prefix written = written

pub written-pattern : (s : List ℕ) → s ≢ [] → HasNoEmptyText (pattern_of s)
written-pattern s written =
    written-form (bytes_eq s (codes "*")) (begins_with_star s) (ends_with_star s) (drop 1 s) (take (length s - 1) s) s
    (suffix-there s written) (prefix-there s written) written

-- a value of a manifest is not empty
pub short-written : (s : List ℕ) → is_short s ≡ true → s ≢ []
short-written [] short e = cc
short-written (x ∷ xs) short e = cc
