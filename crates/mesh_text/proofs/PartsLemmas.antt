-- The tests of Parts decide its equations, also of texts in lower case, and std's tests of slices are the same.
use Rattle.std.proofs.Common.{◌≡◌, ℕ, ◌+◌, ◌-◌, ◌<◌, ◌≤◌, ◌||◌, Bool, false, List, [], ◌∷◌, ◌++◌, ◌⊎◌, inl, inr}
use Rattle.std.proofs.Common.{length, take, drop, ap, sym, ◌∙◌, refl, arith, length-append, take-append-drop}
use Rattle.std.proofs.Math.Seq.{take-append_seam, drop-append_seam}
use Rattle.std.proofs.lemmas.Bool.Decides.{same_from_decides, Decides-and, Decides-eqb, Decides-like, Decides-or}
use Rattle.std.proofs.lemmas.List.{drop_all, drop_more, drop-map, length-map, map-append, take_rest, take-map}
use Rattle.std.proofs.lemmas.Slice.Eq.{bytes_eq-Decides, ends_is, starts_is}
use Rattle.std.specs.Bool.{Decides}
use Rattle.std.specs.List.{ends_with, starts_with}
use Rattle.std.specs.Str.{bytes_eq, str_to_ascii_lowercase}
use lib.Dec.{eqb}
use Rattle.mesh_text.specs.Parts.{is_part, is_prefix, is_suffix, IsPart, IsPrefix, IsSuffix}

prefix_from : (c : ℕ) (cs : List ℕ) (d : ℕ) (ds : List ℕ) → (c ≡ d) × IsPrefix cs ds → IsPrefix (c ∷ cs) (d ∷ ds)
prefix_from c cs d ds p = let rest : ds ≡ cs ++ p.1.0 = p.1.1 in (p.1.0, cc)

prefix_parts : (c : ℕ) (cs : List ℕ) (d : ℕ) (ds : List ℕ) → IsPrefix (c ∷ cs) (d ∷ ds) → (c ≡ d) × IsPrefix cs ds
prefix_parts c cs d ds p = let whole : d ∷ ds ≡ c ∷ (cs ++ p.0) = p.1 in (cc, (p.0, cc))

pub is_prefix-Decides : (front whole : List ℕ) → Decides (is_prefix front whole) (IsPrefix front whole)
is_prefix-Decides [] whole = ((λ _. (whole, refl)), (λ _. refl))
is_prefix-Decides (c ∷ cs) [] = ((λ e. absurd cc), (λ p. let e : [] ≡ c ∷ (cs ++ p.0) = p.1 in absurd cc))
is_prefix-Decides (c ∷ cs) (d ∷ ds) =
    Decides-like _ (prefix_from c cs d ds) (prefix_parts c cs d ds) (Decides-and _ _ (Decides-eqb c d) (is_prefix-Decides cs ds))

none_before : (end start : List ℕ) → [] ≡ start ++ end → end ≡ []
none_before end [] e = sym e
none_before end (x ∷ xs) e = absurd cc

suffix_from : (end : List ℕ) (c : ℕ) (cs : List ℕ) → (end ≡ c ∷ cs) ⊎ IsSuffix end cs → IsSuffix end (c ∷ cs)
suffix_from end c cs (inl e) = ([], sym e)
suffix_from end c cs (inr p) = (c ∷ p.0, ap (λ ys. c ∷ ys) p.1)

suffix_cases : (end : List ℕ) (c : ℕ) (cs start : List ℕ) → c ∷ cs ≡ start ++ end → (end ≡ c ∷ cs) ⊎ IsSuffix end cs
suffix_cases end c cs [] e = inl (sym e)
suffix_cases end c cs (x ∷ xs) e = let tail : cs ≡ xs ++ end = cc in inr (xs, tail)

pub is_suffix-Decides : (end whole : List ℕ) → Decides (is_suffix end whole) (IsSuffix end whole)
is_suffix-Decides end [] =
    Decides-like _ (λ e. ([], sym e)) (λ p. none_before end p.0 p.1) (bytes_eq-Decides end [])
is_suffix-Decides end (c ∷ cs) =
    Decides-like _ (suffix_from end c cs) (λ p. suffix_cases end c cs p.0 p.1)
    (Decides-or _ _ (bytes_eq-Decides end (c ∷ cs)) (is_suffix-Decides end cs))

part_of_none : (part start rest : List ℕ) → [] ≡ start ++ (part ++ rest) → IsPrefix part []
part_of_none part [] rest e = (rest, e)
part_of_none part (x ∷ xs) rest e = absurd cc

part_from : (part : List ℕ) (c : ℕ) (cs : List ℕ) → IsPrefix part (c ∷ cs) ⊎ IsPart part cs → IsPart part (c ∷ cs)
part_from part c cs (inl p) = ([], p.0, p.1)
part_from part c cs (inr p) = (c ∷ p.0, p.1, ap (λ ys. c ∷ ys) p.2)

part_cases : (part : List ℕ) (c : ℕ) (cs start rest : List ℕ) → c ∷ cs ≡ start ++ (part ++ rest)
    → IsPrefix part (c ∷ cs) ⊎ IsPart part cs
part_cases part c cs [] rest e = inl (rest, e)
part_cases part c cs (x ∷ xs) rest e = let tail : cs ≡ xs ++ (part ++ rest) = cc in inr (xs, rest, tail)

pub is_part-Decides : (part whole : List ℕ) → Decides (is_part part whole) (IsPart part whole)
is_part-Decides part [] =
    Decides-like _ (λ p. ([], p.0, p.1)) (λ p. part_of_none part p.0 p.1 p.2) (is_prefix-Decides part [])
is_part-Decides part (c ∷ cs) =
    Decides-like _ (part_from part c cs) (λ p. part_cases part c cs p.0 p.1 p.2)
    (Decides-or _ _ (is_prefix-Decides part (c ∷ cs)) (is_part-Decides part cs))

-- std's tests of slices
pub starts_with-is_prefix : (front whole : List ℕ) → starts_with eqb whole front ≡ is_prefix front whole
starts_with-is_prefix front whole =
    let s = starts_is Decides-eqb whole front (starts_with eqb whole front) refl in
    same_from_decides _ _ ((λ e. (drop (length front) whole, s.0 e)), (λ p. s.1 p.0 p.1)) (is_prefix-Decides front whole)

pub ends_with-is_suffix : (end whole : List ℕ) → ends_with eqb whole end ≡ is_suffix end whole
ends_with-is_suffix end whole =
    let s = ends_is Decides-eqb whole end (ends_with eqb whole end) refl in
    same_from_decides _ _ ((λ e. (take (length whole - length end) whole, s.0 e)), (λ p. s.1 p.0 p.1)) (is_suffix-Decides end whole)

abbrev lower : List ℕ → List ℕ
lower = str_to_ascii_lowercase

length-lower : (s : List ℕ) → length (lower s) ≡ length s
length-lower s = length-map s _

lower_cut : (n : ℕ) (s : List ℕ) → lower s ≡ lower (take n s) ++ lower (drop n s)
lower_cut n s = ap lower (sym (take-append-drop n s)) ∙ map-append _ (take n s) (drop n s)

take-lower : (front rest whole : List ℕ) → lower whole ≡ lower front ++ rest → lower (take (length front) whole) ≡ lower front
take-lower front rest whole e =
    sym (take-map _ (length front) whole) ∙ ap (take (length front)) e
    ∙ ap (λ k. take k (lower front ++ rest)) (sym (length-lower front)) ∙ take-append_seam (lower front) rest

pub lower_prefix : (front whole : List ℕ) → length front ≤ length whole
    → bytes_eq (lower front) (lower (take (length front) whole)) ≡ is_prefix (lower front) (lower whole)
lower_prefix front whole fits =
    let n = length front in
    let same = bytes_eq-Decides (lower front) (lower (take n whole)) in
    same_from_decides _ _ (
      (λ e. (lower (drop n whole), lower_cut n whole ∙ ap (λ xs. xs ++ lower (drop n whole)) (sym (same.0 e)))),
      (λ p. same.1 (sym (take-lower front p.0 whole p.1))),
    )
    (is_prefix-Decides (lower front) (lower whole))

drop-lower : (start end whole : List ℕ) (n : ℕ) → length start ≡ n → lower whole ≡ start ++ lower end → lower (drop n whole) ≡ lower end
drop-lower start end whole n long e =
    sym (drop-map _ n whole) ∙ ap (drop n) e
    ∙ ap (λ k. drop k (start ++ lower end)) (sym long) ∙ drop-append_seam start (lower end)

pub lower_suffix : (end whole : List ℕ) → length end ≤ length whole
    → bytes_eq (lower end) (lower (drop (length whole - length end) whole)) ≡ is_suffix (lower end) (lower whole)
lower_suffix end whole fits =
    let n = length whole - length end in
    let same = bytes_eq-Decides (lower end) (lower (drop n whole)) in
    same_from_decides _ _ (
      (λ e. (lower (take n whole), lower_cut n whole ∙ ap (λ xs. lower (take n whole) ++ xs) (sym (same.0 e)))),
      (λ p. let long : length p.0 ≡ n =
          omega (arith, ap length p.1, length-append p.0 (lower end), length-lower whole, length-lower end) in
          same.1 (sym (drop-lower p.0 end whole n long p.1))),
    )
    (is_suffix-Decides (lower end) (lower whole))

-- nothing longer than the whole begins or ends it
pub too_long_prefix : (front whole : List ℕ) → length whole < length front → false ≡ is_prefix (lower front) (lower whole)
too_long_prefix front whole short =
    same_from_decides false _ (
      (λ e. absurd cc),
      (λ p. absurd (omega (arith, ap length p.1, length-append (lower front) p.0, length-lower whole, length-lower front))),
    )
    (is_prefix-Decides (lower front) (lower whole))

pub too_long_suffix : (end whole : List ℕ) → length whole < length end → false ≡ is_suffix (lower end) (lower whole)
too_long_suffix end whole short =
    same_from_decides false _ (
      (λ e. absurd cc),
      (λ p. absurd (omega (arith, ap length p.1, length-append p.0 (lower end), length-lower whole, length-lower end))),
    )
    (is_suffix-Decides (lower end) (lower whole))

-- the end of a slice in lower case is the end of the whole in lower case
pub lower_end : (r : Bool) (end whole : List ℕ) → length end ≤ length whole
    → r ≡ bytes_eq (lower end) (lower (take (length whole - (length whole - length end)) (drop (length whole - length end) whole)))
    → r ≡ is_suffix (lower end) (lower whole)
lower_end r end whole fits e =
    e ∙ ap (λ xs. bytes_eq (lower end) (lower xs)) (take_rest whole (length whole - length end)) ∙ lower_suffix end whole fits

-- the search goes on where no prefix is found
part_further : (part s : List ℕ) (c : ℕ) (cs : List ℕ) → s ≡ c ∷ cs → is_prefix part s ≡ false → is_part part s ≡ is_part part cs
part_further part s c cs e none =
    let not_here : is_prefix part (c ∷ cs) ≡ false = ap (is_prefix part) (sym e) ∙ none in
    ap (is_part part) e ∙ ap (λ b. b || is_part part cs) not_here

pub plain_further : (part s : List ℕ) (i : ℕ) → i < length s → is_prefix part (take (length s - i) (drop i s)) ≡ false
    → is_part part (drop i s) ≡ is_part part (drop (i + 1) s)
plain_further part s i inside none =
    part_further part (drop i s) _ (drop (i + 1) s) (drop_more s i 0 inside) (ap (is_prefix part) (sym (take_rest s i)) ∙ none)

pub lower_further : (part s : List ℕ) (i : ℕ) → i < length s → is_prefix part (lower (take (length s - i) (drop i s))) ≡ false
    → is_part part (lower (drop i s)) ≡ is_part part (lower (drop (i + 1) s))
lower_further part s i inside none =
    part_further part (lower (drop i s)) _ (lower (drop (i + 1) s)) (ap lower (drop_more s i 0 inside))
    (ap (λ xs. is_prefix part (lower xs)) (sym (take_rest s i)) ∙ none)

-- and is over where nothing is left
none_of_nothing : (part : List ℕ) → is_prefix part [] ≡ eqb (length part) 0
none_of_nothing [] = refl
none_of_nothing (x ∷ xs) = grind arith

pub plain_over : (part s : List ℕ) (i : ℕ) → length s ≤ i → is_part part (drop i s) ≡ eqb (length part) 0
plain_over part s i past = ap (is_part part) (drop_all i s past) ∙ none_of_nothing part

pub lower_over : (part s : List ℕ) (i : ℕ) → length s ≤ i → is_part (lower part) (lower (drop i s)) ≡ eqb (length part) 0
lower_over part s i past =
    ap (λ xs. is_part (lower part) (lower xs)) (drop_all i s past)
    ∙ none_of_nothing (lower part) ∙ ap (λ n. eqb n 0) (length-lower part)
