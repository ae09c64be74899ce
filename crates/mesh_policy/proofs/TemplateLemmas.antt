-- The matcher's test is what a template stands for.
use Rattle.std.proofs.Common.{◌≡◌, ◌≢◌, ℕ, ◌-◌, ◌&&◌, ◌||◌, not, Bool, true, false, List, [], ◌∷◌, ◌++◌, Option, Some, None}
use Rattle.std.proofs.Common.{length, take, drop, ap, sym, subst, ◌∙◌, refl, arith, if◌then◌else◌, IsTrue, codes, Bor, take_all}
use Rattle.std.proofs.Common.{length-drop}
use Rattle.std.proofs.Math.Seq.{drop-append_seam}
use Rattle.std.proofs.lemmas.Bool.{and_from, and_parts, false_from_ne_true, not-true, not_from_false, or_parts}
use Rattle.std.proofs.lemmas.Bool.Decides.{Decides-eqb}
use Rattle.std.proofs.lemmas.List.{append-nil}
use Rattle.std.proofs.lemmas.Slice.Eq.{bytes_eq-Decides, ends_is}
use Rattle.std.proofs.lemmas.Str.Pattern.{IsSplitOnceResult}
use Rattle.std.specs.Bool.{Decides}
use Rattle.std.specs.List.{after_first, before_first, concat, ends_with, join_with_byte, list_any}
use Rattle.std.specs.Str.{bytes_eq}
use lib.Dec.{eqb}
use Rattle.mesh_policy.proofs.SlashLemmas.{before_seam, after_seam, slash_seam, cut, SlashFree, slash_free, HasSegment}
use Rattle.mesh_policy.proofs.SlashLemmas.{some_segment, join_split, split_plain, one_more, no_more, parts_are}
use Rattle.mesh_policy.specs.Template.{Piece, literal, one_segment, any_text, StandsFor, StandFor, TemplateHolds, has_slash}
use Rattle.mesh_policy.specs.Template.{segments_of, piece_of, pieces_of, is_operator, any_is_last, is_uri, uri_pieces, stands_for}
use Rattle.mesh_policy.specs.Template.{segments_hold, template_holds, is_segment}
use Rattle.std.specs.List.{list_all}

abbrev one : List ℕ
one = codes "*"

abbrev any : List ℕ
any = codes "**"

-- TemplateHolds piece by piece
abbrev Holds : List Piece → List ℕ → Type 0
Holds [] t = t ≡ []
Holds (p ∷ ps) t = (x : List ℕ) × (y : List ℕ) × (t ≡ x ++ y) × StandsFor p x × Holds ps y

holds_along : (ps : List Piece) (texts : List (List ℕ)) → StandFor ps texts → Holds ps (concat texts)
holds_along [] [] h = refl
holds_along [] (t ∷ ts) h = absurd h
holds_along (p ∷ ps) [] h = absurd h
holds_along (p ∷ ps) (t ∷ ts) h = (t, concat ts, refl, h.0, holds_along ps ts h.1)

holds_from : (ps : List Piece) (t : List ℕ) → TemplateHolds ps t → Holds ps t
holds_from ps t h = subst (Holds ps) (sym h.2) (holds_along ps h.0 h.1)

holds_to : (ps : List Piece) (t : List ℕ) → Holds ps t → TemplateHolds ps t
holds_to [] t h = ([], tt, h)
holds_to (p ∷ ps) t h =
    let below : TemplateHolds ps h.1 = holds_to ps h.1 h.4 in
    (h.0 ∷ below.0, (h.3, below.1), h.2 ∙ ap (λ y. h.0 ++ y) below.2)

-- a piece and a slash
abbrev Seam : Piece → List Piece → List ℕ → Type 0
Seam p ps t = (x : List ℕ) × (y : List ℕ) × (t ≡ x ++ 47 ∷ y) × StandsFor p x × Holds ps y

seam_from : (p : Piece) (ps : List Piece) (t : List ℕ) → Holds (p ∷ literal (47 ∷ []) ∷ ps) t → Seam p ps t
seam_from p ps t h = (h.0, h.4.1, h.2 ∙ ap (λ z. h.0 ++ z) (h.4.2 ∙ ap (λ z. z ++ h.4.1) h.4.3), h.3, h.4.4)

seam_to : (p : Piece) (ps : List Piece) (t : List ℕ) → Seam p ps t → Holds (p ∷ literal (47 ∷ []) ∷ ps) t
seam_to p ps t h = (h.0, 47 ∷ h.1, h.2, h.3, (47 ∷ [], h.1, refl, refl, h.4))

-- a last piece
last_from : (p : Piece) (t : List ℕ) → Holds (p ∷ []) t → StandsFor p t
last_from p t h = subst (StandsFor p) (sym (h.2 ∙ ap (λ z. h.0 ++ z) h.4 ∙ append-nil h.0)) h.3

last_to : (p : Piece) (t : List ℕ) → StandsFor p t → Holds (p ∷ []) t
last_to p t h = (t, [], sym (append-nil t), h, refl)

not_empty_decides : (x : List ℕ) → Decides (not (eqb (length x) 0) && not (has_slash x)) ((x ≢ []) × (has_slash x ≡ false))
not_empty_decides [] = ((λ e. absurd cc), (λ p. absurd (p.0 refl)))
not_empty_decides (c ∷ cs) =
    let written : eqb (length (c ∷ cs)) 0 ≡ false =
    false_from_ne_true (eqb (length (c ∷ cs)) 0) (λ e. absurd (omega (arith, (Decides-eqb (length (c ∷ cs)) 0).0 e))) in
    let some : not (eqb (length (c ∷ cs)) 0) ≡ true = not_from_false (eqb (length (c ∷ cs)) 0) written in (
      (λ e. ((λ k. absurd cc), not-true (has_slash (c ∷ cs)) ((and_parts (not (eqb (length (c ∷ cs)) 0)) (not (has_slash (c ∷ cs))) e).1))),
      (λ p. and_from (not (eqb (length (c ∷ cs)) 0)) (not (has_slash (c ∷ cs))) some (not_from_false (has_slash (c ∷ cs)) p.1)),
    )

-- a segment, by whether it is the one and the other operator
at_piece : (b2 b1 : Bool) (s x : List ℕ)
    → Decides (if b2 then true else (if b1 then not (eqb (length x) 0) && not (has_slash x) else bytes_eq s x))
    (StandsFor (if b2 then any_text else (if b1 then one_segment else literal s)) x)
at_piece true b1 s x = ((λ e. tt), (λ p. refl))
at_piece false true s x = not_empty_decides x
at_piece false false s x = ((λ e. sym ((bytes_eq-Decides s x).0 e)), (λ p. (bytes_eq-Decides s x).1 (sym p)))

last_decides : (s x : List ℕ) → Decides (if bytes_eq s any then true else stands_for s x) (StandsFor (piece_of one any s) x)
last_decides s x = at_piece (bytes_eq s any) (bytes_eq s one) s x

abbrev piece_at : Bool → List ℕ → Piece
piece_at b s = if b then any_text else (if bytes_eq s one then one_segment else literal s)

stands_decides : (s x : List ℕ) → bytes_eq s any ≡ false → Decides (stands_for s x) (StandsFor (piece_of one any s) x)
stands_decides s x e =
    subst (λ (b : Bool). Decides (stands_for s x) (StandsFor (piece_at b s) x)) (sym e) (at_piece false (bytes_eq s one) s x)

-- what a segment without a slash stands for has none, unless it is any text
free_at : (b : Bool) (s x : List ℕ) → has_slash s ≡ false → StandsFor (if b then one_segment else literal s) x → has_slash x ≡ false
free_at true s x f h = h.1
free_at false s x f h = ap has_slash h ∙ f

free_text : (s x : List ℕ) → bytes_eq s any ≡ false → has_slash s ≡ false → StandsFor (piece_of one any s) x → has_slash x ≡ false
free_text s x e f h = free_at (bytes_eq s one) s x f (subst (λ (b : Bool). StandsFor (piece_at b s) x) e h)

pub piece_literal : (a b s : List ℕ) → bytes_eq s a ≡ false → bytes_eq s b ≡ false → piece_of a b s ≡ literal s
piece_literal a b s e f = rw (f, e) refl

-- segments without operators stand for themselves
literals : (s : List ℕ) (more : List (List ℕ)) → list_any (is_operator one any) (s ∷ more) ≡ false → (t : List ℕ)
    → (Holds (pieces_of one any (s ∷ more)) t → t ≡ join_with_byte 47 (s ∷ more))
    × (t ≡ join_with_byte 47 (s ∷ more) → Holds (pieces_of one any (s ∷ more)) t)
literals s [] h t =
    let first = or_parts (is_operator one any s) false h in
    let apart = or_parts (bytes_eq s one) (bytes_eq s any) first.0 in
    let plain : piece_of one any s ≡ literal s = piece_literal one any s apart.0 apart.1 in (
      (λ k. subst (λ (p : Piece). StandsFor p t) plain (last_from (piece_of one any s) t k)),
      (λ k. last_to (piece_of one any s) t (subst (λ (p : Piece). StandsFor p t) (sym plain) k)),
    )
literals s (next ∷ more) h t =
    let first = or_parts (is_operator one any s) (list_any (is_operator one any) (next ∷ more)) h in
    let apart = or_parts (bytes_eq s one) (bytes_eq s any) first.0 in
    let plain : piece_of one any s ≡ literal s = piece_literal one any s apart.0 apart.1 in
    let rest = pieces_of one any (next ∷ more) in (
      (λ k. let q : Seam (piece_of one any s) rest t = seam_from (piece_of one any s) rest t k in
          let same : q.0 ≡ s = subst (λ (p : Piece). StandsFor p q.0) plain q.3 in
          q.2 ∙ ap (λ x. x ++ 47 ∷ q.1) same ∙ ap (λ y. s ++ 47 ∷ y) ((literals next more first.1 q.1).0 q.4)),
      (λ k. let whole = join_with_byte 47 (next ∷ more) in
          let same : s ≡ s = refl in
          let stands : StandsFor (piece_of one any s) s = subst (λ (p : Piece). StandsFor p s) (sym plain) same in
          seam_to (piece_of one any s) rest t (s, whole, k, stands, (literals next more first.1 whole).1 refl)),
    )

-- the test of a segment that more follow, by whether it is any text
abbrev test_at : Bool → List ℕ → List (List ℕ) → List ℕ → Bool
test_at b s rest t =
    if b then ends_with eqb t (47 ∷ join_with_byte 47 rest)
    else (has_slash t && stands_for s (before_first (λ d. eqb d 47) t) && segments_hold rest (after_first (λ d. eqb d 47) t))

abbrev last_at : Bool → List (List ℕ) → Bool
last_at b rest = if b then not (list_any (is_operator one any) rest) else any_is_last one any rest

any_decides : (s n : List ℕ) (ns : List (List ℕ)) (t : List ℕ) → bytes_eq s any ≡ true → list_any (is_operator one any) (n ∷ ns) ≡ false
    → Decides (ends_with eqb t (47 ∷ join_with_byte 47 (n ∷ ns)))
    (Holds (piece_of one any s ∷ literal (47 ∷ []) ∷ pieces_of one any (n ∷ ns)) t)
any_decides s n ns t e none =
    let whole = join_with_byte 47 (n ∷ ns) in
    let rest = pieces_of one any (n ∷ ns) in
    let ends = ends_is Decides-eqb t (47 ∷ whole) (ends_with eqb t (47 ∷ whole)) refl in
    let front = take (length t - length (47 ∷ whole)) t in (
      (λ k. let stands : StandsFor (piece_of one any s) front = subst (λ (b : Bool). StandsFor (piece_at b s) front) (sym e) tt in
          seam_to (piece_of one any s) rest t (front, whole, ends.0 k, stands, (literals n ns none whole).1 refl)),
      (λ k. let q : Seam (piece_of one any s) rest t = seam_from (piece_of one any s) rest t k in
          ends.1 q.0 (q.2 ∙ ap (λ y. q.0 ++ 47 ∷ y) ((literals n ns none q.1).0 q.4))),
    )

other_decides : (s n : List ℕ) (ns : List (List ℕ)) (t : List ℕ) → bytes_eq s any ≡ false → has_slash s ≡ false
    → ((y : List ℕ) → Decides (segments_hold (n ∷ ns) y) (Holds (pieces_of one any (n ∷ ns)) y))
    → Decides (has_slash t && stands_for s (before_first (λ d. eqb d 47) t) && segments_hold (n ∷ ns) (after_first (λ d. eqb d 47) t))
    (Holds (piece_of one any s ∷ literal (47 ∷ []) ∷ pieces_of one any (n ∷ ns)) t)
other_decides s n ns t e free below =
    let front = before_first (λ d. eqb d 47) t in
    let back = after_first (λ d. eqb d 47) t in
    let rest = pieces_of one any (n ∷ ns) in (
      (λ k. let outer = and_parts (has_slash t && stands_for s front) (segments_hold (n ∷ ns) back) k in
          let inner = and_parts (has_slash t) (stands_for s front) outer.0 in
          seam_to (piece_of one any s) rest t (front, back, cut t inner.0, (stands_decides s front e).0 inner.1, (below back).0 outer.1)),
      (λ k. let q : Seam (piece_of one any s) rest t = seam_from (piece_of one any s) rest t k in
          let clear : has_slash q.0 ≡ false = free_text s q.0 e free q.3 in
          let same_front : front ≡ q.0 = ap (before_first (λ d. eqb d 47)) q.2 ∙ before_seam q.0 q.1 clear in
          let same_back : back ≡ q.1 = ap (after_first (λ d. eqb d 47)) q.2 ∙ after_seam q.0 q.1 clear in
          and_from (has_slash t && stands_for s front) (segments_hold (n ∷ ns) back)
          (and_from (has_slash t) (stands_for s front)
          (ap has_slash q.2 ∙ slash_seam q.0 q.1) (ap (stands_for s) same_front ∙ (stands_decides s q.0 e).1 q.3))
          (ap (segments_hold (n ∷ ns)) same_back ∙ (below q.1).1 q.4)),
    )

decides_segments : (s : List ℕ) (more : List (List ℕ)) → SlashFree (s ∷ more) → any_is_last one any (s ∷ more) ≡ true → (t : List ℕ)
    → Decides (segments_hold (s ∷ more) t) (Holds (pieces_of one any (s ∷ more)) t)
decides_segments s [] f l t =
    let here = last_decides s t in
    ((λ k. last_to (piece_of one any s) t (here.0 k)), (λ k. here.1 (last_from (piece_of one any s) t k)))
decides_segments s (n ∷ ns) f l t = at_segment (bytes_eq s any) refl l (λ k y. decides_segments n ns f.1 k y)
  where
    at_segment : (b : Bool) → bytes_eq s any ≡ b → last_at b (n ∷ ns) ≡ true
        → (any_is_last one any (n ∷ ns) ≡ true → (y : List ℕ) → Decides (segments_hold (n ∷ ns) y) (Holds (pieces_of one any (n ∷ ns)) y))
        → Decides (test_at b s (n ∷ ns) t) (Holds (piece_of one any s ∷ literal (47 ∷ []) ∷ pieces_of one any (n ∷ ns)) t)
    at_segment true e k below = any_decides s n ns t e (not-true (list_any (is_operator one any) (n ∷ ns)) k)
    at_segment false e k below = other_decides s n ns t e f.0 (below k)

-- the test of a URI form means that the template holds
pub template_means : (r : Bool) (uri t : List ℕ) → is_uri uri ≡ true → r ≡ template_holds uri t
    → (IsTrue r → TemplateHolds (uri_pieces uri) t) × (TemplateHolds (uri_pieces uri) t → IsTrue r)
template_means r uri t u e =
    let q : HasSegment (segments_of uri) = some_segment uri in
    let segments = segments_of uri in
    let front = (eqb (get_first uri) 47) && list_all (is_segment one any) segments && list_any (is_operator one any) segments in
    let last : any_is_last one any (segments_of uri) ≡ true = (and_parts front (any_is_last one any (segments_of uri)) u).1 in
    let free : SlashFree (q.0 ∷ q.1) = subst SlashFree q.2 (slash_free uri) in
    let decided = decides_segments q.0 q.1 free (sym (ap (any_is_last one any) q.2) ∙ last) t in
    let P : List (List ℕ) → Type 0 = λ ss. Holds (pieces_of one any ss) t in
    let same : segments_hold (q.0 ∷ q.1) t ≡ r = sym (e ∙ ap (λ ss. segments_hold ss t) q.2) in (
      (λ h. holds_to (uri_pieces uri) t (subst P (sym q.2) (decided.0 (same ∙ h)))),
      (λ h. sym same ∙ decided.1 (subst P q.2 (holds_from (uri_pieces uri) t h))),
    )
  where
    get_first : List ℕ → ℕ
    get_first s = Rattle.std.proofs.Common.get_or s 0 0

-- the test of a segment that more follow
further : (s : List ℕ) (more t : List ℕ)
    → segments_hold (s ∷ segments_of more) t
    ≡ (if bytes_eq s any then ends_with eqb t (47 ∷ more)
    else (has_slash t && stands_for s (before_first (λ d. eqb d 47) t) && segments_hold (segments_of more) (after_first (λ d. eqb d 47) t)))
further s more t =
    let q : HasSegment (segments_of more) = some_segment more in
    let join : join_with_byte 47 (q.0 ∷ q.1) ≡ more = ap (join_with_byte 47) (sym q.2) ∙ join_split more in
    let front = has_slash t && stands_for s (before_first (λ d. eqb d 47) t) in
    let back = after_first (λ d. eqb d 47) t in
    ap (λ ss. segments_hold (s ∷ ss) t) q.2
    ∙ ap (λ z. if bytes_eq s any then ends_with eqb t (47 ∷ z) else (front && segments_hold (q.0 ∷ q.1) back)) join
    ∙ ap (λ ss. if bytes_eq s any then ends_with eqb t (47 ∷ more) else (front && segments_hold ss back)) (sym q.2)

abbrev Cut : Type 0
Cut = Bor (List ℕ) × Bor (List ℕ)

at_cut : (uri t : List ℕ) (x : Cut) → IsSplitOnceResult 47 uri (Some x)
    → template_holds uri t
    ≡ (if bytes_eq x.0.now any then ends_with eqb t (47 ∷ x.1.now)
    else (has_slash t && stands_for x.0.now (before_first (λ d. eqb d 47) t)
    && segments_hold (segments_of x.1.now) (after_first (λ d. eqb d 47) t)))
at_cut uri t x h = ap (λ ss. segments_hold ss t) (one_more uri x h) ∙ further x.0.now x.1.now t

pub stops_at_any : (uri t : List ℕ) (x : Cut) → IsSplitOnceResult 47 uri (Some x) → bytes_eq x.0.now any ≡ true
    → ends_with eqb t (47 ∷ x.1.now) ≡ template_holds uri t
stops_at_any uri t x h e = sym (at_cut uri t x h ∙ rw e refl)

pub stops_short : (uri t : List ℕ) (x : Cut) → IsSplitOnceResult 47 uri (Some x) → bytes_eq x.0.now any ≡ false
    → IsSplitOnceResult 47 t None → false ≡ template_holds uri t
stops_short uri t x h e n = let none = no_more t n in sym (at_cut uri t x h ∙ rw (e, none) refl)

pub stops_apart : (uri t : List ℕ) (x y : Cut) → IsSplitOnceResult 47 uri (Some x) → bytes_eq x.0.now any ≡ false
    → IsSplitOnceResult 47 t (Some y) → stands_for x.0.now y.0.now ≡ false → false ≡ template_holds uri t
stops_apart uri t x y h e k apart =
    let front = (parts_are t y k).0 in
    let here : stands_for x.0.now (before_first (λ d. eqb d 47) t) ≡ false = ap (stands_for x.0.now) (sym front) ∙ apart in
    sym (at_cut uri t x h ∙ rw e (and_no (has_slash t) _ _ here))
  where
    and_no : (a b c : Bool) → b ≡ false → (a && b && c) ≡ false
    and_no true true c e = absurd cc
    and_no true false c e = refl
    and_no false b c e = refl

pub goes_on : (uri t : List ℕ) (x y : Cut) → IsSplitOnceResult 47 uri (Some x) → bytes_eq x.0.now any ≡ false
    → IsSplitOnceResult 47 t (Some y) → stands_for x.0.now y.0.now ≡ true → template_holds uri t ≡ template_holds x.1.now y.1.now
goes_on uri t x y h e k stands =
    let parts = parts_are t y k in
    let slash : has_slash t ≡ true = ap has_slash parts.2 ∙ slash_seam y.0.now y.1.now in
    let here : stands_for x.0.now (before_first (λ d. eqb d 47) t) ≡ true = ap (stands_for x.0.now) (sym parts.0) ∙ stands in
    at_cut uri t x h ∙ rw (e, slash, here) (ap (segments_hold (segments_of x.1.now)) (sym parts.1))

pub ends_here : (uri t : List ℕ) → IsSplitOnceResult 47 uri None → template_holds uri t ≡ (bytes_eq uri any || stands_for uri t)
ends_here uri t n = ap (λ ss. segments_hold ss t) (split_plain uri (no_more uri n)) ∙ or_is (bytes_eq uri any) (stands_for uri t)
  where
    or_is : (a b : Bool) → (if a then true else b) ≡ (a || b)
    or_is true b = refl
    or_is false b = refl

-- where an operator for any text stands
pub last_at_cut : (a b s : List ℕ) (x : Cut) → IsSplitOnceResult 47 s (Some x)
    → any_is_last a b (segments_of s)
    ≡ (if bytes_eq x.0.now b then not (list_any (is_operator a b) (segments_of x.1.now)) else any_is_last a b (segments_of x.1.now))
last_at_cut a b s x h = ap (any_is_last a b) (one_more s x h)

pub last_at_end : (a b s : List ℕ) → IsSplitOnceResult 47 s None → true ≡ any_is_last a b (segments_of s)
last_at_end a b s n = sym (ap (any_is_last a b) (split_plain s (no_more s n)) ∙ always (bytes_eq s b))
  where
    always : (c : Bool) → (if c then true else true) ≡ true
    always true = refl
    always false = refl

pub last_stops : (a b s : List ℕ) (x : Cut) (r : Bool) → IsSplitOnceResult 47 s (Some x) → true ≡ bytes_eq x.0.now b
    → r ≡ list_any (is_operator a b) (segments_of x.1.now)
    → any_is_last a b (segments_of s) ≡ not r
last_stops a b s x r h e k = last_at_cut a b s x h ∙ rw (← e) (ap not (sym k))

pub last_goes_on : (a b s : List ℕ) (x : Cut) → IsSplitOnceResult 47 s (Some x) → false ≡ bytes_eq x.0.now b
    → any_is_last a b (segments_of s) ≡ any_is_last a b (segments_of x.1.now)
last_goes_on a b s x h e = last_at_cut a b s x h ∙ rw (← e) refl

-- the rest of a text behind its first segment
pub end_is : (s : List ℕ) (x : Cut) → IsSplitOnceResult 47 s (Some x)
    → take (length s - length x.0.now) (drop (length x.0.now) s) ≡ 47 ∷ x.1.now
end_is s x h =
    let whole = (parts_are s x h).2 in
    let rest : drop (length x.0.now) s ≡ 47 ∷ x.1.now = ap (drop (length x.0.now)) whole ∙ drop-append_seam x.0.now (47 ∷ x.1.now) in
    take_all (length s - length x.0.now) (drop (length x.0.now) s) (omega (arith, length-drop (length x.0.now) s)) ∙ rest
