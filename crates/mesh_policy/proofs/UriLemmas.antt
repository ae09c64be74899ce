-- The URI form of a template is one, and has the same pieces.
use Rattle.std.proofs.Common.{◌≡◌, ℕ, ◌&&◌, ◌||◌, not, Bool, true, false, Bor, Some, None, append_assoc, List, [], ◌∷◌, ◌++◌, map}
use Rattle.std.proofs.Common.{get_or, ap, sym, subst, ◌∙◌, refl, if◌then◌else◌, codes}
use Rattle.std.proofs.lemmas.Bool.{and_from, and_parts, false_from_ne_true, or_right}
use Rattle.std.proofs.lemmas.Bool.Decides.{Decides-eqb}
use Rattle.std.proofs.lemmas.Slice.Eq.{bytes_eq-Decides}
use Rattle.std.specs.List.{join_with_byte, list_all, list_any}
use Rattle.std.specs.Str.{bytes_eq}
use lib.Dec.{eqb}
use Rattle.mesh_policy.proofs.SlashLemmas.{SlashFree, slash_free, HasSegment, some_segment, split_join, split_plain, one_more, no_more}
use Rattle.std.proofs.lemmas.Str.Pattern.{IsSplitOnceResult}
use Rattle.mesh_policy.proofs.TemplateLemmas.{piece_literal}
use Rattle.mesh_policy.specs.Template.{literal, has_slash, segments_of, piece_of, pieces_of, is_operator, is_plain, is_segment}
use Rattle.mesh_policy.specs.Template.{any_is_last, is_form, is_template, is_uri, template_pieces, uri_pieces, uri_segment}
use Rattle.mesh_policy.specs.Template.{uri_of}

abbrev one : List ℕ
one = codes "*"

abbrev any : List ℕ
any = codes "**"

abbrev braced_one : List ℕ
braced_one = codes "{*}"

abbrev braced_any : List ℕ
braced_any = codes "{**}"

-- a segment and its URI form are alike
record Alike (s : List ℕ) : Type 0 where
  as_one : bytes_eq (uri_segment s) one ≡ bytes_eq s braced_one
  as_any : bytes_eq (uri_segment s) any ≡ bytes_eq s braced_any
  fits : is_segment one any (uri_segment s) ≡ true
  free : has_slash s ≡ false → has_slash (uri_segment s) ≡ false
  same : piece_of one any (uri_segment s) ≡ piece_of braced_one braced_any s

alike_one : Alike braced_one
alike_one = record { as_one = refl; as_any = refl; fits = refl; free = (λ h. refl); same = refl }

alike_any : Alike braced_any
alike_any = record { as_one = refl; as_any = refl; fits = refl; free = (λ h. refl); same = refl }

alike_plain : (s : List ℕ) → bytes_eq s braced_one ≡ false → bytes_eq s braced_any ≡ false → is_plain s ≡ true → Alike s
alike_plain s e f plain =
    let itself : uri_segment s ≡ s = rw (e, f) refl in
    let one_apart : bytes_eq s one ≡ true → true ≡ false = λ h. sym plain ∙ ap is_plain ((bytes_eq-Decides s one).0 h) in
    let not_one : bytes_eq s one ≡ false = false_from_ne_true (bytes_eq s one) (λ h. let k = one_apart h in absurd cc) in
    let any_apart : bytes_eq s any ≡ true → true ≡ false = λ h. sym plain ∙ ap is_plain ((bytes_eq-Decides s any).0 h) in
    let not_any : bytes_eq s any ≡ false = false_from_ne_true (bytes_eq s any) (λ h. let k = any_apart h in absurd cc) in
    record {
      as_one = ap (λ x. bytes_eq x one) itself ∙ not_one ∙ sym e;
      as_any = ap (λ x. bytes_eq x any) itself ∙ not_any ∙ sym f;
      fits = ap (is_segment one any) itself ∙ or_right (is_operator one any s) (is_plain s) plain;
      free = (λ h. ap has_slash itself ∙ h);
      same = ap (piece_of one any) itself ∙ piece_literal one any s not_one not_any ∙ sym (piece_literal braced_one braced_any s e f);
    }

alike : (s : List ℕ) → is_segment braced_one braced_any s ≡ true → Alike s
alike s h = at_one (bytes_eq s braced_one) (bytes_eq s braced_any) refl refl h
  where
    at_one : (b1 b2 : Bool) → bytes_eq s braced_one ≡ b1 → bytes_eq s braced_any ≡ b2 → ((b1 || b2) || is_plain s) ≡ true → Alike s
    at_one true b2 e f k = subst Alike (sym ((bytes_eq-Decides s braced_one).0 e)) alike_one
    at_one false true e f k = subst Alike (sym ((bytes_eq-Decides s braced_any).0 f)) alike_any
    at_one false false e f k = alike_plain s e f k

AllAlike : List (List ℕ) → Type 0
AllAlike [] = Unit {0}
AllAlike (s ∷ ss) = Alike s × AllAlike ss

all_alike : (ss : List (List ℕ)) → list_all (is_segment braced_one braced_any) ss ≡ true → AllAlike ss
unfolding AllAlike
all_alike [] h = tt
all_alike (s ∷ ss) h =
    let parts = and_parts (is_segment braced_one braced_any s) (list_all (is_segment braced_one braced_any) ss) h in
    (alike s parts.0, all_alike ss parts.1)

all_fit : (ss : List (List ℕ)) → AllAlike ss → list_all (is_segment one any) (map uri_segment ss) ≡ true
unfolding AllAlike
all_fit [] a = refl
all_fit (s ∷ ss) a =
    and_from (is_segment one any (uri_segment s)) (list_all (is_segment one any) (map uri_segment ss)) a.0.fits (all_fit ss a.1)

same_operator : (s : List ℕ) → Alike s → is_operator one any (uri_segment s) ≡ is_operator braced_one braced_any s
same_operator s a = ap (λ b. b || bytes_eq (uri_segment s) any) a.as_one ∙ ap (λ b. bytes_eq s braced_one || b) a.as_any

same_operators : (ss : List (List ℕ)) → AllAlike ss
    → list_any (is_operator one any) (map uri_segment ss) ≡ list_any (is_operator braced_one braced_any) ss
unfolding AllAlike
same_operators [] a = refl
same_operators (s ∷ ss) a =
    ap (λ b. b || list_any (is_operator one any) (map uri_segment ss)) (same_operator s a.0)
    ∙ ap (λ b. is_operator braced_one braced_any s || b) (same_operators ss a.1)

same_last : (ss : List (List ℕ)) → AllAlike ss → any_is_last one any (map uri_segment ss) ≡ any_is_last braced_one braced_any ss
unfolding AllAlike
same_last [] a = refl
same_last (s ∷ ss) a =
    ap (λ b. if b then not (list_any (is_operator one any) (map uri_segment ss)) else any_is_last one any (map uri_segment ss)) a.0.as_any
    ∙ ap (λ b. if bytes_eq s braced_any then not b else any_is_last one any (map uri_segment ss)) (same_operators ss a.1)
    ∙ ap (λ b. if bytes_eq s braced_any then not (list_any (is_operator braced_one braced_any) ss) else b) (same_last ss a.1)

same_pieces : (ss : List (List ℕ)) → AllAlike ss → pieces_of one any (map uri_segment ss) ≡ pieces_of braced_one braced_any ss
unfolding AllAlike
same_pieces [] a = refl
same_pieces (s ∷ []) a = ap (λ p. p ∷ []) a.0.same
same_pieces (s ∷ t ∷ more) a =
    ap (λ p. p ∷ literal (47 ∷ []) ∷ pieces_of one any (map uri_segment (t ∷ more))) a.0.same
    ∙ ap (λ ps. piece_of braced_one braced_any s ∷ literal (47 ∷ []) ∷ ps) (same_pieces (t ∷ more) a.1)

all_free : (ss : List (List ℕ)) → AllAlike ss → SlashFree ss → SlashFree (map uri_segment ss)
unfolding AllAlike
all_free [] a f = tt
all_free (s ∷ ss) a f = (a.0.free f.0, all_free ss a.1 f.1)

uri_segments : (s : List ℕ) → AllAlike (segments_of s) → segments_of (uri_of s) ≡ map uri_segment (segments_of s)
uri_segments s a =
    let q : HasSegment (segments_of s) = some_segment s in
    let whole : map uri_segment (segments_of s) ≡ uri_segment q.0 ∷ map uri_segment q.1 = ap (map uri_segment) q.2 in
    let free : SlashFree (uri_segment q.0 ∷ map uri_segment q.1) = subst SlashFree whole (all_free (segments_of s) a (slash_free s)) in
    ap (λ ss. segments_of (join_with_byte 47 ss)) whole ∙ split_join (uri_segment q.0) (map uri_segment q.1) free ∙ sym whole

begins_here : (cs : List ℕ) → eqb (get_or (uri_of (47 ∷ cs)) 0 0) 47 ≡ true
begins_here cs =
    let q : HasSegment (segments_of cs) = some_segment cs in
    ap (λ ss. eqb (get_or (join_with_byte 47 (map uri_segment ([] ∷ ss))) 0 0) 47) q.2

begins : (s : List ℕ) → eqb (get_or s 0 0) 47 ≡ true → eqb (get_or (uri_of s) 0 0) 47 ≡ true
begins [] h = absurd cc
begins (c ∷ cs) h =
    let P : ℕ → Type 0 = λ d. eqb (get_or (uri_of (d ∷ cs)) 0 0) 47 ≡ true in
    subst P (sym ((Decides-eqb c 47).0 h)) (begins_here cs)

record Parts (a b s : List ℕ) : Type 0 where
  slash : eqb (get_or s 0 0) 47 ≡ true
  all : list_all (is_segment a b) (segments_of s) ≡ true
  some : list_any (is_operator a b) (segments_of s) ≡ true
  last : any_is_last a b (segments_of s) ≡ true

parts : (a b s : List ℕ) → is_form a b s ≡ true → Parts a b s
parts a b s h =
    let first = eqb (get_or s 0 0) 47 in
    let all_pass = list_all (is_segment a b) (segments_of s) in
    let some_pass = list_any (is_operator a b) (segments_of s) in
    let third = and_parts (first && all_pass && some_pass) (any_is_last a b (segments_of s)) h in
    let second = and_parts (first && all_pass) some_pass third.0 in
    let front = and_parts first all_pass second.0 in
    record { slash = front.0; all = front.1; some = second.1; last = third.1 }

whole_form : (a b s : List ℕ) → Parts a b s → is_form a b s ≡ true
whole_form a b s p =
    let first = eqb (get_or s 0 0) 47 in
    let all_pass = list_all (is_segment a b) (segments_of s) in
    let some_pass = list_any (is_operator a b) (segments_of s) in
    and_from (first && all_pass && some_pass) (any_is_last a b (segments_of s))
    (and_from (first && all_pass) some_pass (and_from first all_pass p.slash p.all) p.some) p.last

pub is_uri_of : (s : List ℕ) → is_template s ≡ true → is_uri (uri_of s) ≡ true
is_uri_of s h =
    let p : Parts braced_one braced_any s = parts braced_one braced_any s h in
    let a : AllAlike (segments_of s) = all_alike (segments_of s) p.all in
    let cut = uri_segments s a in
    whole_form one any (uri_of s) (record {
      slash = begins s p.slash;
      all = ap (list_all (is_segment one any)) cut ∙ all_fit (segments_of s) a;
      some = ap (list_any (is_operator one any)) cut ∙ same_operators (segments_of s) a ∙ p.some;
      last = ap (any_is_last one any) cut ∙ same_last (segments_of s) a ∙ p.last;
    })

pub uri_pieces_of : (s : List ℕ) → is_template s ≡ true → uri_pieces (uri_of s) ≡ template_pieces s
uri_pieces_of s h =
    let p : Parts braced_one braced_any s = parts braced_one braced_any s h in
    let a : AllAlike (segments_of s) = all_alike (segments_of s) p.all in
    ap (pieces_of one any) (uri_segments s a) ∙ same_pieces (segments_of s) a

-- the URI form, segment by segment
pub uri_at_cut : (s : List ℕ) (x : Bor (List ℕ) × Bor (List ℕ)) → IsSplitOnceResult 47 s (Some x)
    → uri_of s ≡ uri_segment x.0.now ++ 47 ∷ uri_of x.1.now
uri_at_cut s x h =
    let q : HasSegment (segments_of x.1.now) = some_segment x.1.now in
    ap (λ ss. join_with_byte 47 (map uri_segment ss)) (one_more s x h)
    ∙ ap (λ ss. join_with_byte 47 (uri_segment x.0.now ∷ map uri_segment ss)) q.2
    ∙ ap (λ ss. uri_segment x.0.now ++ 47 ∷ join_with_byte 47 (map uri_segment ss)) (sym q.2)

pub uri_at_end : (s : List ℕ) → IsSplitOnceResult 47 s None → uri_of s ≡ uri_segment s
uri_at_end s n = ap (λ ss. join_with_byte 47 (map uri_segment ss)) (split_plain s (no_more s n))

pub pushed : (whole before rest segment more with_segment after : List ℕ) → whole ≡ before ++ rest → rest ≡ segment ++ 47 ∷ more
    → with_segment ≡ before ++ segment → after ≡ with_segment ++ 47 ∷ [] → whole ≡ after ++ more
pushed whole before rest segment more with_segment after e f g h =
    e ∙ ap (λ z. before ++ z) f ∙ sym (append_assoc before segment (47 ∷ more)) ∙ ap (λ z. z ++ 47 ∷ more) (sym g)
    ∙ sym (ap (λ z. z ++ more) h ∙ append_assoc with_segment (47 ∷ []) more)
