-- Where a text is cut at its first `/`, and that no address has one.
use Rattle.std.proofs.Common.{◌≡◌, ℕ, suc, ◌+◌, ◌<◌, ◌≤◌, ◌^◌, Bool, true, false, not, ◌||◌, if◌then◌else◌}
use Rattle.std.proofs.Common.{List, [], ◌∷◌, ◌++◌, length, take, drop, codes, decimal}
use Rattle.std.proofs.Common.{inl, inr, sym, refl, ap, ◌∙◌, subst, arith, lit≤, drop-drop}
use Rattle.std.proofs.Math.Bool.{or-true}
use Rattle.std.proofs.Math.Seq.{take-append_seam, drop-append_seam}
use Rattle.std.proofs.lemmas.Bool.{eqb-true, or_parts}
use Rattle.std.proofs.lemmas.Fmt.{decimal_is_IsNumeral}
use Rattle.std.proofs.lemmas.List.Folds.{list_any-append}
use Rattle.std.specs.Char.{digit_value}
use Rattle.std.specs.List.{list_any, position_or_len, before_first, after_first}
use Rattle.std.specs.Net.Grammar.{IsColonHex, IsDotted, IsGroupsAfter}
use Rattle.std.specs.Str.Parse.{AllDigits}
use Rattle.mesh_text.specs.Bytes.{slash}
use Rattle.mesh_net.specs.declared.address.IpAddr.{IpAddr}
use Rattle.mesh_net.specs.declared.address.IpAddr.TheVariants.{V4, V6}
use Rattle.mesh_net.specs.Address.{Spells}
use Rattle.mesh_net.specs.Block.{is_slash}

-- ---- the cut

cut_here : (b : Bool) (x : ℕ) (xs : List ℕ) (p : ℕ) → (b ≡ true → x ≡ slash) → (b ≡ false → xs ≡ take p xs ++ slash ∷ drop (p + 1) xs)
    → x ∷ xs ≡ take (if not b then (1 + p) else 0) (x ∷ xs) ++ slash ∷ drop ((if not b then (1 + p) else 0) + 1) (x ∷ xs)
cut_here true x xs p here later = ap (λ c. c ∷ xs) (here refl)
cut_here false x xs p here later =
    let one : 1 + p ≡ suc p = omega arith in
    let two : suc p + 1 ≡ suc (p + 1) = omega arith in
    rw (one, two) (ap (λ ys. x ∷ ys) (later refl))

pub cut_at_slash : (xs : List ℕ) → list_any is_slash xs ≡ true → xs ≡ before_first is_slash xs ++ slash ∷ after_first is_slash xs
cut_at_slash [] e = absurd cc
cut_at_slash (x ∷ xs) e =
    cut_here (is_slash x) x xs (position_or_len is_slash xs) (eqb-true x slash)
    (λ other. cut_at_slash xs (sym (ap (λ b. b || list_any is_slash xs) other) ∙ e))

one_on : (b : Bool) (p m : ℕ) → b ≡ false → p ≡ m → (if not b then (1 + p) else 0) ≡ suc m
one_on true p m e same = absurd cc
one_on false p m e same = omega (arith, same)

first_place : (addr len : List ℕ) → list_any is_slash addr ≡ false → position_or_len is_slash (addr ++ slash ∷ len) ≡ length addr
first_place [] len clean = refl
first_place (x ∷ xs) len clean =
    let parts = or_parts (is_slash x) (list_any is_slash xs) clean in
    one_on (is_slash x) _ _ parts.0 (first_place xs len parts.1)

pub before_slash : (addr len : List ℕ) → list_any is_slash addr ≡ false → before_first is_slash (addr ++ slash ∷ len) ≡ addr
before_slash addr len clean = ap (λ n. take n (addr ++ slash ∷ len)) (first_place addr len clean) ∙ take-append_seam addr (slash ∷ len)

pub after_slash : (addr len : List ℕ) → list_any is_slash addr ≡ false → after_first is_slash (addr ++ slash ∷ len) ≡ len
after_slash addr len clean =
    ap (λ n. drop (n + 1) (addr ++ slash ∷ len)) (first_place addr len clean)
    ∙ sym (drop-drop 1 (length addr) (addr ++ slash ∷ len))
    ∙ ap (drop 1) (drop-append_seam addr (slash ∷ len))

pub has_slash : (addr len : List ℕ) → list_any is_slash (addr ++ slash ∷ len) ≡ true
has_slash addr len = list_any-append is_slash addr (slash ∷ len) ∙ or-true (list_any is_slash addr)

-- ---- addresses

abbrev Clean : List ℕ → Type 0
Clean text = list_any is_slash text ≡ false

both_clean : (xs ys : List ℕ) → Clean xs → Clean ys → Clean (xs ++ ys)
both_clean xs ys h k = list_any-append is_slash xs ys ∙ ap (λ b. b || list_any is_slash ys) h ∙ k

digit_is_no_slash : (radix c : ℕ) → radix ≤ 16 → digit_value c < radix → is_slash c ≡ false
digit_is_no_slash radix c small digit = go (is_slash c) refl
  where
    go : (b : Bool) → is_slash c ≡ b → is_slash c ≡ false
    go false e = e
    go true e =
        let below : digit_value slash < radix = subst (λ d. digit_value d < radix) (eqb-true c slash e) digit in
        absurd (omega (arith, below, small))

digits_clean : (radix : ℕ) (cs : List ℕ) → radix ≤ 16 → AllDigits radix cs → Clean cs
digits_clean radix [] small all = refl
digits_clean radix (c ∷ cs) small all =
    ap (λ b. b || list_any is_slash cs) (digit_is_no_slash radix c small all.0) ∙ digits_clean radix cs small all.1

decimal_clean : (n : ℕ) → n < 256 → Clean (decimal n)
decimal_clean n fits =
    let wide : n < 2 ^ 64 = omega arith in
    digits_clean 10 (decimal n) (lit≤ tt) (decimal_is_IsNumeral n wide).0.1

one_octet_more : (front : List ℕ) (n : ℕ) → Clean front → n < 256 → Clean (front ++ codes "." ++ decimal n)
one_octet_more front n clean fits =
    both_clean (front ++ codes ".") (decimal n) (both_clean front (codes ".") clean refl) (decimal_clean n fits)

dotted_clean : (text octets : List ℕ) → IsDotted text octets → Clean text
dotted_clean text octets h =
    let two = one_octet_more (decimal h.a) h.b (decimal_clean h.a h.fit.0) h.fit.1 in
    let three = one_octet_more (decimal h.a ++ codes "." ++ decimal h.b) h.c two h.fit.2 in
    let four = one_octet_more (decimal h.a ++ codes "." ++ decimal h.b ++ codes "." ++ decimal h.c) h.d three h.fit.3 in
    ap (list_any is_slash) h.spelled ∙ four

groups_clean : (ipv4 : Bool) (lead text groups : List ℕ) → Clean lead → IsGroupsAfter ipv4 lead text groups → Clean text
groups_clean ipv4 lead text [] first none = ap (list_any is_slash) none
groups_clean ipv4 lead text (g ∷ gs) first h =
    elim h [
      | inl some ↦ ap (list_any is_slash) some.2
          ∙ both_clean (lead ++ some.0) some.1
          (both_clean lead some.0 first (digits_clean 16 some.0 (lit≤ tt) some.3.0.0.1))
          (groups_clean ipv4 (codes ":") some.1 gs refl some.4)
      | inr last ↦ ap (list_any is_slash) last.3 ∙ both_clean lead last.0 first (dotted_clean last.0 last.1 last.4)
    ]

colons_clean : (text groups : List ℕ) → IsColonHex text groups → Clean text
colons_clean text groups h =
    elim h [
      | inl all ↦ groups_clean true [] text groups refl all.0
      | inr some ↦ ap (list_any is_slash) some.spelled
          ∙ both_clean (some.head_text ++ codes "::") some.tail_text
          (both_clean some.head_text (codes "::") (groups_clean false [] some.head_text some.head refl some.head_groups) refl)
          (groups_clean true [] some.tail_text some.tail refl some.tail_groups)
    ]

pub address_clean : (text : List ℕ) (ip : IpAddr) → Spells text ip → list_any is_slash text ≡ false
address_clean text (V4 n) spelled = dotted_clean text spelled.0 spelled.1
address_clean text (V6 n) spelled = colons_clean text spelled.0 spelled.1
