-- What is written spells the address that was written.
use Rattle.std.proofs.Common.{◌≡◌, ℕ, zero, suc, ◌+◌, ◌-◌, ◌*◌, ◌/◌, ◌%◌, ◌^◌, ◌<◌, ◌≤◌, ◌==◌, Bool, true, false, if◌then◌else◌}
use Rattle.std.proofs.Common.{List, [], ◌∷◌, ◌++◌, length, Some, codes}
use Rattle.std.proofs.Common.{inl, sym, refl, ap, ◌∙◌, arith, lit≤, append_assoc}
use Rattle.std.specs.Fmt.{digits, digits_onto, digit_glyph}
use Rattle.std.specs.Int.Digits.{number_from_digits}
use Rattle.std.specs.Net.Grammar.{IsGroup, IsGroupsAfter}
use Rattle.std.proofs.lemmas.Fmt.{digits_is_IsNumeral}
use Rattle.std.proofs.lemmas.Nat.{shr-shr, shr_below}
use Rattle.mesh_net.specs.declared.address.IpAddr.TheVariants.{V4, V6}
use Rattle.mesh_net.specs.Address.{ip_of}
use Rattle.mesh_net.specs.Written.{group_at, hex_text, ip_text, lower_groups}
use Rattle.mesh_net.proofs.AddressLemmas.{reads}

pub v4_back : (n : ℕ) → n < 2 ^ 32 → ip_of (ip_text (V4 n)) ≡ Some (V4 n)
v4_back n fits = reads _ _ (
  n / 2 ^ 24 ∷ n / 2 ^ 16 % 256 ∷ n / 2 ^ 8 % 256 ∷ n % 256 ∷ [],
  record {
    a = n / 2 ^ 24;
    b = n / 2 ^ 16 % 256;
    c = n / 2 ^ 8 % 256;
    d = n % 256;
    fit = (omega arith, omega arith, omega arith, omega arith);
    value = refl;
    spelled = refl;
  },
  omega arith,
)

-- the digits of a group are four at most
no_longer : (b : Bool) (xs ys : List ℕ) (most : ℕ) → length xs ≤ most → length ys ≤ most → length (if b then xs else ys) ≤ most
no_longer true xs ys most h k = h
no_longer false xs ys most h k = k

one_digit : (k n : ℕ) (acc : List ℕ) → n < 16 → length (digits_onto k 16 false n acc) ≤ 1 + length acc
one_digit zero n acc fits = omega arith
one_digit (suc k) n acc fits = let last : n / 16 ≡ 0 = omega arith in rw last (omega arith)

two_digits : (k n : ℕ) (acc : List ℕ) → n < 256 → length (digits_onto k 16 false n acc) ≤ 2 + length acc
two_digits zero n acc fits = omega arith
two_digits (suc k) n acc fits =
    let longer = one_digit k (n / 16) (digit_glyph false (n % 16) ∷ acc) (omega arith) in
    no_longer (n / 16 == 0) _ _ (2 + length acc) (omega arith) (omega (arith, longer))

three_digits : (k n : ℕ) (acc : List ℕ) → n < 4096 → length (digits_onto k 16 false n acc) ≤ 3 + length acc
three_digits zero n acc fits = omega arith
three_digits (suc k) n acc fits =
    let longer = two_digits k (n / 16) (digit_glyph false (n % 16) ∷ acc) (omega arith) in
    no_longer (n / 16 == 0) _ _ (3 + length acc) (omega arith) (omega (arith, longer))

four_digits : (k n : ℕ) (acc : List ℕ) → n < 65536 → length (digits_onto k 16 false n acc) ≤ 4 + length acc
four_digits zero n acc fits = omega arith
four_digits (suc k) n acc fits =
    let longer = three_digits k (n / 16) (digit_glyph false (n % 16) ∷ acc) (omega arith) in
    no_longer (n / 16 == 0) _ _ (4 + length acc) (omega arith) (omega (arith, longer))

length-hex_text : (n : ℕ) → n < 65536 → length (hex_text n) ≤ 4
unfolding digits
length-hex_text n fits = four_digits 64 n [] fits

is_group : (n : ℕ) → n < 65536 → IsGroup (hex_text n) n
is_group n fits =
    let wide : n < 16 ^ 64 = omega arith in
    (digits_is_IsNumeral 16 false (lit≤ tt) (lit≤ tt) n wide, length-hex_text n fits)

-- a number's lowest groups, the highest of them first
abbrev groups_below : ℕ → ℕ → List ℕ
groups_below n zero = []
groups_below n (suc place) = group_at n place ∷ groups_below n place

group_fits : (n place : ℕ) → group_at n place < 65536
group_fits n place = omega arith

further_groups : (n place : ℕ) → IsGroupsAfter true (codes ":") (lower_groups n place) (groups_below n place)
further_groups n zero = refl
further_groups n (suc place) = inl (
  hex_text (group_at n place),
  lower_groups n place,
  refl,
  is_group (group_at n place) (group_fits n place),
  further_groups n place,
)

all_groups : (n : ℕ) → IsGroupsAfter true [] (ip_text (V6 n)) (groups_below n 8)
all_groups n = inl (hex_text (group_at n 7), lower_groups n 7, refl, is_group (group_at n 7) (group_fits n 7), further_groups n 7)

-- a group more, below those that are joined already
join : (n bits high : ℕ) → high ≡ n / 2 ^ (bits + 16) → high * 65536 + n / 2 ^ bits % 65536 ≡ n / 2 ^ bits
join n bits high e =
    let above : n / 2 ^ bits / 65536 ≡ n / 2 ^ (bits + 16) = shr-shr n bits 16 in
    omega (arith, e, above)

-- the groups of a number spell it
joined : (n : ℕ) → n < 2 ^ 128 → n ≡ number_from_digits 65536 (groups_below n 8)
joined n fits =
    let top : n / 2 ^ 112 < 65536 = shr_below n 16 112 fits in
    let s7 : 0 * 65536 + n / 2 ^ 112 % 65536 ≡ n / 2 ^ 112 = omega (arith, top) in
    let s6 = join n 96 _ s7 in
    let s5 = join n 80 _ s6 in
    let s4 = join n 64 _ s5 in
    let s3 = join n 48 _ s4 in
    let s2 = join n 32 _ s3 in
    let s1 = join n 16 _ s2 in
    let s0 = join n 0 _ s1 in
    let whole : n / 2 ^ 0 ≡ n = omega arith in
    sym (s0 ∙ whole)

pub v6_back : (n : ℕ) → n < 2 ^ 128 → ip_of (ip_text (V6 n)) ≡ Some (V6 n)
v6_back n fits = reads _ _ (groups_below n 8, inl (all_groups n, refl), joined n fits)

-- the next of the lower groups
next_group : (n left : ℕ) (text : List ℕ) → 0 < left
    → text ++ lower_groups n left ≡ ((text ++ codes ":") ++ hex_text (group_at n (left - 1))) ++ lower_groups n (left - 1)
next_group n zero text some = absurd (omega arith)
next_group n (suc place) text some =
    let same : suc place - 1 ≡ place = omega arith in
    rw same (simp append_assoc)

pub one_more : (n left : ℕ) (text pushed whole : List ℕ) → 0 < left → text ++ lower_groups n left ≡ whole
    → pushed ≡ (text ++ codes ":") ++ hex_text (group_at n (left - 1)) → pushed ++ lower_groups n (left - 1) ≡ whole
one_more n left text pushed whole some so_far e =
    ap (λ t. t ++ lower_groups n (left - 1)) e ∙ sym (next_group n left text some) ∙ so_far
