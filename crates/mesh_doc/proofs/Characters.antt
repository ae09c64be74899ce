-- What becomes of a character in a printed place.
use Rattle.std.proofs.Common.{◌≡◌, ℕ, ◌+◌, ◌/◌, ◌%◌, ◌<◌, ◌≤◌, Bool, true, false, cond, List, [], ◌∷◌, ◌++◌, refl, ap, ap₂, ◌∙◌, arith, lit≤, append-nil, encode_utf8, nat_lt}
use Rattle.std.proofs.lemmas.Bool.Decides.{nat_tests}
use Rattle.std.proofs.lemmas.Str.{encode_ascii}
use lib.Utf8.{encode, next}
use Rattle.mesh_doc.specs.Printed.{shown_byte, shown_key}

pub shown_ascii : (c : ℕ) → c < 128 → shown_key (encode_utf8 c) ≡ shown_byte c
shown_ascii c h = ap shown_key (encode_ascii c h) ∙ append-nil (shown_byte c)

-- a byte past ASCII stays
shown_high : (b : ℕ) → 128 ≤ b → shown_byte b ≡ b ∷ []
shown_high b h = grind (arith, nat_tests)

one_more : (low n : ℕ) (bs : List ℕ) → 128 ≤ low → shown_key bs ≡ bs → shown_key ((low + n) ∷ bs) ≡ (low + n) ∷ bs
one_more low n bs h e = ap₂ (λ (x y : List ℕ). x ++ y) (shown_high (low + n) (omega arith)) e

rows : (two three : Bool) (x y z : List ℕ) → shown_key x ≡ x → shown_key y ≡ y → shown_key z ≡ z
    → shown_key (cond two x (cond three y z)) ≡ cond two x (cond three y z)
rows true three x y z d e f = d
rows false true x y z d e f = e
rows false false x y z d e f = f

pub shown_wide : (c : ℕ) → 128 ≤ c → shown_key (encode_utf8 c) ≡ encode_utf8 c
unfolding encode
shown_wide c h =
    let past : nat_lt c 128 ≡ false = grind (arith, nat_tests) in
    let one = one_more 128 (c % 64) [] (lit≤ tt) refl in
    let two = one_more 128 (c / 64 % 64) (next c ∷ []) (lit≤ tt) one in
    let three = one_more 128 (c / 4096 % 64) (next (c / 64) ∷ next c ∷ []) (lit≤ tt) two in
    rw past (rows (nat_lt c 2048) (nat_lt c 65536) _ _ _
    (one_more 192 (c / 64) (next c ∷ []) (lit≤ tt) one)
    (one_more 224 (c / 4096) (next (c / 64) ∷ next c ∷ []) (lit≤ tt) two)
    (one_more 240 (c / 262144) (next (c / 4096) ∷ next (c / 64) ∷ next c ∷ []) (lit≤ tt) three))
