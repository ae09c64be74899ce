-- Names that are kept in lower case.
use Rattle.std.proofs.Common.{◌≡◌, ℕ, true, not, nat_le, List, [], ◌∷◌, length, refl, arith}
use Rattle.std.proofs.lemmas.Bool.{and_from, and_parts}
use Rattle.std.proofs.lemmas.Bool.Decides.{nat_tests}
use Rattle.std.proofs.lemmas.List.{length-map}
use Rattle.std.specs.Char.{to_ascii_lowercase}
use Rattle.std.specs.List.{list_all}
use Rattle.mesh_policy.specs.Values.{is_lower_name, is_name, is_upper, lowered}
use Rattle.mesh_text.specs.Token.{is_token, is_token_byte}

lower_byte : (c : ℕ) → not (is_upper (to_ascii_lowercase c)) ≡ true
lower_byte c = grind (arith, nat_tests)

token_byte : (c : ℕ) → is_token_byte c ≡ true → is_token_byte (to_ascii_lowercase c) ≡ true
token_byte c h = grind (arith, nat_tests)

all_lower : (t : List ℕ) → list_all (λ c. not (is_upper c)) (lowered t) ≡ true
all_lower [] = refl
all_lower (c ∷ t) = and_from _ _ (lower_byte c) (all_lower t)

all_token : (t : List ℕ) → list_all is_token_byte t ≡ true → list_all is_token_byte (lowered t) ≡ true
all_token [] h = refl
all_token (c ∷ t) h =
    let parts = and_parts _ _ h in
    and_from _ _ (token_byte c parts.0) (all_token t parts.1)

-- a name stays one in lower case
pub lower_name : (t : List ℕ) → is_name t ≡ true → is_lower_name (lowered t) ≡ true
lower_name t h =
    let name = and_parts (is_token t) (nat_le (length t) 1024) h in
    let token = and_parts (nat_le 1 (length t)) (list_all is_token_byte t) name.0 in
    and_from _ _ (and_from _ _ (and_from _ _ (rw length-map token.0) (all_token t token.1)) (rw length-map name.1)) (all_lower t)
