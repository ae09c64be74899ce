-- The names in the brackets of a key.
use Rattle.std.proofs.Common.{◌≡◌, ℕ, ◌+◌, ◌<◌, ◌≤◌, ◌==◌, ◌||◌, Bool, true, false, not, nat_le, List, [], ◌∷◌}
use Rattle.std.proofs.Common.{length, map, refl, sym, arith, ◌∙◌, ap, cond, length-append}
use Rattle.std.proofs.Common.{length-drop, Some, subst}
use Rattle.std.proofs.lemmas.Bool.{and_from, and_parts, eqb-true, not_from_false, not-true, or_from}
use Rattle.std.proofs.lemmas.List.{get_or-take, length-map}
use Rattle.std.proofs.lemmas.Option.{cond_some}
use Rattle.std.proofs.lemmas.List.Splits.{join_with_byte-slice_split, length-slice_split}
use Rattle.std.proofs.lemmas.List.Folds.{length-prefix_len}
use Rattle.std.proofs.lemmas.List.Sums.{AllPass-from_list_all, fails_before_first, list_all-from_AllPass}
use Rattle.std.proofs.lemmas.List.Sums.{prefix_len-le-length}
use Rattle.std.specs.List.{after_first, before_first, join_with_byte, list_all, onto_first, position_or_len, slice_split}
use Rattle.mesh_policy.specs.AcceptedRules.{bracketed_len}
use Rattle.mesh_policy.specs.Values.{is_claim_name}
use Rattle.policy_json.specs.ConditionKeys.{is_closed, is_open, name_in, names_of}

-- ---- neither bracket stands in a name

abbrev unopened : List ℕ → Bool
unopened = list_all (λ c. not (is_open c))

onto_unopened : (c : ℕ) (parts : List (List ℕ)) → not (is_open c) ≡ true → list_all unopened parts ≡ true
    → list_all unopened (onto_first c parts) ≡ true
onto_unopened c [] h k = and_from _ _ (and_from _ _ h refl) refl
onto_unopened c (part ∷ parts) h k =
    let each = and_parts (unopened part) (list_all unopened parts) k in
    and_from _ _ (and_from _ _ h each.0) each.1

cut_unopened : (c : ℕ) (b : Bool) (parts : List (List ℕ)) → is_open c ≡ b → list_all unopened parts ≡ true
    → list_all unopened (cond b ([] ∷ parts) (onto_first c parts)) ≡ true
cut_unopened c true parts e h = h
cut_unopened c false parts e h = onto_unopened c parts (not_from_false (is_open c) e) h

parts_unopened : (t : List ℕ) → list_all unopened (slice_split is_open t) ≡ true
parts_unopened [] = refl
parts_unopened (c ∷ t) = cut_unopened c (is_open c) (slice_split is_open t) refl (parts_unopened t)

length_name : (piece : List ℕ) (k : ℕ) → k < length (name_in piece) → k < position_or_len (λ c. c == 93) piece
length_name piece k h = omega (arith, h, length-prefix_len (λ c. not (c == 93)) piece)

plain_name : (piece : List ℕ) → unopened piece ≡ true → list_all (λ c. not ((c == 91) || (c == 93))) (name_in piece) ≡ true
plain_name piece h =
    list_all-from_AllPass (λ c. not ((c == 91) || (c == 93))) (name_in piece) (λ k d inside.
    let before = length_name piece k inside in
    let within : k < length piece = omega (arith, before, prefix_len-le-length (λ c. not (c == 93)) piece) in
    let here = get_or-take (position_or_len (λ c. c == 93) piece) piece k d before in
    rw here (not_from_false _ (or_from _ _ (not-true _ (AllPass-from_list_all (λ c. not (is_open c)) piece h k d within))
    (fails_before_first (λ c. c == 93) piece k d before))))

-- ---- the names of all pieces

abbrev sum_of : List (List ℕ) → ℕ
sum_of [] = 0
sum_of (part ∷ parts) = length part + 1 + sum_of parts

names_plain : (pieces : List (List ℕ)) → list_all unopened pieces ≡ true → list_all is_closed pieces ≡ true
    → list_all is_claim_name (map name_in pieces) ≡ true
names_plain [] h k = refl
names_plain (piece ∷ pieces) h k =
    let plain = and_parts (unopened piece) (list_all unopened pieces) h in
    let closed = and_parts (is_closed piece) (list_all is_closed pieces) k in
    let some = and_parts (nat_le 1 (length (name_in piece))) (length piece == length (name_in piece) + 1) closed.0 in
    and_from _ _ (and_from _ _ some.0 (plain_name piece plain.0)) (names_plain pieces plain.1 closed.1)

bracketed_len-names : (pieces : List (List ℕ)) → list_all is_closed pieces ≡ true → bracketed_len (map name_in pieces) ≡ sum_of pieces
bracketed_len-names [] k = refl
bracketed_len-names (piece ∷ pieces) k =
    let closed = and_parts (is_closed piece) (list_all is_closed pieces) k in
    let some = and_parts (nat_le 1 (length (name_in piece))) (length piece == length (name_in piece) + 1) closed.0 in
    omega (arith, eqb-true (length piece) (length (name_in piece) + 1) some.1, bracketed_len-names pieces closed.1)

length-join : (piece : List ℕ) (pieces : List (List ℕ)) → length (join_with_byte 91 (piece ∷ pieces)) + 1 ≡ sum_of (piece ∷ pieces)
length-join piece [] = omega arith
length-join piece (next ∷ pieces) = simp length-append (omega (arith, length-join next pieces))

-- the pieces between the `[` of a text
pieces_there : (pieces : List (List ℕ)) (t : List ℕ) → join_with_byte 91 pieces ≡ t → 0 < length pieces → length t + 1 ≡ sum_of pieces
pieces_there [] t e h = omega arith
pieces_there (piece ∷ pieces) t e h = ap (λ x. length x + 1) (sym e) ∙ length-join piece pieces

-- the names behind the first `[` of a key
pub record AreNames (t : List ℕ) (names : List (List ℕ)) : Type 0 where
  pub some : 1 ≤ length names
  pub each : list_all is_claim_name names ≡ true
  pub bytes : bracketed_len names ≡ length t + 1

names_are : (t : List ℕ) (names : List (List ℕ)) → names_of t ≡ Some names → AreNames t names
names_are t names h =
    let pieces = slice_split is_open t in
    let found = cond_some (list_all is_closed pieces) (map name_in pieces) names h in
    let many : 0 < length pieces = omega (arith, length-slice_split is_open t) in
    let all : AreNames t (map name_in pieces) = record {
      some = rw length-map (omega arith);
      each = names_plain pieces (parts_unopened t) found.0;
      bytes = bracketed_len-names pieces found.0 ∙ sym (pieces_there pieces t (join_with_byte-slice_split 91 t) many);
    } in
    subst (λ (ns : List (List ℕ)). AreNames t ns) found.1 all

two_bytes : (names : List (List ℕ)) → 1 ≤ length names → 2 ≤ bracketed_len names
two_bytes [] h = omega arith
two_bytes (name ∷ names) h = omega arith

-- a key is what stands before the first `[`, and its names in brackets
pub record IsBracketed (t : List ℕ) (names : List (List ℕ)) : Type 0 where
  pub some : 1 ≤ length names
  pub each : list_all is_claim_name names ≡ true
  pub bytes : length t ≡ length (before_first is_open t) + bracketed_len names

pub bracketed : (t : List ℕ) (names : List (List ℕ)) → names_of (after_first is_open t) ≡ Some names → IsBracketed t names
bracketed t names h =
    let are = names_are (after_first is_open t) names h in
    let behind = length-drop (position_or_len is_open t + 1) t in
    let front = length-prefix_len (λ c. not (is_open c)) t in
    let within = prefix_len-le-length (λ c. not (is_open c)) t in
    record {
      some = are.some;
      each = are.each;
      bytes = omega (arith, are.bytes, two_bytes names are.some, behind, front, within);
    }
