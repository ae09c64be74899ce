-- The names of rules are different: a name has its namespace, its policy and its index, and no other.
use Rattle.std.proofs.Common.{◌≡◌, ℕ, ◌==◌, Bool, true, false, not, List, [], ◌∷◌, ◌++◌, codes, cond, refl, sym, ◌∙◌, ap, append_assoc}
use Rattle.std.proofs.lemmas.Bool.{and_from, and_parts, eqb-true}
use Rattle.std.proofs.lemmas.List.{append_cancel_left, append_cancel_right}
use Rattle.std.specs.List.{list_all, onto_first, slice_split}
use Rattle.mesh_policy.proofs.Listed.{left_of, right_of, list_all-weaker}
use Rattle.mesh_text.specs.Bytes.{dot}
use Rattle.mesh_text.specs.Dns.{is_label, is_name_byte, is_piece, is_subdomain}

-- ---- no name of a namespace or a policy has a bracket

abbrev is_plain_byte : ℕ → Bool
is_plain_byte c = not (c == 93)

abbrev pub is_plain : List ℕ → Bool
is_plain s = list_all is_plain_byte s

plain-byte : (test : ℕ → Bool) → test 93 ≡ false → (c : ℕ) → test c ≡ true → is_plain_byte c ≡ true
plain-byte test h c e = at (c == 93) refl where
  at : (b : Bool) → (c == 93) ≡ b → not b ≡ true
  at true same = sym (sym e ∙ ap test (eqb-true c 93 same) ∙ h)
  at false other = refl

plain-piece : (s : List ℕ) → is_piece s ≡ true → is_plain s ≡ true
plain-piece s h = list_all-weaker is_name_byte is_plain_byte (plain-byte is_name_byte refl) s (right_of _ _ (left_of _ _ (left_of _ _ h)))

pub plain-label : (s : List ℕ) → is_label s ≡ true → is_plain s ≡ true
plain-label s h = plain-piece s (left_of _ _ h)

plain-whole : (s : List ℕ) → list_all is_plain (slice_split (λ c. c == dot) s) ≡ true → is_plain s ≡ true
plain-whole [] h = refl
plain-whole (c ∷ cs) h = at (c == dot) refl (slice_split (λ d. d == dot) cs) h (plain-whole cs) where
  at : (b : Bool) → (c == dot) ≡ b → (parts : List (List ℕ)) → list_all is_plain (cond b ([] ∷ parts) (onto_first c parts)) ≡ true
      → (list_all is_plain parts ≡ true → is_plain cs ≡ true) → is_plain (c ∷ cs) ≡ true
  at true e parts k rest = and_from _ _ (plain-byte (λ d. d == dot) refl c e) (rest k)
  at false e [] k rest = and_from _ _ (left_of _ _ (left_of _ _ k)) (rest refl)
  at false e (part ∷ parts) k rest =
      let first = and_parts (is_plain (c ∷ part)) (list_all is_plain parts) k in
      let inner = and_parts (is_plain_byte c) (is_plain part) first.0 in
      and_from _ _ inner.0 (rest (and_from _ _ inner.1 first.1))

pub plain-subdomain : (s : List ℕ) → is_subdomain s ≡ true → is_plain s ≡ true
plain-subdomain s h = plain-whole s (list_all-weaker is_piece is_plain plain-piece (slice_split (λ c. c == dot) s) (right_of _ _ h))

-- ---- so the first bracket ends it

bracket-first : (c : ℕ) (cs xs ys : List ℕ) → is_plain (c ∷ cs) ≡ true → 93 ∷ xs ≡ c ∷ ys → ⊥
bracket-first c cs xs ys h e =
    let same : c ≡ 93 = cc in
    let plain : is_plain_byte c ≡ true = left_of _ _ h in
    let none : is_plain_byte 93 ≡ true = ap is_plain_byte (sym same) ∙ plain in
    cc

ends-at : (a b xs ys : List ℕ) → is_plain a ≡ true → is_plain b ≡ true → a ++ (93 ∷ xs) ≡ b ++ (93 ∷ ys) → (a ≡ b) × (xs ≡ ys)
ends-at [] [] xs ys h k e = (refl, cc)
ends-at [] (d ∷ b) xs ys h k e = absurd (bracket-first d b xs (b ++ (93 ∷ ys)) k e)
ends-at (c ∷ a) [] xs ys h k e = absurd (bracket-first c a ys (a ++ (93 ∷ xs)) h (sym e))
ends-at (c ∷ a) (d ∷ b) xs ys h k e =
    let first : c ≡ d = cc in
    let rest : a ++ (93 ∷ xs) ≡ b ++ (93 ∷ ys) = cc in
    let inner = ends-at a b xs ys (right_of (is_plain_byte c) _ h) (right_of (is_plain_byte d) _ k) rest in
    ((λ i. first i ∷ inner.0 i), inner.1)

-- ---- the parts of a name

abbrev pub named : (front namespace policy index : List ℕ) → List ℕ
named front namespace policy index =
    front ++ codes "ns[" ++ namespace ++ codes "]-policy[" ++ policy ++ codes "]-rule[" ++ index ++ codes "]"

parted : (front namespace policy index : List ℕ)
    → named front namespace policy index
    ≡ (front ++ codes "ns[") ++ (namespace ++ (93 ∷ (codes "-policy[" ++ (policy ++ (93 ∷ (codes "-rule[" ++ (index ++ codes "]")))))))
parted front namespace policy index =
    append_assoc (front ++ codes "ns[" ++ namespace ++ codes "]-policy[" ++ policy ++ codes "]-rule[") index (codes "]")
    ∙ append_assoc (front ++ codes "ns[" ++ namespace ++ codes "]-policy[" ++ policy) (codes "]-rule[") (index ++ codes "]")
    ∙ append_assoc (front ++ codes "ns[" ++ namespace ++ codes "]-policy[") policy (codes "]-rule[" ++ (index ++ codes "]"))
    ∙ append_assoc (front ++ codes "ns[" ++ namespace) (codes "]-policy[") (policy ++ (codes "]-rule[" ++ (index ++ codes "]")))
    ∙ append_assoc (front ++ codes "ns[") namespace (codes "]-policy[" ++ (policy ++ (codes "]-rule[" ++ (index ++ codes "]"))))

pub same-parts : (front n p i n' p' i' : List ℕ) → is_plain n ≡ true → is_plain p ≡ true → is_plain n' ≡ true → is_plain p' ≡ true
    → named front n p i ≡ named front n' p' i' → (n ≡ n') × (p ≡ p') × (i ≡ i')
same-parts front n p i n' p' i' hn hp hn' hp' e =
    let whole = append_cancel_left (front ++ codes "ns[") _ _ (sym (parted front n p i) ∙ e ∙ parted front n' p' i') in
    let first = ends-at n n' _ _ hn hn' whole in
    let second = ends-at p p' _ _ hp hp' (append_cancel_left (codes "-policy[") _ _ first.1) in
    (first.0, second.0, append_cancel_right i i' (codes "]") (append_cancel_left (codes "-rule[") _ _ second.1))
