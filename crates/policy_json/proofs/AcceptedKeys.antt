-- The key of a condition without fault is accepted.
use Rattle.std.proofs.Common.{◌≡◌, ℕ, ◌+◌, ◌≤◌, Bool, true, false, List, [], ◌∷◌, length, refl}
use Rattle.std.proofs.Common.{arith, ap, ◌∙◌, Option, Some, None, is_some, unwrap_or, option_map, if◌then◌else◌, IsTrue}
use Rattle.std.proofs.Common.{bytes_eq}
use Rattle.std.proofs.lemmas.Bool.{and_from, cond_both, leb-true, le-leb}
use Rattle.std.proofs.lemmas.List.{length-map}
use Rattle.std.proofs.lemmas.Slice.Eq.{bytes_eq-Decides}
use Rattle.std.specs.List.{after_first, before_first}
use Rattle.std.specs.Option.{option_or}
use Rattle.mesh_doc.proofs.NoFault.{Ensures, later, passed}
use Rattle.mesh_doc.specs.Kinds.{text_in}
use Rattle.mesh_policy.specs.AcceptedRules.{bracketed_len, is_text_key, is_value_of}
use Rattle.mesh_policy.specs.Values.{is_bounded, is_short, lowered}
use Rattle.mesh_policy.specs.declared.condition.BlockKey.{BlockKey}
use Rattle.mesh_policy.specs.declared.condition.TextKey.{TextKey}
use Rattle.mesh_policy.specs.declared.condition.TextKey.TheVariants as text
use Rattle.mesh_text.specs.Token.{is_token}
use Rattle.policy_json.proofs.KeyNames.{IsBracketed, bracketed}
use Rattle.policy_json.proofs.LowerCase.{lower_name}
use Rattle.policy_json.specs.ConditionKeys.{block_key_of, bracketed_key, bracketed_key_of, header_of, is_open}
use Rattle.policy_json.specs.ConditionKeys.{key_faults, key_in, key_of, known_key_of, names_of, text_key_of}
use Rattle.policy_json.specs.declared.condition_keys.ConditionKey.{ConditionKey}
use Rattle.policy_json.specs.declared.condition_keys.ConditionKey.TheVariants as key
use Rattle.policy_json.specs.declared.condition_keys.TheConstants.{AUDIENCES, AUTH_PRINCIPAL, CLAIMS, DESTINATION_PORT}
use Rattle.policy_json.specs.declared.condition_keys.TheConstants.{HEADERS, PRESENTER, SNI, SOURCE_NAMESPACE}
use Rattle.policy_json.specs.declared.condition_keys.TheConstants.{SOURCE_PRINCIPAL}

-- an accepted key of texts, whose values are texts of 1 to 1,024 bytes
pub record IsWordKey (word : TextKey) : Type 0 where
  pub form : IsTrue (is_text_key word)
  pub values : is_value_of word ≡ is_short

abbrev pub IsKey : ConditionKey → Type 0
IsKey (key.Words word) = IsWordKey word
IsKey key.Principals = Unit {0}
IsKey (key.Blocks address) = Unit {0}
IsKey key.Ports = Unit {0}

abbrev IfWord : Option TextKey → Type 0
IfWord None = Unit {0}
IfWord (Some word) = IsWordKey word

abbrev IfKey : Option ConditionKey → Type 0
IfKey None = Unit {0}
IfKey (Some k) = IsKey k

-- ---- keys of texts

plain_word : (b : Bool) (word : TextKey) (o : Option TextKey) → IsWordKey word → IfWord o → IfWord (if b then Some word else o)
plain_word true word o h k = h
plain_word false word o h k = k

text_word : (t : List ℕ) → IfWord (text_key_of t)
text_word t =
    plain_word (bytes_eq t SOURCE_PRINCIPAL.now) text.SourcePrincipal _ (record { form = refl; values = refl })
    (plain_word (bytes_eq t SOURCE_NAMESPACE.now) text.SourceNamespace _ (record { form = refl; values = refl })
    (plain_word (bytes_eq t SNI.now) text.Sni _ (record { form = refl; values = refl })
    (plain_word (bytes_eq t AUDIENCES.now) text.Audiences _ (record { form = refl; values = refl })
    (plain_word (bytes_eq t PRESENTER.now) text.Presenter None (record { form = refl; values = refl }) tt))))

header_word : (names : List (List ℕ)) → 15 + bracketed_len names ≤ 1024 → IfWord (header_of names)
header_word [] few = tt
header_word (name ∷ next ∷ more) few = tt
header_word (name ∷ []) few =
    cond_both (is_token name) (Some (text.Header (lowered name))) None IfWord
    (λ token. record {
      form = and_from _ _ (lower_name name (and_from _ _ token (le-leb (length name) 1024 (omega arith)))) (rw length-map
          (le-leb (17 + length name) 1024 (omega arith)));
      values = refl;
    })
    (λ _. tt)

claim_word : (names : List (List ℕ)) (t : List ℕ) → IsBracketed t names → 19 + bracketed_len names ≤ 1024 → IsWordKey (text.Claim names)
claim_word names t is few = record {
  form = and_from _ _ (and_from _ _ (le-leb 1 (length names) is.some) is.each)
      (le-leb _ 1024 few);
  values = refl;
}

-- the front of a key has the length of the word that it is
front_len : (front word : List ℕ) → bytes_eq front word ≡ true → length front ≡ length word
front_len front word e = ap length ((bytes_eq-Decides front word).0 e)

bracketed_word : (t front : List ℕ) (names : Option (List (List ℕ))) → names_of (after_first is_open t) ≡ names
    → before_first is_open t ≡ front → length t ≤ 1024 → IfWord (bracketed_key front names)
bracketed_word t front None e f few = tt
bracketed_word t front (Some names) e f few =
    let is = bracketed t names e in
    let long : length t ≡ length front + bracketed_len names = is.bytes ∙ ap (λ x. length x + bracketed_len names) f in
    cond_both (bytes_eq front HEADERS.now) (header_of names) (if bytes_eq front CLAIMS.now then Some (text.Claim names) else None) IfWord
    (λ same. let len : length front ≡ 15 = front_len front HEADERS.now same in header_word names (omega arith))
    (λ _. cond_both (bytes_eq front CLAIMS.now) (Some (text.Claim names)) None IfWord
    (λ same. let len : length front ≡ 19 = front_len front CLAIMS.now same in claim_word names t is (omega arith))
    (λ _. tt))

-- ---- all keys

word_or : (o p : Option TextKey) → IfWord o → IfWord p → IfWord (option_or o p)
word_or None p h k = k
word_or (Some word) p h k = h

words : (o : Option TextKey) → IfWord o → IfKey (option_map key.Words o)
words None h = tt
words (Some word) h = h

block_or : (o : Option BlockKey) (p : Option ConditionKey) → IfKey p → IfKey (option_or (option_map key.Blocks o) p)
block_or None p h = h
block_or (Some address) p h = tt

known_key : (t : List ℕ) → length t ≤ 1024 → IfKey (known_key_of t)
known_key t few =
    let bracket = bracketed_word t (before_first is_open t) (names_of (after_first is_open t)) refl refl few in
    let rest = block_or (block_key_of t) _ (words _ (word_or (text_key_of t) (bracketed_key_of t) (text_word t) bracket)) in
    cond_both (bytes_eq t AUTH_PRINCIPAL.now) _ _ IfKey (λ _. tt) (λ _. cond_both (bytes_eq t DESTINATION_PORT.now) _ _ IfKey
    (λ _. tt) (λ _. rest))

any_key : (t : List ℕ) → IfKey (key_of t)
any_key t = cond_both (is_bounded t) (known_key_of t) None IfKey (λ few. known_key t (leb-true (length t) 1024 few)) (λ _. tt)

key_there : (o : Option ConditionKey) → IfKey o → is_some o ≡ true → IsKey (unwrap_or o key.Ports)
key_there None h some = cc
key_there (Some k) h some = h

pub key_ensures : Ensures key_faults key_in IsKey
unfolding key_faults key_in
key_ensures = record {
  holds = λ d at h. key_there (key_of (text_in d)) (any_key (text_in d)) (passed (is_some (key_of
      (text_in d))) _ at (later _ _ h));
}
