-- A key that does not begin as those on the token of a request do asks for none.
use Rattle.std.proofs.Common.{◌≡◌, ℕ, ◌++◌, Bool, true, false, List, [], ◌∷◌, Option, Some, None, option_map, unwrap_or}
use Rattle.std.proofs.Common.{if◌then◌else◌, take, drop, refl, sym, ap, subst, ◌∙◌, bytes_eq}
use Rattle.std.proofs.lemmas.Bool.{and_from, and_parts, cond_both}
use Rattle.std.proofs.lemmas.List.{take-append-drop}
use Rattle.std.proofs.lemmas.Slice.Eq.{bytes_eq-Decides}
use Rattle.std.specs.List.{before_first, position_or_len}
use Rattle.std.specs.Option.{option_or}
use Rattle.mesh_text.specs.Parts.{is_prefix}
use Rattle.mesh_text.specs.Token.{is_token}
use Rattle.mesh_policy.specs.Values.{is_bounded, lowered}
use Rattle.mesh_policy.specs.declared.condition.BlockKey.{BlockKey}
use Rattle.mesh_policy.specs.declared.condition.TextKey.{TextKey}
use Rattle.mesh_policy.specs.declared.condition.TextKey.TheVariants as text
use Rattle.authz_gen.specs.Policies.{key_needs_token}
use Rattle.policy_json.specs.ConditionKeys.{block_key_of, bracketed_key, bracketed_key_of, header_of}
use Rattle.policy_json.specs.ConditionKeys.{is_open, key_of, known_key_of, text_key_of}
use Rattle.policy_json.specs.declared.condition_keys.ConditionKey.{ConditionKey}
use Rattle.policy_json.specs.declared.condition_keys.ConditionKey.TheVariants as key
use Rattle.policy_json.specs.declared.condition_keys.TheConstants.{AUDIENCES, AUTH_PRINCIPAL, CLAIMS, DESTINATION_PORT}
use Rattle.policy_json.specs.declared.condition_keys.TheConstants.{HEADERS, PRESENTER, SNI, SOURCE_NAMESPACE, SOURCE_PRINCIPAL}
use Rattle.kept_back.specs.declared.policies.TheConstants.{REQUEST_AUTH}

-- a condition of this key tests the token of a request
abbrev pub needs : ConditionKey → Bool
needs (key.Words word) = key_needs_token word
needs key.Principals = true
needs (key.Blocks address) = false
needs key.Ports = false

abbrev IfWord : Option TextKey → Type 0
IfWord None = Unit {0}
IfWord (Some word) = key_needs_token word ≡ false

abbrev IfKey : Option ConditionKey → Type 0
IfKey None = Unit {0}
IfKey (Some k) = needs k ≡ false

-- ---- what a text begins with

abbrev asks : List ℕ → Bool
asks t = is_prefix REQUEST_AUTH.now t

-- a text that does not begin so is none of the words that do
clash : (t word : List ℕ) → asks word ≡ true → asks t ≡ false → bytes_eq t word ≡ true → true ≡ false
clash t word begins h same = sym begins ∙ (sym (ap asks ((bytes_eq-Decides t word).0 same)) ∙ h)

further : (front a b : List ℕ) → is_prefix front a ≡ true → is_prefix front (a ++ b) ≡ true
further [] a b h = refl
further (c ∷ cs) [] b h = cc
further (c ∷ cs) (d ∷ ds) b h = let parts = and_parts _ _ h in and_from _ _ parts.0 (further cs ds b parts.1)

begins : (t : List ℕ) → asks (before_first is_open t) ≡ true → asks t ≡ true
begins t h =
    let n = position_or_len is_open t in
    subst (λ x. asks x ≡ true) (take-append-drop n t) (further REQUEST_AUTH.now (take n t) (drop n t) h)

unless_true : (b : Bool) → (b ≡ true → true ≡ false) → b ≡ false
unless_true true h = h refl
unless_true false h = refl

front : (t : List ℕ) → asks t ≡ false → asks (before_first is_open t) ≡ false
front t h = unless_true (asks (before_first is_open t)) (λ yes. sym (begins t yes) ∙ h)

-- ---- keys of texts

plain_word : (b : Bool) (word : TextKey) (o : Option TextKey) → (b ≡ true → key_needs_token word ≡ false) → IfWord o
    → IfWord (if b then Some word else o)
plain_word true word o h k = h refl
plain_word false word o h k = k

text_word : (t : List ℕ) → asks t ≡ false → IfWord (text_key_of t)
text_word t h =
    plain_word (bytes_eq t SOURCE_PRINCIPAL.now) text.SourcePrincipal _ (λ _. refl)
    (plain_word (bytes_eq t SOURCE_NAMESPACE.now) text.SourceNamespace _ (λ _. refl)
    (plain_word (bytes_eq t SNI.now) text.Sni _ (λ _. refl)
    (plain_word (bytes_eq t AUDIENCES.now) text.Audiences _ (clash t AUDIENCES.now refl h)
    (plain_word (bytes_eq t PRESENTER.now) text.Presenter None (clash t PRESENTER.now refl h) tt))))

header_word : (names : List (List ℕ)) → IfWord (header_of names)
header_word [] = tt
header_word (name ∷ next ∷ more) = tt
header_word (name ∷ []) = cond_both (is_token name) (Some (text.Header (lowered name))) None IfWord (λ _. refl) (λ _. tt)

bracketed_word : (t : List ℕ) (names : Option (List (List ℕ))) → asks t ≡ false → IfWord (bracketed_key t names)
bracketed_word t None h = tt
bracketed_word t (Some names) h =
    cond_both (bytes_eq t HEADERS.now) (header_of names) (if bytes_eq t CLAIMS.now then Some (text.Claim names) else None) IfWord
    (λ _. header_word names)
    (λ _. cond_both (bytes_eq t CLAIMS.now) (Some (text.Claim names)) None IfWord (clash t CLAIMS.now refl h) (λ _. tt))

-- ---- all keys

word_or : (o p : Option TextKey) → IfWord o → IfWord p → IfWord (option_or o p)
word_or None p h k = k
word_or (Some word) p h k = h

words : (o : Option TextKey) → IfWord o → IfKey (option_map key.Words o)
words None h = tt
words (Some word) h = h

block_or : (o : Option BlockKey) (p : Option ConditionKey) → IfKey p → IfKey (option_or (option_map key.Blocks o) p)
block_or None p h = h
block_or (Some address) p h = refl

known_key : (t : List ℕ) → asks t ≡ false → IfKey (known_key_of t)
known_key t h =
    let bracket = bracketed_word (before_first is_open t) _ (front t h) in
    let rest = block_or (block_key_of t) _ (words _ (word_or (text_key_of t) (bracketed_key_of t) (text_word t h) bracket)) in
    cond_both (bytes_eq t AUTH_PRINCIPAL.now) _ _ IfKey (clash t AUTH_PRINCIPAL.now refl h)
    (λ _. cond_both (bytes_eq t DESTINATION_PORT.now) _ _ IfKey (λ _. refl) (λ _. rest))

any_key : (t : List ℕ) → asks t ≡ false → IfKey (key_of t)
any_key t h = cond_both (is_bounded t) (known_key_of t) None IfKey (λ _. known_key t h) (λ _. tt)

there : (o : Option ConditionKey) → IfKey o → needs (unwrap_or o key.Ports) ≡ false
there None h = refl
there (Some k) h = h

pub needs_none : (t : List ℕ) → asks t ≡ false → needs (unwrap_or (key_of t) key.Ports) ≡ false
needs_none t h = there (key_of t) (any_key t h)
