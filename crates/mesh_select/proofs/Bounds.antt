-- How much accepted policies can hold: it fits a number of 64 bits.
use Rattle.std.proofs.Common.{◌≡◌, ℕ, ◌+◌, ◌*◌, ◌≤◌, ◌==◌, ◌++◌, Bool, true, false, ◌&&◌, All, IsTrue, List, [], ◌∷◌, length, map, filter, flat_map, count_by, nat_le, refl, arith, leb-true, cond, length-append}
use Rattle.std.proofs.lemmas.List.Elements.{All-append, All-cons, All-filter, All-head, All-nil, All-tail}
use Rattle.std.proofs.lemmas.List.Filters.{length-filter_both}
use Rattle.std.proofs.lemmas.List.Sums.{count_by-le-length, length-filter}
use Rattle.std.specs.List.{list_all}
use Rattle.mesh_text.specs.Bytes.{slash}
use Rattle.mesh_text.specs.Token.{is_token}
use Rattle.mesh_policy.specs.AcceptedBundle.{AcceptedBundle, item_count}
use Rattle.mesh_policy.specs.AcceptedLists.{AcceptedValues}
use Rattle.mesh_policy.specs.AcceptedRules.{AcceptedCondition, AcceptedOperation, AcceptedPolicy, AcceptedRule, AcceptedSource, bracketed_len, is_text_key, is_value_of}
use Rattle.mesh_policy.specs.AcceptedTokens.{AcceptedJwtRule, AcceptedRequest, are_keys, is_header, is_param, is_place}
use Rattle.mesh_policy.specs.Applying.{authorization_of, requests_of}
use Rattle.mesh_policy.specs.Authenticated.{text_of}
use Rattle.mesh_policy.specs.Lists.{in_order, put}
use Rattle.mesh_policy.specs.Sizes.{Size, condition_size, jwt_rule_size, key_size, operation_size, place_size, plain_size, policy_size, principal_size, principals_size, rule_size, size_of, source_size, sum_of, text_size, texts_size, value_size, words_size}
use Rattle.mesh_policy.specs.Values.{is_claim_name, is_lower_name, is_name, is_path, is_path_value, is_request_principal, is_short}
use Rattle.mesh_policy.specs.Workload.{jwt_rules_of}
use Rattle.mesh_policy.specs.declared.bundle.Bundle.{Bundle}
use Rattle.mesh_policy.specs.declared.condition.Condition.{Condition}
use Rattle.mesh_policy.specs.declared.condition.Condition.TheVariants as condition
use Rattle.mesh_policy.specs.declared.condition.TextKey.{TextKey}
use Rattle.mesh_policy.specs.declared.condition.TextKey.TheVariants as key
use Rattle.mesh_policy.specs.declared.jwt.JwtRule.{JwtRule}
use Rattle.mesh_policy.specs.declared.jwt.Keys.{Keys}
use Rattle.mesh_policy.specs.declared.jwt.Keys.TheVariants as keys
use Rattle.mesh_policy.specs.declared.jwt.TokenPlace.{TokenPlace}
use Rattle.mesh_policy.specs.declared.jwt.TokenPlace.TheVariants as place
use Rattle.mesh_policy.specs.declared.pod.Pod.{Pod}
use Rattle.mesh_policy.specs.declared.policy.AuthorizationPolicy.{AuthorizationPolicy}
use Rattle.mesh_policy.specs.declared.policy.OperationSpec.{OperationSpec}
use Rattle.mesh_policy.specs.declared.policy.Rule.{Rule}
use Rattle.mesh_policy.specs.declared.policy.SourceSpec.{SourceSpec}
use Rattle.mesh_policy.proofs.Listed.{left_of, right_of}
use Rattle.mesh_select.specs.Sizes.{Fits}

-- each of the three is at most n
record Below (n : ℕ) (size : Size) : Type 0 where
  values : size.values ≤ n
  entries : size.entries ≤ n
  bytes : size.bytes ≤ n

raised : (m n : ℕ) (size : Size) → m ≤ n → Below m size → Below n size
raised m n size h b = record {
  values = let e : size.values ≤ m = b.values in omega arith;
  entries = let e : size.entries ≤ m = b.entries in omega arith;
  bytes = let e : size.bytes ≤ m = b.bytes in omega arith;
}

module _ {A : Type 0} (f : A → Size) where
  sum-along : (n : ℕ) (xs : List A) → All (λ x. Below n (f x)) xs → Below (length xs * n) (sum_of (map f xs))
  sum-along n [] h = record { values = omega arith; entries = omega arith; bytes = omega arith }
  sum-along n (x ∷ xs) h = one (All-head (λ x. Below n (f x)) x xs h) (sum-along n xs (All-tail (λ x. Below n (f x)) x xs h)) where
    one : Below n (f x) → Below (length xs * n) (sum_of (map f xs)) → Below (length (x ∷ xs) * n) (sum_of (map f (x ∷ xs)))
    one b bs = record {
      values = let p : (f x).values ≤ n = b.values in let q : (sum_of (map f xs)).values ≤ length xs * n = bs.values in grind arith;
      entries = let p : (f x).entries ≤ n = b.entries in let q : (sum_of (map f xs)).entries ≤ length xs * n = bs.entries in grind arith;
      bytes = let p : (f x).bytes ≤ n = b.bytes in let q : (sum_of (map f xs)).bytes ≤ length xs * n = bs.bytes in grind arith;
    }

  sum-below : (n k : ℕ) (xs : List A) → length xs ≤ k → All (λ x. Below n (f x)) xs → Below (k * n) (sum_of (map f xs))
  sum-below n k xs few h = raised (length xs * n) (k * n) (sum_of (map f xs)) (grind arith) (sum-along n xs h)

all-weaker : {A : Type 0} (P Q : A → Type 0) → ((x : A) → P x → Q x) → (xs : List A) → All P xs → All Q xs
all-weaker P Q weaker xs h k d within = weaker _ (h k d within)

-- ---- values

short-below : (t : List ℕ) → IsTrue (is_short t) → Below 1024 (value_size t)
short-below t h = record {
  values = omega arith;
  entries = omega arith;
  bytes = leb-true (length t) 1024 (right_of (nat_le 1 (length t)) _ h);
}

principal-below : (t : List ℕ) → IsTrue (is_request_principal t) → Below 1024 (principal_size t)
principal-below t h =
    let few : count_by (λ c. c == slash) t ≤ 8 = leb-true _ 8 (right_of (is_short t) _ h) in
    record {
      values = omega arith;
      entries = omega arith;
      bytes = (short-below t (left_of _ _ h)).bytes;
    }

texts-below : (ts : List (List ℕ)) → AcceptedValues is_short ts → Below 2097152 (texts_size ts)
texts-below ts h = sum-below value_size 1024 2048 ts h.few (all-weaker _ (λ t. Below 1024 (value_size t)) short-below ts h.each)

principals-below : (ts : List (List ℕ)) → AcceptedValues is_request_principal ts → Below 2097152 (principals_size ts)
principals-below ts h =
    sum-below principal_size 1024 2048 ts h.few (all-weaker _ (λ t. Below 1024 (principal_size t)) principal-below ts h.each)

plain-below : {A : Type 0} (xs : List A) → length xs ≤ 2048 → Below 2097152 (plain_size xs)
plain-below xs few = record { values = omega arith; entries = omega arith; bytes = omega arith }

paths-below : (ts : List (List ℕ)) → AcceptedValues is_path_value ts → Below 2097152 (texts_size ts)
paths-below ts h =
    sum-below value_size 1024 2048 ts h.few
    (all-weaker (λ t. IsTrue (is_path_value t)) (λ t. Below 1024 (value_size t))
    (λ t short. short-below t (left_of (is_short t) (is_path t) short)) ts h.each)

-- ---- rules

source-below : (s : SourceSpec) → AcceptedSource s → Below 20971521 (source_size s)
source-below s h =
    let a = texts-below s.principals h.principals in
    let b = texts-below s.not_principals h.not_principals in
    let c = principals-below s.request_principals h.request_principals in
    let d = principals-below s.not_request_principals h.not_request_principals in
    let e = texts-below s.namespaces h.namespaces in
    let f = texts-below s.not_namespaces h.not_namespaces in
    let i = plain-below s.ip_blocks h.ip_blocks.few in
    let j = plain-below s.not_ip_blocks h.not_ip_blocks.few in
    let k = plain-below s.remote_ip_blocks h.remote_ip_blocks.few in
    let l = plain-below s.not_remote_ip_blocks h.not_remote_ip_blocks.few in
    record {
      values = omega (arith, a.values, b.values, c.values, d.values, e.values, f.values, i.values, j.values, k.values, l.values);
      entries = omega (arith, a.entries, b.entries, c.entries, d.entries, e.entries, f.entries, i.entries, j.entries, k.entries, l.entries);
      bytes = omega (arith, a.bytes, b.bytes, c.bytes, d.bytes, e.bytes, f.bytes, i.bytes, j.bytes, k.bytes, l.bytes);
    }

operation-below : (o : OperationSpec) → AcceptedOperation o → Below 20971521 (operation_size o)
operation-below o h =
    let a = texts-below o.hosts h.hosts in
    let b = texts-below o.not_hosts h.not_hosts in
    let c = plain-below o.ports h.ports.few in
    let d = plain-below o.not_ports h.not_ports.few in
    let e = texts-below o.methods h.methods in
    let f = texts-below o.not_methods h.not_methods in
    let i = paths-below o.paths h.paths in
    let j = paths-below o.not_paths h.not_paths in
    record {
      values = omega (arith, a.values, b.values, c.values, d.values, e.values, f.values, i.values, j.values);
      entries = omega (arith, a.entries, b.entries, c.entries, d.entries, e.entries, f.entries, i.entries, j.entries);
      bytes = omega (arith, a.bytes, b.bytes, c.bytes, d.bytes, e.bytes, f.bytes, i.bytes, j.bytes);
    }

names-bracketed : (names : List (List ℕ)) → (sum_of (map text_size names)).bytes ≤ bracketed_len names
names-bracketed [] = omega arith
names-bracketed (name ∷ names) = let inner = names-bracketed names in omega (arith, inner)

names-plain : (names : List (List ℕ)) → ((sum_of (map text_size names)).values ≡ 0) × ((sum_of (map text_size names)).entries ≡ 0)
names-plain [] = (refl, refl)
names-plain (name ∷ names) = let inner = names-plain names in (omega (arith, inner.0), omega (arith, inner.1))

key-below : (k : TextKey) → IsTrue (is_text_key k) → Below 1024 (key_size k)
key-below key.SourcePrincipal h = record { values = omega arith; entries = omega arith; bytes = omega arith }
key-below key.SourceNamespace h = record { values = omega arith; entries = omega arith; bytes = omega arith }
key-below key.Sni h = record { values = omega arith; entries = omega arith; bytes = omega arith }
key-below (key.Header name) h =
    let few : 17 + length name ≤ 1024 = leb-true (17 + length name) 1024 (right_of (is_lower_name name) _ h) in
    record { values = omega arith; entries = omega arith; bytes = omega (arith, few) }
key-below key.AuthPrincipal h = record { values = omega arith; entries = omega arith; bytes = omega arith }
key-below key.Audiences h = record { values = omega arith; entries = omega arith; bytes = omega arith }
key-below key.Presenter h = record { values = omega arith; entries = omega arith; bytes = omega arith }
key-below (key.Claim names) h =
    let few : 19 + bracketed_len names ≤ 1024 =
    leb-true (19 + bracketed_len names) 1024 (right_of (nat_le 1 (length names) && list_all is_claim_name names) _ h) in
    let plain = names-plain names in
    record {
      values = omega (arith, plain.0);
      entries = omega (arith, plain.1);
      bytes = omega (arith, few, names-bracketed names);
    }

words-below : (k : TextKey) (ts : List (List ℕ)) → AcceptedValues (is_value_of k) ts → Below 2097152 (words_size k ts)
words-below key.SourcePrincipal ts h = texts-below ts h
words-below key.SourceNamespace ts h = texts-below ts h
words-below key.Sni ts h = texts-below ts h
words-below (key.Header name) ts h = texts-below ts h
words-below key.AuthPrincipal ts h = principals-below ts h
words-below key.Audiences ts h = texts-below ts h
words-below key.Presenter ts h = texts-below ts h
words-below (key.Claim names) ts h = texts-below ts h

condition-below : (c : Condition) → AcceptedCondition c → Below 20971521 (condition_size c)
condition-below (condition.Words k vs ns) h =
    let a = key-below k h.key in
    let b = words-below k vs h.values in
    let c = words-below k ns h.not_values in
    record {
      values = omega (arith, a.values, b.values, c.values);
      entries = omega (arith, a.entries, b.entries, c.entries);
      bytes = omega (arith, a.bytes, b.bytes, c.bytes);
    }
condition-below (condition.Blocks k vs ns) h =
    let a = plain-below vs h.values.few in
    let b = plain-below ns h.not_values.few in
    record { values = omega (arith, a.values, b.values); entries = omega arith; bytes = omega arith }
condition-below (condition.Ports vs ns) h =
    let a = plain-below vs h.values.few in
    let b = plain-below ns h.not_values.few in
    record { values = omega (arith, a.values, b.values); entries = omega arith; bytes = omega arith }

-- 2,048 times the bound of a part, three times, and one
rule-below : (r : Rule) → AcceptedRule r → Below 128849025025 (rule_size r)
rule-below r h =
    let a = sum-below source_size 20971521 2048 r.sources h.sources.few
    (all-weaker AcceptedSource (λ s. Below 20971521 (source_size s)) source-below r.sources h.sources.each) in
    let b = sum-below operation_size 20971521 2048 r.operations h.operations.few
    (all-weaker AcceptedOperation (λ o. Below 20971521 (operation_size o)) operation-below r.operations h.operations.each) in
    let c = sum-below condition_size 20971521 2048 r.conditions h.conditions.few
    (all-weaker AcceptedCondition (λ c. Below 20971521 (condition_size c)) condition-below r.conditions h.conditions.each) in
    record {
      values = omega (arith, a.values, b.values, c.values);
      entries = omega (arith, a.entries, b.entries, c.entries);
      bytes = omega (arith, a.bytes, b.bytes, c.bytes);
    }

policy-below : (p : AuthorizationPolicy) → AcceptedPolicy p → Below 263882803251200 (policy_size p)
policy-below p h =
    sum-below rule_size 128849025025 2048 p.rules h.rules.few
    (all-weaker AcceptedRule (λ r. Below 128849025025 (rule_size r)) rule-below p.rules h.rules.each)

-- ---- rules of tokens

place-below : (at : TokenPlace) → IsTrue (is_place at) → Below 2048 (place_size at)
place-below (place.Header name prefix) h =
    let a : length name ≤ 1024 =
    leb-true (length name) 1024 (right_of (is_token name) _ (left_of (is_name name) _ (left_of (is_lower_name name) _ h))) in
    let b : length prefix ≤ 1024 = leb-true (length prefix) 1024 (right_of (is_lower_name name) _ h) in
    record { values = omega arith; entries = omega arith; bytes = omega (arith, a, b) }
place-below (place.Param name) h = raised 1024 2048 (value_size name) (omega arith) (short-below name h)

keys-below : (k : Keys) → IsTrue (are_keys k) → length (text_of k) ≤ 16384
keys-below (keys.Inline set) h = leb-true (length set) 16384 (right_of (nat_le 1 (length set)) _ h)
keys-below (keys.Uri uri) h = let a : length uri ≤ 1024 = (short-below uri h).bytes in omega (arith, a)

-- headers and parameters are all places
places-split : (ps : List TokenPlace) → length (filter is_header ps) + length (filter is_param ps) ≡ length ps
places-split ps = length-filter_both is_header is_param (λ p. refl) ps

jwt_rule-below : (r : JwtRule) → AcceptedJwtRule r → Below 20971521 (jwt_rule_size r)
jwt_rule-below r h =
    let few : length r.places ≤ 4096 = omega (arith, places-split r.places, h.places.few_headers, h.places.few_params) in
    let a = texts-below r.audiences h.audiences in
    let b = sum-below place_size 2048 4096 r.places few
    (all-weaker (λ at. IsTrue (is_place at)) (λ at. Below 2048 (place_size at)) place-below r.places h.places.each) in
    let c : length r.issuer ≤ 1024 = (short-below r.issuer h.issuer).bytes in
    let d = keys-below r.keys h.keys in
    record {
      values = omega (arith, a.values, b.values);
      entries = omega (arith, a.entries, b.entries);
      bytes = omega (arith, a.bytes, b.bytes, c, d);
    }

-- ---- lists in order

pub all-put : {A : Type 0} (before : A → A → Bool) (P : A → Type 0) (x : A) (ys : List A) → P x → All P ys → All P (put before x ys)
all-put before P x [] p ps = All-cons P x [] p ps
all-put {A} before P x (y ∷ ys) p ps = at (before y x) (all-put before P x ys p (All-tail P y ys ps)) where
  at : (b : Bool) → All P (put before x ys) → All P (cond b (y ∷ put before x ys) (x ∷ y ∷ ys))
  at true inner = All-cons P y (put before x ys) (All-head P y ys ps) inner
  at false inner = All-cons P x (y ∷ ys) p ps

pub all-in_order : {A : Type 0} (before : A → A → Bool) (P : A → Type 0) (xs : List A) → All P xs → All P (in_order before xs)
all-in_order before P [] h = h
all-in_order before P (x ∷ xs) h =
    all-put before P x (in_order before xs) (All-head P x xs h) (all-in_order before P xs (All-tail P x xs h))

length-put : {A : Type 0} (before : A → A → Bool) (x : A) (ys : List A) → length (put before x ys) ≡ 1 + length ys
length-put before x [] = refl
length-put before x (y ∷ ys) = at (before y x) (length-put before x ys) where
  at : (b : Bool) → length (put before x ys) ≡ 1 + length ys → length (cond b (y ∷ put before x ys) (x ∷ y ∷ ys)) ≡ 1 + length (y ∷ ys)
  at true inner = grind (arith, inner)
  at false inner = grind arith

length-in_order : {A : Type 0} (before : A → A → Bool) (xs : List A) → length (in_order before xs) ≡ length xs
length-in_order before [] = refl
length-in_order before (x ∷ xs) =
    let a = length-put before x (in_order before xs) in
    let b = length-in_order before xs in
    grind (arith, a, b)

few-applying : {A : Type 0} (before : A → A → Bool) (test : A → Bool) (xs : List A) (n : ℕ) → length xs ≤ n
    → length (in_order before (filter test xs)) ≤ n
few-applying before test xs n few =
    omega (arith, length-in_order before (filter test xs), length-filter test xs, count_by-le-length test xs)

-- ---- all rules of tokens

pub all-flat : {A B : Type 0} (g : A → List B) (P : B → Type 0) (xs : List A) → All (λ x. All P (g x)) xs → All P (flat_map g xs)
all-flat g P [] h = All-nil P
all-flat g P (x ∷ xs) h =
    All-append P (g x) (flat_map g xs) (All-head (λ y. All P (g y)) x xs h) (all-flat g P xs (All-tail (λ y. All P (g y)) x xs h))

length-flat : {A B : Type 0} (g : A → List B) (k : ℕ) (xs : List A) → All (λ x. length (g x) ≤ k) xs
    → length (flat_map g xs) ≤ length xs * k
length-flat g k [] h = omega arith
length-flat g k (x ∷ xs) h =
    let a : length (g x) ≤ k = All-head (λ y. length (g y) ≤ k) x xs h in
    let b : length (flat_map g xs) ≤ length xs * k = length-flat g k xs (All-tail (λ y. length (g y) ≤ k) x xs h) in
    let c : length (g x ++ flat_map g xs) ≡ length (g x) + length (flat_map g xs) = length-append (g x) (flat_map g xs) in
    grind (arith, a, b, c)

module _ (bundle : Bundle) (pod : Pod) (h : AcceptedBundle bundle) where
  pub policies-accepted : All AcceptedPolicy (authorization_of bundle pod)
  policies-accepted = all-in_order _ AcceptedPolicy _ (All-filter _ AcceptedPolicy bundle.authorization h.authorization.each)

  pub requests-accepted : All AcceptedRequest (requests_of bundle pod)
  requests-accepted = all-in_order _ AcceptedRequest _ (All-filter _ AcceptedRequest bundle.requests h.requests.each)

  pub rules-accepted : All AcceptedJwtRule (jwt_rules_of bundle pod)
  rules-accepted =
      all-flat (λ request. request.rules) AcceptedJwtRule (requests_of bundle pod)
      (all-weaker AcceptedRequest (λ request. All AcceptedJwtRule request.rules) (λ request r. r.rules.each)
      (requests_of bundle pod) requests-accepted)

  few-policies : length (authorization_of bundle pod) ≤ 4096
  few-policies = few-applying _ _ bundle.authorization 4096 (let few : item_count bundle ≤ 4096 = h.few_items in omega arith)

  few-rules : length (jwt_rules_of bundle pod) ≤ 8388608
  few-rules =
      let a : length (requests_of bundle pod) ≤ 4096 =
      few-applying _ _ bundle.requests 4096 (let few : item_count bundle ≤ 4096 = h.few_items in omega arith) in
      let b : length (jwt_rules_of bundle pod) ≤ length (requests_of bundle pod) * 2048 =
      length-flat (λ request. request.rules) 2048 (requests_of bundle pod)
      (all-weaker AcceptedRequest (λ request. length request.rules ≤ 2048) (λ request r. r.rules.few)
      (requests_of bundle pod) requests-accepted) in
      omega arith

  policies-below : Below (4096 * 263882803251200) (sum_of (map policy_size (authorization_of bundle pod)))
  policies-below =
      sum-below policy_size 263882803251200 4096 (authorization_of bundle pod) few-policies
      (all-weaker AcceptedPolicy (λ p. Below 263882803251200 (policy_size p)) policy-below (authorization_of bundle pod) policies-accepted)

  rules-below : Below (8388608 * 20971521) (sum_of (map jwt_rule_size (jwt_rules_of bundle pod)))
  rules-below =
      sum-below jwt_rule_size 20971521 8388608 (jwt_rules_of bundle pod) few-rules
      (all-weaker AcceptedJwtRule (λ r. Below 20971521 (jwt_rule_size r)) jwt_rule-below (jwt_rules_of bundle pod) rules-accepted)

  -- counting from nothing stays in range
  pub counts-fit : Fits (record { values = 0; entries = 0; bytes = 0 }) (size_of (authorization_of bundle pod) (jwt_rules_of bundle pod))
  unfolding size_of
  counts-fit = record {
    values = omega (arith, policies-below.values, rules-below.values);
    entries = omega (arith, policies-below.entries, rules-below.entries);
    bytes = omega (arith, policies-below.bytes, rules-below.bytes);
  }
