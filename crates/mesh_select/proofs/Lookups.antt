-- What is found in sets and maps of labels, texts and numbers.
use Rattle.std.proofs.Common.{◌≡◌, ℕ, zero, suc, ◌<◌, ◌≤◌, length, get_or, drop, drop-cons, add-one, ◌+◌, ◌==◌, Bool, true, false, cond, not, ◌&&◌, ◌||◌, List, [], ◌∷◌, Some, filter, find, is_some, map, refl, sym, ◌∙◌, ap, ap₂, arith, eqb}
use Rattle.std.proofs.lemmas.Bool.Decides.{nat_tests}
use Rattle.std.proofs.lemmas.Cmp.{nat_cmp_total, nat_list_cmp_total}
use Rattle.std.proofs.lemmas.Map.Keys.{below_from_sorted}
use Rattle.std.proofs.lemmas.Map.Text.{is_eq-slice_cmp}
use Rattle.std.specs.BTreeMap.{is_at}
use Rattle.std.specs.BTreeSet.{insert_key}
use Rattle.std.specs.Cmp.Lexicographic.{slice_cmp}
use Rattle.std.specs.List.{fold, list_any}
use Rattle.std.specs.List.Sorted.{IsStrictlySortedBy}
use Rattle.std.specs.Ordering.{is_eq, match_ordering, nat_cmp, on}
use Rattle.std.specs.Str.{bytes_eq}
use Rattle.std.specs.declared.cmp.Ordering.{Ordering}
use Rattle.std.specs.declared.cmp.Ordering.TheVariants.{Less, Equal, Greater}
use Rattle.mesh_policy.specs.Applying.{is_same_label}
use Rattle.mesh_policy.specs.Lists.{distinct_texts, text_cmp}
use Rattle.mesh_policy.specs.Ports.{GivenPort, gives_http, gives_tcp, is_http}
use Rattle.mesh_policy.specs.declared.pod.Label.{Label}
use Rattle.mesh_policy.specs.declared.provider.Provider.{Provider}
use Rattle.mesh_policy.specs.declared.service.Protocol.{Protocol}
use Rattle.mesh_policy.specs.declared.service.Protocol.TheVariants.{Http, Tcp}
use Rattle.mesh_policy.proofs.Listed.{and-true}
use Rattle.mesh_select.specs.Labels.{inserted, label_cmp}
use Rattle.mesh_select.specs.Ports.{numbers_with, speaks}
use Rattle.mesh_select.proofs.Order.{any_inserted, pair_order-same, pair_order-total}
use denote.Ref.{Bor}

-- ---- lists

pub list_any-like : {A : Type 0} (p q : A → Bool) → ((x : A) → p x ≡ q x) → (xs : List A) → list_any p xs ≡ list_any q xs
list_any-like p q like [] = refl
list_any-like p q like (x ∷ xs) = ap₂ (λ (a b : Bool). a || b) (like x) (list_any-like p q like xs)

pub filter-like : {A : Type 0} (p q : A → Bool) → ((x : A) → p x ≡ q x) → (xs : List A) → filter p xs ≡ filter q xs
filter-like p q like [] = refl
filter-like {A} p q like (x ∷ xs) = ap₂ (λ (b : Bool) (r : List A). cond b (x ∷ r) r) (like x) (filter-like p q like xs)

pub list_any-map : {A B : Type 0} (p : B → Bool) (f : A → B) (xs : List A) → list_any p (map f xs) ≡ list_any (λ x. p (f x)) xs
list_any-map p f [] = refl
list_any-map p f (x ∷ xs) = ap (λ (r : Bool). p (f x) || r) (list_any-map p f xs)

drop_at : {A : Type 0} (xs : List A) (i : ℕ) (d : A) → i < length xs → drop i xs ≡ get_or xs i d ∷ drop (i + 1) xs
drop_at xs i d h = rw add-one (drop-cons xs i d h)

-- a set of things that an order compares by what f reads
pub map-insert_key : {A B : Type 0} (f : A → B) (R : B → B → Ordering) (k : A) (ks : List A)
    → map f (insert_key (on f R) ks k) ≡ insert_key R (map f ks) (f k)
map-insert_key f R k [] = refl
map-insert_key {A} {B} f R k (x ∷ xs) = at (R (f k) (f x)) (map-insert_key f R k xs) where
  at : (r : Ordering) → map f (insert_key (on f R) xs k) ≡ insert_key R (map f xs) (f k)
      → map f (match_ordering r (k ∷ x ∷ xs) (x ∷ xs) (x ∷ insert_key (on f R) xs k))
      ≡ match_ordering r (f k ∷ f x ∷ map f xs) (f x ∷ map f xs) (f x ∷ insert_key R (map f xs) (f k))
  at Less inner = refl
  at Equal inner = refl
  at Greater inner = ap (λ (r : List B). f x ∷ r) inner

-- one entry more in a set of what f reads
pub inserted_more : {A B : Type 0} (R : B → B → Ordering) (f : A → B) (xs : List A) (i : ℕ) (d : A) (ks new whole : List B) → i < length xs
    → new ≡ insert_key R ks (f (get_or xs i d))
    → fold (insert_key R) ks (map f (drop i xs)) ≡ whole
    → fold (insert_key R) new (map f (drop (i + 1) xs)) ≡ whole
inserted_more {A} {B} R f xs i d ks new whole low e h =
    ap (λ (ts : List B). fold (insert_key R) ts (map f (drop (i + 1) xs))) e
    ∙ sym (ap (λ (ts : List A). fold (insert_key R) ks (map f ts)) (drop_at xs i d low))
    ∙ h

-- one text more in a set of texts
pub text_inserted : (texts : List (Bor (List ℕ))) (i : ℕ) (d : Bor (List ℕ)) (ks new : List (Bor (List ℕ))) (whole : List (List ℕ)) → i < length texts
    → new ≡ insert_key (λ x y. slice_cmp nat_cmp x.now y.now) ks (get_or texts i d)
    → fold (insert_key text_cmp) (map (λ t. t.now) ks) (map (λ t. t.now) (drop i texts)) ≡ whole
    → fold (insert_key text_cmp) (map (λ t. t.now) new) (map (λ t. t.now) (drop (i + 1) texts)) ≡ whole
text_inserted texts i d ks new whole low e h =
    ap (λ (ts : List (Bor (List ℕ))). fold (insert_key text_cmp) (map (λ t. t.now) ts) (map (λ t. t.now) (drop (i + 1) texts))) e
    ∙ ap (λ (ts : List (List ℕ)). fold (insert_key text_cmp) ts (map (λ t. t.now) (drop (i + 1) texts)))
    (map-insert_key (λ (t : Bor (List ℕ)). t.now) text_cmp (get_or texts i d) ks)
    ∙ sym (ap (λ (ts : List (Bor (List ℕ))). fold (insert_key text_cmp) (map (λ t. t.now) ks) (map (λ t. t.now) ts)) (drop_at texts i d low))
    ∙ h

-- ---- labels

pub label-found : (wanted : Label) (labels : List Label)
    → list_any (is_at (label_cmp wanted)) (inserted labels) ≡ list_any (is_same_label wanted) labels
label-found wanted labels =
    any_inserted (pair_order-total (λ (label : Label). (label.key, label.value))) wanted [] labels
    ∙ list_any-like (is_at (label_cmp wanted)) (is_same_label wanted)
    (pair_order-same (λ (label : Label). (label.key, label.value)) wanted) labels

-- ---- texts

pub text-found : (text : List ℕ) (ks : List (Bor (List ℕ)))
    → list_any (λ k. is_eq (slice_cmp nat_cmp text k.now)) ks ≡ list_any (bytes_eq text) (map (λ k. k.now) ks)
text-found text ks =
    list_any-like (λ k. is_eq (slice_cmp nat_cmp text k.now)) (λ k. bytes_eq text k.now) (λ k. is_eq-slice_cmp text k.now) ks
    ∙ sym (list_any-map (bytes_eq text) (λ (k : Bor (List ℕ)). k.now) ks)

pub distinct-found : (text : List ℕ) (texts : List (List ℕ))
    → list_any (bytes_eq text) (distinct_texts texts) ≡ list_any (bytes_eq text) texts
distinct-found text texts =
    sym (list_any-like (is_at (text_cmp text)) (bytes_eq text) (is_eq-slice_cmp text) (distinct_texts texts))
    ∙ any_inserted nat_list_cmp_total text [] texts
    ∙ list_any-like (is_at (text_cmp text)) (bytes_eq text) (is_eq-slice_cmp text) texts

eqb-flips : (m n : ℕ) → eqb m n ≡ eqb n m
eqb-flips m n = grind (arith, nat_tests)

pub bytes_eq-flips : (s t : List ℕ) → bytes_eq s t ≡ bytes_eq t s
bytes_eq-flips [] [] = refl
bytes_eq-flips [] (d ∷ t) = refl
bytes_eq-flips (c ∷ s) [] = refl
bytes_eq-flips (c ∷ s) (d ∷ t) = ap₂ (λ (a b : Bool). a && b) (eqb-flips c d) (bytes_eq-flips s t)

-- an authorizer of that name is there
pub provider-found : (name : List ℕ) (ps : List Provider)
    → list_any (bytes_eq name) (map (λ p. p.name) ps) ≡ is_some (find (λ p. bytes_eq p.name name) ps)
provider-found name [] = refl
provider-found name (p ∷ ps) =
    ap (λ (b : Bool). b || list_any (bytes_eq name) (map (λ q. q.name) ps)) (bytes_eq-flips name p.name)
    ∙ at (bytes_eq p.name name) (provider-found name ps) where
      at : (b : Bool) → list_any (bytes_eq name) (map (λ q. q.name) ps) ≡ is_some (find (λ q. bytes_eq q.name name) ps)
          → (b || list_any (bytes_eq name) (map (λ q. q.name) ps)) ≡ is_some (cond b (Some p) (find (λ q. bytes_eq q.name name) ps))
      at true inner = refl
      at false inner = inner

-- ---- ports

number-at : (m n : ℕ) → is_eq (nat_cmp m n) ≡ (n == m)
number-at m n = grind (arith, nat_tests)

and-false : (b : Bool) → (b && false) ≡ false
and-false true = refl
and-false false = refl

with-protocol : (wanted : Protocol) (port : ℕ) (ps : List GivenPort)
    → list_any (is_at (nat_cmp port)) (map (λ e. e.number) (filter (λ e. speaks wanted e.protocol) ps))
    ≡ list_any (λ e. (e.number == port) && speaks wanted e.protocol) ps
with-protocol wanted port [] = refl
with-protocol wanted port (p ∷ ps) = at (speaks wanted p.protocol) (with-protocol wanted port ps) where
  at : (b : Bool)
      → list_any (is_at (nat_cmp port)) (map (λ e. e.number) (filter (λ e. speaks wanted e.protocol) ps))
      ≡ list_any (λ e. (e.number == port) && speaks wanted e.protocol) ps
      → list_any (is_at (nat_cmp port)) (map (λ e. e.number) (cond b (p ∷ filter (λ e. speaks wanted e.protocol) ps) (filter (λ e. speaks wanted e.protocol) ps)))
      ≡ (((p.number == port) && b) || list_any (λ e. (e.number == port) && speaks wanted e.protocol) ps)
  at true inner = ap₂ (λ (a c : Bool). a || c) (number-at port p.number ∙ sym (and-true (p.number == port))) inner
  at false inner = inner ∙ sym (ap (λ (a : Bool). a || list_any (λ e. (e.number == port) && speaks wanted e.protocol) ps) (and-false (p.number == port)))

speaks-http : (protocol : Protocol) → speaks Http protocol ≡ is_http protocol
speaks-http Http = refl
speaks-http Tcp = refl

speaks-tcp : (protocol : Protocol) → speaks Tcp protocol ≡ not (is_http protocol)
speaks-tcp Http = refl
speaks-tcp Tcp = refl

pub http-found : (port : ℕ) (ps : List GivenPort) → list_any (is_at (nat_cmp port)) (numbers_with Http ps) ≡ gives_http ps port
http-found port ps =
    any_inserted nat_cmp_total port [] (map (λ e. e.number) (filter (λ e. speaks Http e.protocol) ps))
    ∙ with-protocol Http port ps
    ∙ list_any-like (λ e. (e.number == port) && speaks Http e.protocol) (λ e. (e.number == port) && is_http e.protocol)
    (λ e. ap (λ (b : Bool). (e.number == port) && b) (speaks-http e.protocol)) ps

pub tcp-found : (port : ℕ) (ps : List GivenPort) → list_any (is_at (nat_cmp port)) (numbers_with Tcp ps) ≡ gives_tcp ps port
tcp-found port ps =
    any_inserted nat_cmp_total port [] (map (λ e. e.number) (filter (λ e. speaks Tcp e.protocol) ps))
    ∙ with-protocol Tcp port ps
    ∙ list_any-like (λ e. (e.number == port) && speaks Tcp e.protocol) (λ e. (e.number == port) && not (is_http e.protocol))
    (λ e. ap (λ (b : Bool). (e.number == port) && b) (speaks-tcp e.protocol)) ps

-- ---- how many

rises : (ks : List ℕ) → IsStrictlySortedBy nat_cmp ks → (i : ℕ) → i < length ks → i ≤ get_or ks i 0
rises ks h zero low = omega arith
rises ks h (suc i) low =
    let inner : i ≤ get_or ks i 0 = rises ks h i (omega arith) in
    let above : get_or ks i 0 < get_or ks (suc i) 0 = below_from_sorted ks i (suc i) 0 h (omega arith) low in
    omega arith

-- numbers of 16 bits that rise are at most that many
pub few : (ks : List ℕ) → IsStrictlySortedBy nat_cmp ks → ((i : ℕ) → i < length ks → get_or ks i 0 < 65536) → length ks ≤ 65536
few ks h below = at (length ks) refl where
  at : (n : ℕ) → n ≡ length ks → n ≤ 65536
  at zero e = omega arith
  at (suc n) e =
      let here : n < length ks = omega (arith, e) in
      let least : n ≤ get_or ks n 0 = rises ks h n here in
      let bound : get_or ks n 0 < 65536 = below n here in
      omega arith
