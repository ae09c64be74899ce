-- The authorizer that CUSTOM policies name: where each name that they write is found and all are the same, each writes
-- the name of the one that is there.
use Rattle.std.proofs.Common.{◌≡◌, ℕ, Bool, true, false, cond, not, ◌||◌, All, List, [], ◌∷◌, Option, Some, None, filter, filter_map, find, get_or, is_some, refl, sym, ◌∙◌, ap, subst}
use Rattle.std.proofs.Math.Bool.{or-false}
use Rattle.std.proofs.lemmas.List.Elements.{All-cons, All-head, All-nil, All-tail, All-weaker}
use Rattle.std.proofs.lemmas.List.Folds.{list_any_at}
use Rattle.std.proofs.lemmas.Slice.Eq.{bytes_eq-Decides}
use Rattle.std.specs.List.{cons_option, list_any}
use Rattle.std.specs.Option.{ForNone, ForSome, option_and_then, option_map, option_or}
use Rattle.std.specs.Str.{bytes_eq}
use Rattle.mesh_policy.specs.Lists.{distinct_texts, first_answer, least, text_before}
use Rattle.mesh_policy.specs.SelectFault.{two_of, unknown_provider}
use Rattle.mesh_policy.specs.declared.provider.Provider.{Provider}
use Rattle.mesh_select.proofs.Judged.{none-first}
use Rattle.mesh_select.proofs.Lookups.{distinct-found}

-- ---- what a list that nothing is found in tells

none-mapped : {A B : Type 0} (f : A → B) (o : Option A) → option_map f o ≡ None → o ≡ None
none-mapped f None h = refl
none-mapped f (Some a) h = cc

no-least : {A : Type 0} (before : A → A → Bool) (xs : List A) → least before xs ≡ None → xs ≡ []
no-least before [] h = refl
no-least before (x ∷ xs) h = cc

none-pass : {A : Type 0} (test : A → Bool) (xs : List A) → filter test xs ≡ [] → All (λ x. test x ≡ false) xs
none-pass test [] h = All-nil (λ x. test x ≡ false)
none-pass {A} test (x ∷ xs) h = at (test x) refl (none-pass test xs) h where
  at : (b : Bool) → test x ≡ b → (filter test xs ≡ [] → All (λ y. test y ≡ false) xs)
      → cond b (x ∷ filter test xs) (filter test xs) ≡ [] → All (λ y. test y ≡ false) (x ∷ xs)
  at true e later h = cc
  at false e later h = All-cons (λ y. test y ≡ false) x xs e (later h)

not-not : (b : Bool) → not b ≡ false → b ≡ true
not-not true h = refl
not-not false h = cc

find-passes : {A : Type 0} (test : A → Bool) (xs : List A) (x : A) → find test xs ≡ Some x → test x ≡ true
find-passes test [] x h = cc
find-passes {A} test (y ∷ ys) x h = at (test y) refl (find-passes test ys x) h where
  at : (b : Bool) → test y ≡ b → (find test ys ≡ Some x → test x ≡ true) → cond b (Some y) (find test ys) ≡ Some x → test x ≡ true
  at true e later h = let same : y ≡ x = cc in subst (λ (z : A). test z ≡ true) same e
  at false e later h = later h

-- ---- texts of which one at most is different

texts-same : (s t : List ℕ) → (bytes_eq s t || false) ≡ true → s ≡ t
texts-same s t h = (bytes_eq-Decides s t).0 (sym (or-false (bytes_eq s t)) ∙ h)

one-text : (ts : List (List ℕ)) → two_of ts ≡ None → (s t : List ℕ)
    → list_any (bytes_eq s) ts ≡ true → list_any (bytes_eq t) ts ≡ true → s ≡ t
one-text [] none s t h g = cc
one-text (x ∷ []) none s t h g = texts-same s x h ∙ sym (texts-same t x g)
one-text (x ∷ (y ∷ ts)) none s t h g = cc

each-found : (ts : List (List ℕ)) → All (λ t. list_any (bytes_eq t) ts ≡ true) ts
each-found ts = λ k d within.
    list_any_at (bytes_eq (get_or ts k d)) ts k d within ((bytes_eq-Decides (get_or ts k d) (get_or ts k d)).1 refl)

all-same : (ts : List (List ℕ)) → two_of (distinct_texts ts) ≡ None → (t : List ℕ) → list_any (bytes_eq t) ts ≡ true → All (λ s. s ≡ t) ts
all-same ts none t found =
    All-weaker (λ s. list_any (bytes_eq s) ts ≡ true) (λ s. s ≡ t)
    (λ s h. one-text (distinct_texts ts) none s t (distinct-found s ts ∙ h) (distinct-found t ts ∙ found)) ts (each-found ts)

-- ---- the answers of entries

module _ {A B : Type 0} (f : A → Option B) where
  all-answers : (P : B → Type 0) (xs : List A) → All P (filter_map f xs) → All (λ x. ForSome (f x) P) xs
  all-answers P [] h = All-nil (λ x. ForSome (f x) P)
  all-answers P (x ∷ xs) h = at (f x) refl h (all-answers P xs) where
    at : (o : Option B) → f x ≡ o → All P (cons_option o (filter_map f xs))
        → (All P (filter_map f xs) → All (λ y. ForSome (f y) P) xs) → All (λ y. ForSome (f y) P) (x ∷ xs)
    at None e h later = All-cons (λ y. ForSome (f y) P) x xs (λ b is. cc) (later h)
    at (Some a) e h later =
        All-cons (λ y. ForSome (f y) P) x xs
        (λ b is. let same : a ≡ b = cc in subst P same (All-head P a (filter_map f xs) h))
        (later (All-tail P a (filter_map f xs) h))

  of-first : (P : B → Type 0) (xs : List A) → All P (filter_map f xs) → (b : B) → first_answer f xs ≡ Some b → P b
  of-first P [] h b is = cc
  of-first P (x ∷ xs) h b is = at (f x) h (of-first P xs) is where
    at : (o : Option B) → All P (cons_option o (filter_map f xs)) → (All P (filter_map f xs) → (c : B) → first_answer f xs ≡ Some c → P c)
        → option_or o (first_answer f xs) ≡ Some b → P b
    at None h later is = later h b is
    at (Some a) h later is = let same : a ≡ b = cc in subst P same (All-head P a (filter_map f xs) h)

  no-first : (xs : List A) → All (λ x. is_some (f x) ≡ true) xs → first_answer f xs ≡ None → xs ≡ []
  no-first [] h none = refl
  no-first (x ∷ xs) h none =
      let no : false ≡ true =
      subst (λ (o : Option B). is_some o ≡ true) (none-first (f x) (first_answer f xs) none)
      (All-head (λ y. is_some (f y) ≡ true) x xs h) in cc

-- ---- names and authorizers

names-it : (o : Option (List ℕ)) (name wanted : List ℕ) → is_some o ≡ true → ForSome o (λ t. t ≡ wanted) → name ≡ wanted → o ≡ Some name
names-it None name wanted there same is = cc
names-it (Some t) name wanted there same is = ap Some (same t refl ∙ sym is)

-- each entry writes a name, an authorizer has each of them, and no two differ
pub record NamesOne {A : Type 0} (name : A → Option (List ℕ)) (xs : List A) (named : List ℕ → Option Provider) : Type 0 where
  pub written : All (λ x. is_some (name x) ≡ true) xs
  pub known : option_map unknown_provider (least text_before (filter (λ t. not (is_some (named t))) (filter_map name xs))) ≡ None
  pub one : two_of (distinct_texts (filter_map name xs)) ≡ None

module _ {A : Type 0} (name : A → Option (List ℕ)) (xs : List A) (named : List ℕ → Option Provider) (h : NamesOne name xs named) where
  all-known : All (λ t. is_some (named t) ≡ true) (filter_map name xs)
  all-known =
      All-weaker (λ t. not (is_some (named t)) ≡ false) (λ t. is_some (named t) ≡ true) (λ t. not-not (is_some (named t)))
      (filter_map name xs)
      (none-pass (λ t. not (is_some (named t))) (filter_map name xs)
      (no-least text_before (filter (λ t. not (is_some (named t))) (filter_map name xs)) (none-mapped unknown_provider _ h.known)))

  pub without : ForNone (option_and_then named (first_answer name xs)) (xs ≡ [])
  without none = at (first_answer name xs) refl none where
    at : (o : Option (List ℕ)) → first_answer name xs ≡ o → option_and_then named o ≡ None → xs ≡ []
    at None e none = no-first name xs h.written e
    at (Some t) e none =
        let no : false ≡ true =
        subst (λ (o : Option Provider). is_some o ≡ true) none (of-first name (λ t. is_some (named t) ≡ true) xs all-known t e) in cc

  pub with-name : ((t : List ℕ) (provider : Provider) → named t ≡ Some provider → provider.name ≡ t)
      → ForSome (option_and_then named (first_answer name xs)) (λ provider. All (λ x. name x ≡ Some provider.name) xs)
  with-name found provider is = at (first_answer name xs) refl is where
    at : (o : Option (List ℕ)) → first_answer name xs ≡ o → option_and_then named o ≡ Some provider
        → All (λ x. name x ≡ Some provider.name) xs
    at None e is = cc
    at (Some t) e is =
        let there = of-first name (λ s. list_any (bytes_eq s) (filter_map name xs) ≡ true) xs (each-found (filter_map name xs)) t e in
        let same = all-answers name (λ s. s ≡ t) xs (all-same (filter_map name xs) h.one t there) in
        λ k d within. names-it (name (get_or xs k d)) provider.name t (h.written k d within) (same k d within) (found t provider is)

-- the authorizer of a name has that name
pub found-name : (providers : List Provider) (t : List ℕ) (provider : Provider)
    → find (λ (p : Provider). bytes_eq p.name t) providers ≡ Some provider → provider.name ≡ t
found-name providers t provider h =
    (bytes_eq-Decides provider.name t).0 (find-passes (λ (p : Provider). bytes_eq p.name t) providers provider h)
