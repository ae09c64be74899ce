-- A name read from its front, part by part.
use Rattle.std.proofs.Common.{◌≡◌, ◌≢◌, ℕ, ◌+◌, ◌-◌, Bool, true, false, ◌&&◌, List, [], ◌∷◌, ◌++◌, length, take, drop, codes, Bor}
use Rattle.std.proofs.Common.{Some, None, if◌then◌else◌, refl, sym, ◌∙◌, ap, arith, append_assoc, length-append, append-nil}
use Rattle.std.proofs.Math.Seq.{drop-append_seam, take-append_seam}
use Rattle.std.proofs.lemmas.Bool.{cond-false, false_from_ne_true}
use Rattle.std.proofs.lemmas.Bool.Decides.{Decides-eqb}
use Rattle.std.proofs.lemmas.Slice.Eq.{bytes_eq-Decides, starts_is}
use Rattle.std.proofs.lemmas.Str.Pattern.{IsSplitOnceResult}
use Rattle.std.specs.List.{join_with_byte, starts_with}
use Rattle.std.specs.Str.{bytes_eq}
use Rattle.std.specs.Str.Pattern.{FindsTextPrefix}
use lib.Dec.{eqb}
use Rattle.mesh_policy.specs.PeerNames.{IsNameOf, PeerName, is_peer, name_of, peer_in, peer_of, scheme}
use Rattle.mesh_policy.specs.Template.{segments_of}
use Rattle.mesh_policy.proofs.PeerNameLemmas.{names-are-read}
use Rattle.mesh_policy.proofs.SlashLemmas.{join_split, no_more, one_more, parts_are, split_plain, split_seam}

abbrev Begins : List ℕ → List ℕ → Type 0
Begins front s = (rest : List ℕ) × (s ≡ front ++ rest)

-- ---- names that are not well-formed

pub no-scheme : (s : List ℕ) → ((rest : List ℕ) → s ≢ scheme ++ rest) → None ≡ peer_of s
unfolding peer_of
no-scheme s lacks =
    let begins = starts_is Decides-eqb s scheme (starts_with eqb s scheme) refl in
    sym (cond-false (starts_with eqb s scheme) (peer_in (segments_of (drop (length scheme) s))) None
    (false_from_ne_true _ (λ e. lacks (drop (length scheme) s) (begins.0 e))))

behind-scheme : (s rest : List ℕ) → s ≡ scheme ++ rest → peer_of s ≡ peer_in (segments_of rest)
unfolding peer_of
behind-scheme s rest e = ap peer_of e

-- the segment in front is another
other-segment : (word s : List ℕ) (ps : List (List ℕ)) → segments_of s ≡ ps → ((rest : List ℕ) → s ≢ (word ++ codes "/") ++ rest)
    → (first next : List ℕ) (more : List (List ℕ)) → ps ≡ first ∷ (next ∷ more) → bytes_eq first word ≡ false
other-segment word s ps e lacks first next more is = false_from_ne_true _ (λ same.
    let word-first : first ≡ word = (bytes_eq-Decides first word).0 same in
    let whole : s ≡ first ++ (codes "/" ++ join_with_byte 47 (next ∷ more)) =
    sym (join_split s) ∙ ap (join_with_byte 47) (e ∙ is) in
    lacks (join_with_byte 47 (next ∷ more))
    (whole ∙ ap (λ (w : List ℕ). w ++ (codes "/" ++ join_with_byte 47 (next ∷ more))) word-first
    ∙ sym (append_assoc word (codes "/") (join_with_byte 47 (next ∷ more)))))

abbrev made : List ℕ → List ℕ → List ℕ → PeerName
made trust namespace account = record { trust = trust; namespace = namespace; account = account }

-- the words are what they are
five : (trust ns namespace sa account : List ℕ) → (bytes_eq ns (codes "ns") && bytes_eq sa (codes "sa")) ≡ false
    → peer_in (trust ∷ ns ∷ namespace ∷ sa ∷ account ∷ []) ≡ None
five trust ns namespace sa account e =
    ap (λ (c : Bool). if c && is_peer (made trust namespace account) then Some (made trust namespace account) else None) e

another-ns : (trust ns : List ℕ) (ps : List (List ℕ))
    → ((next : List ℕ) (more : List (List ℕ)) → ps ≡ next ∷ more → bytes_eq ns (codes "ns") ≡ false) → peer_in (trust ∷ ns ∷ ps) ≡ None
another-ns trust ns [] h = refl
another-ns trust ns (a ∷ []) h = refl
another-ns trust ns (a ∷ (b ∷ [])) h = refl
another-ns trust ns (a ∷ (b ∷ (c ∷ []))) h =
    five trust ns a b c (ap (λ (x : Bool). x && bytes_eq b (codes "sa")) (h a (b ∷ c ∷ []) refl))
another-ns trust ns (a ∷ (b ∷ (c ∷ (d ∷ more)))) h = refl

another-sa : (trust namespace sa : List ℕ) (ps : List (List ℕ))
    → ((next : List ℕ) (more : List (List ℕ)) → ps ≡ next ∷ more → bytes_eq sa (codes "sa") ≡ false)
    → peer_in (trust ∷ codes "ns" ∷ namespace ∷ sa ∷ ps) ≡ None
another-sa trust namespace sa [] h = refl
another-sa trust namespace sa (a ∷ []) h = five trust (codes "ns") namespace sa a (h a [] refl)
another-sa trust namespace sa (a ∷ (b ∷ more)) h = refl

no-ns : (trust s : List ℕ) → ((rest : List ℕ) → s ≢ codes "ns/" ++ rest) → peer_in (trust ∷ segments_of s) ≡ None
no-ns trust s lacks = at (segments_of s) refl where
  at : (ps : List (List ℕ)) → segments_of s ≡ ps → peer_in (trust ∷ ps) ≡ None
  at [] e = refl
  at (first ∷ ps) e = another-ns trust first ps (λ next more is.
      other-segment (codes "ns") s (first ∷ ps) e lacks first next more (ap (λ (qs : List (List ℕ)). first ∷ qs) is))

no-sa : (trust namespace s : List ℕ) → ((rest : List ℕ) → s ≢ codes "sa/" ++ rest)
    → peer_in (trust ∷ codes "ns" ∷ namespace ∷ segments_of s) ≡ None
no-sa trust namespace s lacks = at (segments_of s) refl where
  at : (ps : List (List ℕ)) → segments_of s ≡ ps → peer_in (trust ∷ codes "ns" ∷ namespace ∷ ps) ≡ None
  at [] e = refl
  at (first ∷ ps) e = another-sa trust namespace first ps (λ next more is.
      other-segment (codes "sa") s (first ∷ ps) e lacks first next more (ap (λ (qs : List (List ℕ)). first ∷ qs) is))

-- the account is the last segment
not-sound : (trust namespace account : List ℕ) → is_peer (made trust namespace account) ≡ false
    → peer_in (trust ∷ codes "ns" ∷ namespace ∷ codes "sa" ∷ segments_of account) ≡ None
not-sound trust namespace account h = at (segments_of account) (join_split account) where
  at : (ps : List (List ℕ)) → join_with_byte 47 ps ≡ account → peer_in (trust ∷ codes "ns" ∷ namespace ∷ codes "sa" ∷ ps) ≡ None
  at [] e = refl
  at (last ∷ []) e =
      ap (λ (l : List ℕ). peer_in (trust ∷ codes "ns" ∷ namespace ∷ codes "sa" ∷ l ∷ [])) e
      ∙ ap (λ (b : Bool). if b then Some (made trust namespace account) else None) h
  at (first ∷ (next ∷ more)) e = refl

-- ---- where the parts of one that is well-formed stand

abbrev spelled : List ℕ → List ℕ → List ℕ → List ℕ
spelled trust namespace account = scheme ++ (trust ++ (codes "/ns/" ++ (namespace ++ (codes "/sa/" ++ account))))

spelled-is : (trust namespace account : List ℕ) → spelled trust namespace account ≡ name_of (made trust namespace account)
spelled-is trust namespace account = sym (ap (λ (rest : List ℕ). scheme ++ rest)
    (append_assoc ((trust ++ codes "/ns/") ++ namespace) (codes "/sa/") account
    ∙ append_assoc (trust ++ codes "/ns/") namespace (codes "/sa/" ++ account)
    ∙ append_assoc trust (codes "/ns/") (namespace ++ (codes "/sa/" ++ account))))

part-is : (front part rest : List ℕ) (start end : ℕ) → start ≡ length front → end ≡ start + length part
    → take (end - start) (drop start (front ++ (part ++ rest))) ≡ part
part-is front part rest start end e f =
    let long : end - start ≡ length part = omega (arith, f) in
    ap (λ (n : ℕ). take n (drop start (front ++ (part ++ rest)))) long
    ∙ ap (λ (n : ℕ). take (length part) (drop n (front ++ (part ++ rest)))) e
    ∙ ap (take (length part)) (drop-append_seam front (part ++ rest))
    ∙ take-append_seam part rest

module _ (trust namespace account : List ℕ) (a b c d e f : ℕ) (at-trust : a ≡ 9) (to-trust : b ≡ a + length trust)
    (at-namespace : c ≡ b + 4) (to-namespace : d ≡ c + length namespace)
    (at-account : e ≡ d + 4) (to-account : f ≡ e + length account) where
  trust-at : take (b - a) (drop a (spelled trust namespace account)) ≡ trust
  trust-at = part-is scheme trust (codes "/ns/" ++ (namespace ++ (codes "/sa/" ++ account))) a b at-trust to-trust

  before-namespace : List ℕ
  before-namespace = scheme ++ (trust ++ codes "/ns/")

  namespace-at : take (d - c) (drop c (spelled trust namespace account)) ≡ namespace
  unfolding before-namespace
  namespace-at =
      let rest = namespace ++ (codes "/sa/" ++ account) in
      let long : length (trust ++ codes "/ns/") ≡ length trust + 4 = length-append trust (codes "/ns/") in
      ap (λ (t : List ℕ). take (d - c) (drop c (scheme ++ t))) (sym (append_assoc trust (codes "/ns/") rest))
      ∙ part-is before-namespace namespace (codes "/sa/" ++ account) c d
      (omega (arith, at-trust, to-trust, at-namespace, long)) to-namespace

  account-at : take (f - e) (drop e (spelled trust namespace account)) ≡ account
  account-at =
      let long : length ((trust ++ codes "/ns/") ++ (namespace ++ codes "/sa/"))
      ≡ length (trust ++ codes "/ns/") + length (namespace ++ codes "/sa/") =
      length-append (trust ++ codes "/ns/") (namespace ++ codes "/sa/") in
      let long-1 : length (trust ++ codes "/ns/") ≡ length trust + 4 = length-append trust (codes "/ns/") in
      let long-2 : length (namespace ++ codes "/sa/") ≡ length namespace + 4 = length-append namespace (codes "/sa/") in
      let same : trust ++ (codes "/ns/" ++ (namespace ++ (codes "/sa/" ++ account)))
      ≡ ((trust ++ codes "/ns/") ++ (namespace ++ codes "/sa/")) ++ (account ++ []) =
      ap (λ (t : List ℕ). trust ++ (codes "/ns/" ++ (namespace ++ (codes "/sa/" ++ t)))) (sym (append-nil account))
      ∙ ap (λ (t : List ℕ). trust ++ (codes "/ns/" ++ t)) (sym (append_assoc namespace (codes "/sa/") (account ++ [])))
      ∙ sym (append_assoc trust (codes "/ns/") ((namespace ++ codes "/sa/") ++ (account ++ [])))
      ∙ sym (append_assoc (trust ++ codes "/ns/") (namespace ++ codes "/sa/") (account ++ [])) in
      ap (λ (t : List ℕ). take (f - e) (drop e (scheme ++ t))) same
      ∙ part-is (scheme ++ ((trust ++ codes "/ns/") ++ (namespace ++ codes "/sa/"))) account [] e f
      (omega (arith, at-trust, to-trust, at-namespace, to-namespace, at-account, long, long-1, long-2)) to-account

same-parts : {a b c d e f : List ℕ} → a ≡ d → b ≡ e → c ≡ f → made a b c ≡ made d e f
same-parts p q r = λ i. made (p i) (q i) (r i)

-- ---- how far a name is read

-- what `strip_prefix` says of what it leaves
abbrev Leaves : (word s rest : List ℕ) → Type 0
Leaves word s rest = (n : ℕ) × FindsTextPrefix word s (Some n) × (rest ≡ drop n s) × (length rest + n ≡ length s)

stripped : (word s rest : List ℕ) → Leaves word s rest → s ≡ word ++ rest
stripped word s rest h = h.1.1 ∙ ap (λ (r : List ℕ). word ++ r) (sym h.2)

module _ (s rest : List ℕ) (read : Leaves scheme s rest) where
  pub one-segment : IsSplitOnceResult 47 rest None → None ≡ peer_of s
  one-segment h = sym (behind-scheme s rest (stripped scheme s rest read) ∙ ap peer_in (split_plain rest (no_more rest h)))

  module _ (trust rest-2 : Bor (List ℕ)) (cut : IsSplitOnceResult 47 rest (Some (trust, rest-2))) where
    behind-trust : peer_of s ≡ peer_in (trust.now ∷ segments_of rest-2.now)
    behind-trust = behind-scheme s rest (stripped scheme s rest read) ∙ ap peer_in (one_more rest (trust, rest-2) cut)

    pub no-ns-behind : ((more : List ℕ) → rest-2.now ≢ codes "ns/" ++ more) → None ≡ peer_of s
    no-ns-behind lacks = sym (behind-trust ∙ no-ns trust.now rest-2.now lacks)

    module _ (rest-3 : List ℕ) (read-ns : Leaves (codes "ns/") rest-2.now rest-3) where
      behind-ns : peer_of s ≡ peer_in (trust.now ∷ codes "ns" ∷ segments_of rest-3)
      behind-ns =
          behind-trust ∙ ap (λ (t : List ℕ). peer_in (trust.now ∷ segments_of t)) (stripped (codes "ns/") rest-2.now rest-3 read-ns)
          ∙ ap (λ (ps : List (List ℕ)). peer_in (trust.now ∷ ps)) (split_seam (codes "ns") rest-3 refl)

      pub three-segments : IsSplitOnceResult 47 rest-3 None → None ≡ peer_of s
      three-segments h = sym (behind-ns
          ∙ ap (λ (ps : List (List ℕ)). peer_in (trust.now ∷ codes "ns" ∷ ps)) (split_plain rest-3 (no_more rest-3 h)))

      module _ (namespace rest-4 : Bor (List ℕ)) (cut-2 : IsSplitOnceResult 47 rest-3 (Some (namespace, rest-4))) where
        behind-namespace : peer_of s ≡ peer_in (trust.now ∷ codes "ns" ∷ namespace.now ∷ segments_of rest-4.now)
        behind-namespace = behind-ns
            ∙ ap (λ (ps : List (List ℕ)). peer_in (trust.now ∷ codes "ns" ∷ ps)) (one_more rest-3 (namespace, rest-4) cut-2)

        pub no-sa-behind : ((more : List ℕ) → rest-4.now ≢ codes "sa/" ++ more) → None ≡ peer_of s
        no-sa-behind lacks = sym (behind-namespace ∙ no-sa trust.now namespace.now rest-4.now lacks)

        module _ (account : List ℕ) (read-sa : Leaves (codes "sa/") rest-4.now account) where
          pub not-sound-behind : is_peer (made trust.now namespace.now account) ≡ false → None ≡ peer_of s
          not-sound-behind h = sym (
              behind-namespace
              ∙ ap (λ (t : List ℕ). peer_in (trust.now ∷ codes "ns" ∷ namespace.now ∷ segments_of t))
              (stripped (codes "sa/") rest-4.now account read-sa)
              ∙ ap (λ (ps : List (List ℕ)). peer_in (trust.now ∷ codes "ns" ∷ namespace.now ∷ ps)) (split_seam (codes "sa") account refl)
              ∙ not-sound trust.now namespace.now account h)

          -- the whole, of what stood behind each part
          whole : s ≡ spelled trust.now namespace.now account
          whole =
              stripped scheme s rest read ∙ ap (λ (t : List ℕ). scheme ++ t) (parts_are rest (trust, rest-2) cut).2
              ∙ ap (λ (t : List ℕ). scheme ++ (trust.now ++ (codes "/" ++ t))) (stripped (codes "ns/") rest-2.now rest-3 read-ns)
              ∙ ap (λ (t : List ℕ). scheme ++ (trust.now ++ (codes "/ns/" ++ t))) (parts_are rest-3 (namespace, rest-4) cut-2).2
              ∙ ap (λ (t : List ℕ). scheme ++ (trust.now ++ (codes "/ns/" ++ (namespace.now ++ (codes "/" ++ t)))))
              (stripped (codes "sa/") rest-4.now account read-sa)

          -- and the parts of a name that is well-formed
          pub sound-name : is_peer (made trust.now namespace.now account) ≡ true → (a b c d e f : ℕ) → a ≡ 9
              → b ≡ a + length trust.now → c ≡ b + 4 → d ≡ c + length namespace.now → e ≡ d + 4 → f ≡ e + length account
              → Some (made (take (b - a) (drop a s)) (take (d - c) (drop c s)) (take (f - e) (drop e s))) ≡ peer_of s
          sound-name sound a b c d e f p1 p2 p3 p4 p5 p6 =
              let named : IsNameOf (made trust.now namespace.now account) s =
              record { spelled = whole ∙ spelled-is trust.now namespace.now account; sound = sound } in
              ap Some (ap (λ (t : List ℕ). made (take (b - a) (drop a t)) (take (d - c) (drop c t)) (take (f - e) (drop e t))) whole
              ∙ same-parts
              (trust-at trust.now namespace.now account a b c d e f p1 p2 p3 p4 p5 p6)
              (namespace-at trust.now namespace.now account a b c d e f p1 p2 p3 p4 p5 p6)
              (account-at trust.now namespace.now account a b c d e f p1 p2 p3 p4 p5 p6))
              ∙ sym ((names-are-read s (made trust.now namespace.now account)).1 named)
