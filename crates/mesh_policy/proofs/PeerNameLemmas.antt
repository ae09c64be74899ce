-- The parts of a peer's name are read from it, and no others.
use Rattle.std.proofs.Common.{◌≡◌, ℕ, ◌==◌, Bool, true, false, cond, ◌&&◌, ◌||◌, List, [], ◌∷◌, ◌++◌, length, drop, codes}
use Rattle.std.proofs.Common.{Some, None, if◌then◌else◌, refl, sym, ◌∙◌, ap, append_assoc}
use Rattle.std.proofs.lemmas.Bool.{and_from, or_right}
use Rattle.std.proofs.lemmas.Bool.Decides.{Decides-eqb}
use Rattle.std.proofs.lemmas.Slice.Eq.{bytes_eq-Decides, starts_is}
use Rattle.std.specs.List.{join_with_byte, list_all, onto_first, slice_split, starts_with}
use Rattle.std.specs.Str.{bytes_eq}
use lib.Dec.{eqb}
use Rattle.mesh_text.specs.Bytes.{dot}
use Rattle.mesh_text.specs.Dns.{is_label, is_name_byte, is_piece, is_subdomain}
use Rattle.mesh_policy.specs.PeerNames.{IsNameOf, PeerName, PeerNamesAreRead, is_peer, is_trust_byte, is_trust_domain, name_of, peer_in, peer_of, scheme}
use Rattle.mesh_policy.specs.Template.{has_slash, segments_of}
use Rattle.mesh_policy.proofs.Listed.{left_of, right_of, list_all-weaker}
use Rattle.mesh_policy.proofs.SlashLemmas.{join_split, split_join}

-- ---- no part has a slash

or_left : (a b : Bool) → a ≡ true → (a || b) ≡ true
or_left a b e = ap (λ (x : Bool). x || b) e

no-slash : (test : ℕ → Bool) → test 47 ≡ false → (s : List ℕ) → list_all test s ≡ true → has_slash s ≡ false
no-slash test h [] all = refl
no-slash test h (c ∷ cs) all = at (eqb c 47) refl (no-slash test h cs (right_of (test c) _ all)) where
  at : (b : Bool) → eqb c 47 ≡ b → has_slash cs ≡ false → (b || has_slash cs) ≡ false
  at true e inner = sym (left_of _ _ all) ∙ ap test ((Decides-eqb c 47).0 e) ∙ h
  at false e inner = inner

trust-plain : (s : List ℕ) → is_trust_domain s ≡ true → has_slash s ≡ false
trust-plain s h = no-slash is_trust_byte refl s (right_of _ _ (left_of _ _ h))

piece-bytes : (s : List ℕ) → is_piece s ≡ true → list_all is_name_byte s ≡ true
piece-bytes s h = right_of _ _ (left_of _ _ (left_of _ _ h))

label-plain : (s : List ℕ) → is_label s ≡ true → has_slash s ≡ false
label-plain s h = no-slash is_name_byte refl s (piece-bytes s (left_of _ _ h))

-- what stands between dots is of name bytes
dotted : (s : List ℕ) → list_all (list_all is_name_byte) (slice_split (λ c. c == dot) s) ≡ true
    → list_all (λ c. is_name_byte c || (c == dot)) s ≡ true
dotted [] h = refl
dotted (c ∷ cs) h = at (c == dot) (slice_split (λ d. d == dot) cs) h (dotted cs) where
  at : (b : Bool) (parts : List (List ℕ)) → list_all (list_all is_name_byte) (cond b ([] ∷ parts) (onto_first c parts)) ≡ true
      → (list_all (list_all is_name_byte) parts ≡ true → list_all (λ d. is_name_byte d || (d == dot)) cs ≡ true)
      → ((is_name_byte c || b) && list_all (λ d. is_name_byte d || (d == dot)) cs) ≡ true
  at true parts k rest = and_from _ _ (or_right (is_name_byte c) true refl) (rest k)
  at false [] k rest = and_from _ _ (or_left (is_name_byte c) false (left_of _ _ (left_of _ _ k))) (rest refl)
  at false (part ∷ parts) k rest =
      and_from _ _ (or_left (is_name_byte c) false (left_of _ _ (left_of _ _ k)))
      (rest (and_from _ _ (right_of (is_name_byte c) _ (left_of _ _ k)) (right_of _ _ k)))

subdomain-plain : (s : List ℕ) → is_subdomain s ≡ true → has_slash s ≡ false
subdomain-plain s h = no-slash (λ c. is_name_byte c || (c == dot)) refl s
    (dotted s (list_all-weaker is_piece (list_all is_name_byte) piece-bytes (slice_split (λ c. c == dot) s) (right_of _ _ h)))

-- ---- from the parts to the name and back

abbrev parts : PeerName → List (List ℕ)
parts peer = peer.trust ∷ codes "ns" ∷ peer.namespace ∷ codes "sa" ∷ peer.account ∷ []

joined : (peer : PeerName) → name_of peer ≡ scheme ++ join_with_byte 47 (parts peer)
joined peer = ap (λ (rest : List ℕ). scheme ++ rest)
    (append_assoc ((peer.trust ++ codes "/ns/") ++ peer.namespace) (codes "/sa/") peer.account
    ∙ append_assoc (peer.trust ++ codes "/ns/") peer.namespace (codes "/sa/" ++ peer.account)
    ∙ append_assoc peer.trust (codes "/ns/") (peer.namespace ++ (codes "/sa/" ++ peer.account)))

reads : (peer : PeerName) → is_peer peer ≡ true → peer_of (name_of peer) ≡ Some peer
unfolding peer_of
reads peer h =
    let trust = trust-plain peer.trust (left_of _ _ (left_of _ _ h)) in
    let namespace = label-plain peer.namespace (right_of _ _ (left_of _ _ h)) in
    let account = subdomain-plain peer.account (right_of _ _ h) in
    ap peer_of (joined peer)
    ∙ ap peer_in (split_join peer.trust (codes "ns" ∷ peer.namespace ∷ codes "sa" ∷ peer.account ∷ []) (
      trust,
      (
        refl,
        (
          namespace,
          (
            refl,
            (account, tt),
          ),
        ),
      ),
    ))
    ∙ ap (λ (b : Bool). if b then Some peer else None) h

abbrev Holds : List (List ℕ) → PeerName → Type 0
Holds segments peer = (segments ≡ parts peer) × (is_peer peer ≡ true)

abbrev made : List ℕ → List ℕ → List ℕ → PeerName
made trust namespace account = record { trust = trust; namespace = namespace; account = account }

-- five segments of that form
five-at : (trust ns namespace sa account : List ℕ) (peer : PeerName) (b : Bool)
    → (bytes_eq ns (codes "ns") && bytes_eq sa (codes "sa") && is_peer (made trust namespace account)) ≡ b
    → cond b (Some (made trust namespace account)) None ≡ Some peer → Holds (trust ∷ ns ∷ namespace ∷ sa ∷ account ∷ []) peer
five-at trust ns namespace sa account peer true e k =
    let same : made trust namespace account ≡ peer = cc in
    let first : ns ≡ codes "ns" = (bytes_eq-Decides ns (codes "ns")).0 (left_of _ _ (left_of _ _ e)) in
    let second : sa ≡ codes "sa" = (bytes_eq-Decides sa (codes "sa")).0 (right_of _ _ (left_of _ _ e)) in
    ((λ i. (same i).trust ∷ first i ∷ (same i).namespace ∷ second i ∷ (same i).account ∷ []), ap is_peer (sym same) ∙ right_of _ _ e)
five-at trust ns namespace sa account peer false e k = cc

five : (trust ns namespace sa account : List ℕ) (peer : PeerName) → peer_in (trust ∷ ns ∷ namespace ∷ sa ∷ account ∷ []) ≡ Some peer
    → Holds (trust ∷ ns ∷ namespace ∷ sa ∷ account ∷ []) peer
five trust ns namespace sa account peer h =
    five-at trust ns namespace sa account peer (bytes_eq ns (codes "ns") && bytes_eq sa (codes "sa") && is_peer (made trust namespace account)) refl h

segments-are : (segments : List (List ℕ)) (peer : PeerName) → peer_in segments ≡ Some peer → Holds segments peer
segments-are [] peer h = cc
segments-are (a ∷ []) peer h = cc
segments-are (a ∷ (b ∷ [])) peer h = cc
segments-are (a ∷ (b ∷ (c ∷ []))) peer h = cc
segments-are (a ∷ (b ∷ (c ∷ (d ∷ [])))) peer h = cc
segments-are (a ∷ (b ∷ (c ∷ (d ∷ (e ∷ []))))) peer h = five a b c d e peer h
segments-are (a ∷ (b ∷ (c ∷ (d ∷ (e ∷ (f ∷ more)))))) peer h = cc

found-in : (name : List ℕ) (peer : PeerName) → peer_of name ≡ Some peer → IsNameOf peer name
unfolding peer_of
found-in name peer h = at (starts_with eqb name scheme) refl h where
  at : (b : Bool) → starts_with eqb name scheme ≡ b → (if b then peer_in (segments_of (drop (length scheme) name)) else None)
      ≡ Some peer → IsNameOf peer name
  at true e k =
      let rest = drop (length scheme) name in
      let holds : Holds (segments_of rest) peer = segments-are (segments_of rest) peer k in
      let begins : name ≡ scheme ++ rest = (starts_is Decides-eqb name scheme true (sym e)).0 refl in
      record {
        spelled = begins ∙ ap (λ (r : List ℕ). scheme ++ r) (sym (join_split rest) ∙ ap (join_with_byte 47) holds.0) ∙ sym (joined peer);
        sound = holds.1;
      }
  at false e k = cc

pub names-are-read : PeerNamesAreRead
names-are-read name peer = (found-in name peer, λ (h : IsNameOf peer name). ap peer_of h.spelled ∙ reads peer h.sound)
