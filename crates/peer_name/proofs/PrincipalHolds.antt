-- The trees of principals hold where the patterns do.
use Rattle.std.proofs.Common.{◌≡◌, ℕ, ◌==◌, Bool, true, false, not, ◌&&◌, List, [], ◌∷◌, ◌++◌, length, drop, codes, Result, Ok, Err, IfOk}
use Rattle.std.proofs.Common.{Option, Some, None, if◌then◌else◌, refl, sym, ◌∙◌, ap}
use Rattle.std.proofs.Math.Bool.{and-true}
use Rattle.std.proofs.Math.Dec.{eqb-suc-zero}
use Rattle.std.proofs.lemmas.List.Folds.{list_all-append}
use Rattle.std.specs.List.{flat_map, list_all, starts_with}
use Rattle.std.specs.Str.{bytes_eq}
use lib.Dec.{eqb}
use Rattle.mesh_text.specs.Parts.{is_suffix}
use Rattle.mesh_text.specs.declared.memory.Memory.{Memory}
use Rattle.mesh_policy.specs.Attributes.{Seen, seen_peer, source_principal, text_or_absent}
use Rattle.mesh_policy.specs.PeerNames.{PeerName, scheme}
use Rattle.mesh_policy.specs.Pattern.{pattern_holds}
use Rattle.mesh_policy.specs.RuleHolds.{text_matches}
use Rattle.mesh_policy.specs.Token.{behind}
use Rattle.mesh_policy.specs.declared.case.Case.{Case}
use Rattle.mesh_policy.specs.declared.pattern.Pattern.{Pattern}
use Rattle.mesh_policy.specs.declared.pattern.Pattern.TheVariants.{Exact, Prefix, Suffix, Present}
use Rattle.mesh_tree.specs.Judge.{tree_holds}
use Rattle.mesh_tree.specs.declared.tree.Tree.{Tree}
use Rattle.mesh_tree.proofs.JudgeLemmas.{holds-and, holds-leaf, holds-not}
use Rattle.envoy_types.specs.Principal.{leaf_holds, name_holds}
use Rattle.envoy_types.specs.State.{holds_of}
use Rattle.envoy_types.specs.Strings.{matcher_with}
use Rattle.envoy_types.specs.declared.principal.PrincipalLeaf.{PrincipalLeaf}
use Rattle.envoy_types.specs.declared.principal.PrincipalLeaf.TheVariants.{Authenticated}
use Rattle.envoy_types.specs.declared.strings.MatchKind.{MatchKind}
use Rattle.envoy_types.specs.declared.strings.MatchKind.TheVariants as kind
use Rattle.peer_name.specs.Holds.{HoldsAs}
use Rattle.peer_name.specs.Principal.{all_but_shorter, named, not_named, principal_tree, scheme_ends, suffix_tree}
use Rattle.peer_name.proofs.SeenPeer.{IsNamed, seen-is-named}
use Rattle.peer_name.proofs.SuffixLemmas.{behind-end, suffix-behind-scheme}

-- ---- a test of the name beside one of the principal

-- what stands behind the scheme
abbrev principal : PeerName → List ℕ
principal peer = peer.trust ++ codes "/ns/" ++ peer.namespace ++ codes "/sa/" ++ peer.account

longer : (s t : List ℕ) → (length t == 0) ≡ false → (length (s ++ t) == 0) ≡ false
longer [] t h = h
longer (c ∷ s) t h = eqb-suc-zero (length (s ++ t))

is-longer : (s t : List ℕ) → (length s == 0) ≡ false → (length (s ++ t) == 0) ≡ false
is-longer [] t h = absurd cc
is-longer (c ∷ s) t h = eqb-suc-zero (length (s ++ t))

-- no principal is empty
is-some : (peer : PeerName) → (length (principal peer) == 0) ≡ false
is-some peer =
    is-longer (((peer.trust ++ codes "/ns/") ++ peer.namespace) ++ codes "/sa/") peer.account
    (longer ((peer.trust ++ codes "/ns/") ++ peer.namespace) (codes "/sa/") refl)

by-name : (test holds : List ℕ → Bool) → ((x : List ℕ) → (length x == 0) ≡ false → test (scheme ++ x) ≡ holds x)
    → (name : Option (List ℕ)) → IsNamed name → holds_of test name ≡ text_matches holds (text_or_absent (behind scheme name))
by-name test holds each None h = refl
by-name test holds each (Some name) (peer, is) =
    let spelled : name ≡ scheme ++ principal peer = is.spelled in
    ap test spelled ∙ each (principal peer) (is-some peer)
    ∙ sym (ap (λ (n : List ℕ). text_matches holds (text_or_absent (behind scheme (Some n)))) spelled)

-- ---- the tree of a suffix

-- the matcher of a suffix, but not those of shorter principals
suffix-of-name : List ℕ → List ℕ → Bool
suffix-of-name v name = is_suffix v name
    && list_all (λ end. if starts_with eqb v end then not (bytes_eq (scheme ++ drop (length end) v) name) else true) scheme_ends

not-behind : (v x end : List ℕ) → (if starts_with eqb v end then not (bytes_eq (scheme ++ drop (length end) v) (scheme ++ x)) else true)
    ≡ not (bytes_eq v (end ++ x))
not-behind v x end = behind-end v x end

list_all-same : {A : Type 0} (p q : A → Bool) → ((x : A) → p x ≡ q x) → (xs : List A) → list_all p xs ≡ list_all q xs
list_all-same p q each [] = refl
list_all-same p q each (x ∷ xs) =
    ap (λ (b : Bool). b && list_all p xs) (each x) ∙ ap (λ (b : Bool). q x && b) (list_all-same p q each xs)

of-principal : (v x : List ℕ) → suffix-of-name v (scheme ++ x) ≡ is_suffix v x
unfolding suffix-of-name
of-principal v x =
    ap (λ (b : Bool). is_suffix v (scheme ++ x) && b)
    (list_all-same (λ end. if starts_with eqb v end then not (bytes_eq (scheme ++ drop (length end) v) (scheme ++ x)) else true)
    (λ end. not (bytes_eq v (end ++ x))) (not-behind v x) scheme_ends)
    ∙ suffix-behind-scheme v x

module _ (case : Case) (seen : Seen) where
  abbrev judged : PrincipalLeaf → Bool
  judged leaf = leaf_holds leaf case seen

  abbrev peer : Option (List ℕ)
  peer = seen_peer case seen

  named-holds : (k : MatchKind) (v : List ℕ) → tree_holds judged (named k v)
      ≡ holds_of (name_holds (Some (matcher_with k v false))) peer
  named-holds k v = holds-leaf judged (Authenticated (Some (matcher_with k v false)))

  -- the part of one end
  abbrev kept : (v end : List ℕ) → Bool
  kept v end = if starts_with eqb v end then not (holds_of (bytes_eq (scheme ++ drop (length end) v)) peer) else true

  one-end : (v end : List ℕ) → list_all (tree_holds judged) (all_but_shorter v end) ≡ kept v end
  one-end v end = at (starts_with eqb v end) where
    at : (b : Bool) → list_all (tree_holds judged) (if b then not_named (scheme ++ drop (length end) v) ∷ [] else [])
        ≡ (if b then not (holds_of (bytes_eq (scheme ++ drop (length end) v)) peer) else true)
    at true =
        and-true (tree_holds judged (not_named (scheme ++ drop (length end) v)))
        ∙ holds-not judged (named kind.Exact (scheme ++ drop (length end) v))
        ∙ ap not (named-holds kind.Exact (scheme ++ drop (length end) v))
    at false = refl

  all-ends : (v : List ℕ) (ends : List (List ℕ))
      → list_all (tree_holds judged) (flat_map (all_but_shorter v) ends) ≡ list_all (kept v) ends
  all-ends v [] = refl
  all-ends v (end ∷ ends) =
      list_all-append (tree_holds judged) (all_but_shorter v end) (flat_map (all_but_shorter v) ends)
      ∙ ap (λ (b : Bool). b && list_all (tree_holds judged) (flat_map (all_but_shorter v) ends)) (one-end v end)
      ∙ ap (λ (b : Bool). kept v end && b) (all-ends v ends)

  suffix-parts : (v : List ℕ) → tree_holds judged (suffix_tree v) ≡ (holds_of (is_suffix v) peer && list_all (kept v) scheme_ends)
  unfolding suffix_tree
  suffix-parts v =
      holds-and judged (named kind.Suffix v) (flat_map (all_but_shorter v) scheme_ends)
      ∙ ap (λ (b : Bool). b && list_all (tree_holds judged) (flat_map (all_but_shorter v) scheme_ends)) (named-holds kind.Suffix v)
      ∙ ap (λ (b : Bool). holds_of (is_suffix v) peer && b) (all-ends v scheme_ends)

-- as a test of the name, where there is one
suffix-at : (v : List ℕ) (name : Option (List ℕ))
    → (holds_of (is_suffix v) name
    && list_all (λ end. if starts_with eqb v end then not (holds_of (bytes_eq (scheme ++ drop (length end) v)) name) else true) scheme_ends)
    ≡ holds_of (suffix-of-name v) name
unfolding suffix-of-name
suffix-at v None = refl
suffix-at v (Some name) = refl

-- ---- each form

pub principal-holds : (p : Pattern) → HoldsAs (principal_tree p) p source_principal
unfolding principal_tree
principal-holds (Exact v) case seen h =
    named-holds case seen kind.Exact (scheme ++ v)
    ∙ by-name (bytes_eq (scheme ++ v)) (bytes_eq v) (λ x some. refl) (seen_peer case seen) (seen-is-named case seen h)
principal-holds (Prefix v) case seen h =
    named-holds case seen kind.Prefix (scheme ++ v)
    ∙ by-name (λ name. name_holds (Some (matcher_with kind.Prefix (scheme ++ v) false)) name) (pattern_holds (Prefix v)) (λ x some. refl)
    (seen_peer case seen) (seen-is-named case seen h)
principal-holds (Suffix v) case seen h =
    suffix-parts case seen v ∙ suffix-at v (seen_peer case seen)
    ∙ by-name (suffix-of-name v) (is_suffix v) (λ x some. of-principal v x) (seen_peer case seen) (seen-is-named case seen h)
principal-holds Present case seen h =
    holds-leaf (judged case seen) (Authenticated None)
    ∙ by-name (name_holds None) (pattern_holds Present) (λ x some. sym (ap not some)) (seen_peer case seen) (seen-is-named case seen h)

-- where there was memory
pub holds : (r : Result (Tree PrincipalLeaf) Memory) (p : Pattern) → IfOk r (λ tree. tree ≡ principal_tree p)
    → IfOk r (λ tree. HoldsAs tree p source_principal)
holds (Ok tree) p shape = λ case seen h. ap (tree_holds (λ leaf. leaf_holds leaf case seen)) shape ∙ principal-holds p case seen h
holds (Err e) p shape = tt
