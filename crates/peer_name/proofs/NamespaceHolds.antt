-- The trees of namespaces hold where the patterns do.
use Rattle.std.proofs.Common.{◌≡◌, ℕ, ◌==◌, Bool, true, false, not, ◌&&◌, List, [], ◌∷◌, ◌++◌, length, drop, codes}
use Rattle.std.proofs.Common.{Option, Some, None, Result, Ok, Err, IfOk, if◌then◌else◌, cond, refl, sym, ◌∙◌, ap, subst, append_assoc}
use Rattle.std.proofs.Math.Dec.{eqb-suc-zero}
use Rattle.std.proofs.lemmas.Bool.{and_parts, both_ways, false_from_ne_true, not-true}
use Rattle.std.proofs.lemmas.Slice.Eq.{bytes_eq-Decides}
use Rattle.std.specs.List.{starts_with}
use Rattle.std.specs.Option.{option_and_then, option_map}
use Rattle.std.specs.Str.{bytes_eq}
use lib.Dec.{eqb}
use Rattle.mesh_text.specs.declared.memory.Memory.{Memory}
use Rattle.mesh_text.specs.Dns.{is_label}
use Rattle.mesh_text.specs.Parts.{is_part}
use Rattle.mesh_policy.specs.Attributes.{Seen, attribute, seen_peer, source_namespace, text_or_absent}
use Rattle.mesh_policy.specs.Pattern.{pattern_holds}
use Rattle.mesh_policy.specs.PeerNames.{IsNameOf, PeerName, is_peer, is_trust_domain, name_of, peer_in, peer_of, scheme}
use Rattle.mesh_policy.specs.RuleHolds.{text_matches}
use Rattle.mesh_policy.specs.Template.{has_slash, segments_of}
use Rattle.mesh_policy.specs.declared.case.Case.{Case}
use Rattle.mesh_policy.specs.declared.pattern.Pattern.{Pattern}
use Rattle.mesh_policy.specs.declared.pattern.Pattern.TheVariants.{Exact, Prefix, Suffix, Present}
use Rattle.mesh_policy.proofs.PeerNameLemmas.{names-are-read}
use Rattle.mesh_policy.proofs.SlashLemmas.{SlashFree, slash_free}
use Rattle.mesh_tree.specs.Joined.{and_of}
use Rattle.mesh_tree.specs.Judge.{tree_holds}
use Rattle.mesh_tree.specs.Tree.{tree_of}
use Rattle.mesh_tree.specs.declared.tree.Node.TheVariants as Node
use Rattle.mesh_tree.specs.declared.tree.Tree.{Tree}
use Rattle.mesh_tree.proofs.JudgeLemmas.{holds-and, holds-any, holds-leaf, holds-not}
use Rattle.envoy_types.specs.Principal.{leaf_holds}
use Rattle.envoy_types.specs.State.{holds_of}
use Rattle.envoy_types.specs.Strings.{matcher_with}
use Rattle.envoy_types.specs.declared.principal.PrincipalLeaf.{PrincipalLeaf}
use Rattle.envoy_types.specs.declared.principal.PrincipalLeaf.TheVariants.{Authenticated}
use Rattle.envoy_types.specs.declared.strings.MatchKind.TheVariants as kind
use Rattle.peer_name.specs.Holds.{HasNamedPeer, HoldsAs}
use Rattle.peer_name.specs.Namespace.{has_no_part, has_part, is_end_of_ns, is_front_of_sa, namespace_segment, namespace_tree}
use Rattle.peer_name.specs.Namespace.{nobody, prefix_tree, suffix_tree}
use Rattle.peer_name.specs.Principal.{known_peer}
use Rattle.peer_name.proofs.NameSegments.{exact-part, prefix-of_sa, prefix-other, segmented, suffix-of_ns, suffix-other}
use Rattle.peer_name.proofs.SeenPeer.{IsNamed, seen-is-named}
use Rattle.peer_name.proofs.Segments.{prefix_slash, same_slash, suffix_slash}

-- ---- the parts of a name

-- no part has a slash
record Plain (peer : PeerName) : Type 0 where
  trust : has_slash peer.trust ≡ false
  namespace : has_slash peer.namespace ≡ false
  account : has_slash peer.account ≡ false

made_plain : (made peer : PeerName) (b : Bool) → Plain made → cond b (Some made) None ≡ Some peer → Plain peer
made_plain made peer true plain k = let same : made ≡ peer = cc in subst Plain same plain
made_plain made peer false plain k = absurd cc

segments_plain : (segments : List (List ℕ)) (peer : PeerName) → SlashFree segments → peer_in segments ≡ Some peer → Plain peer
segments_plain [] peer free k = absurd cc
segments_plain (a ∷ []) peer free k = absurd cc
segments_plain (a ∷ (b ∷ [])) peer free k = absurd cc
segments_plain (a ∷ (b ∷ (c ∷ []))) peer free k = absurd cc
segments_plain (a ∷ (b ∷ (c ∷ (d ∷ [])))) peer free k = absurd cc
segments_plain (a ∷ (b ∷ (c ∷ (d ∷ (e ∷ []))))) peer free k =
    let made : PeerName = record { trust = a; namespace = c; account = e } in
    made_plain made peer (bytes_eq b (codes "ns") && bytes_eq d (codes "sa") && is_peer made)
    (record { trust = free.0; namespace = free.1.1.0; account = free.1.1.1.1.0 }) k
segments_plain (a ∷ (b ∷ (c ∷ (d ∷ (e ∷ (f ∷ more)))))) peer free k = absurd cc

name_plain : (name : List ℕ) (peer : PeerName) → peer_of name ≡ Some peer → Plain peer
unfolding peer_of
name_plain name peer h = at (starts_with eqb name scheme) h where
  at : (b : Bool) → (if b then peer_in (segments_of (drop (length scheme) name)) else None) ≡ Some peer → Plain peer
  at true k = let rest = drop (length scheme) name in segments_plain (segments_of rest) peer (slash_free rest) k
  at false k = absurd cc

not_ns : (trust : List ℕ) → is_trust_domain trust ≡ true → bytes_eq (codes "ns") trust ≡ false
not_ns trust h =
    let other : bytes_eq trust (codes "ns") ≡ false = not-true _ (and_parts _ (not (bytes_eq trust (codes "ns"))) h).1 in
    false_from_ne_true _ (λ e.
    let same : trust ≡ codes "ns" = sym ((bytes_eq-Decides (codes "ns") trust).0 e) in
    both_ways _ other ((bytes_eq-Decides trust (codes "ns")).1 same))

is_written : (label : List ℕ) → is_label label ≡ true → not (length label == 0) ≡ true
is_written [] h = absurd cc
is_written (c ∷ cs) h = ap not (eqb-suc-zero (length cs))

-- what the trees are told by
record Told (name : List ℕ) (peer : PeerName) : Type 0 where
  spelled : name ≡ segmented peer.trust peer.namespace peer.account
  plain : Plain peer
  not_ns : bytes_eq (codes "ns") peer.trust ≡ false
  written : not (length peer.namespace == 0) ≡ true

in_segments : (peer : PeerName) → name_of peer ≡ segmented peer.trust peer.namespace peer.account
in_segments peer = ap (λ (rest : List ℕ). scheme ++ rest)
    (append_assoc ((peer.trust ++ codes "/ns/") ++ peer.namespace) (codes "/sa/") peer.account
    ∙ append_assoc (peer.trust ++ codes "/ns/") peer.namespace (codes "/sa/" ++ peer.account)
    ∙ append_assoc peer.trust (codes "/ns/") (peer.namespace ++ (codes "/sa/" ++ peer.account)))

told : (name : List ℕ) (peer : PeerName) → IsNameOf peer name → Told name peer
told name peer h =
    let first = and_parts (is_trust_domain peer.trust && is_label peer.namespace) _ h.sound in
    let parts = and_parts (is_trust_domain peer.trust) (is_label peer.namespace) first.0 in
    record {
      spelled = h.spelled ∙ in_segments peer;
      plain = name_plain name peer ((names-are-read name peer).1 h);
      not_ns = not_ns peer.trust parts.0;
      written = is_written peer.namespace parts.1;
    }

-- A test of a name that is there, beside one of its namespace. No name has no namespace.
by-namespace : (whole : Option (List ℕ) → Bool) (test : List ℕ → Bool) → whole None ≡ false
    → ((name : List ℕ) (peer : PeerName) → Told name peer → whole (Some name) ≡ test peer.namespace)
    → (name : Option (List ℕ)) → IsNamed name
    → whole name ≡ text_matches test (text_or_absent (option_map (λ peer. peer.namespace) (option_and_then peer_of name)))
by-namespace whole test none each None h = none
by-namespace whole test none each (Some name) (peer, h) =
    each name peer (told name peer h)
    ∙ ap (λ (found : Option PeerName). text_matches test (text_or_absent (option_map (λ p. p.namespace) found)))
    (sym ((names-are-read name peer).1 h))

-- ---- the trees

module _ (case : Case) (seen : Seen) (named : HasNamedPeer case) where
  abbrev admits : PrincipalLeaf → Bool
  admits leaf = leaf_holds leaf case seen

  abbrev peer : Option (List ℕ)
  peer = seen_peer case seen

  abbrev Matches : Bool → Pattern → Type 0
  Matches holds pattern = holds ≡ text_matches (pattern_holds pattern) (attribute case seen source_namespace)

  matches : (pattern : Pattern) (whole : Option (List ℕ) → Bool) → whole None ≡ false
      → ((name : List ℕ) (peer : PeerName) → Told name peer → whole (Some name) ≡ pattern_holds pattern peer.namespace)
      → Matches (whole peer) pattern
  matches pattern whole none each =
      by-namespace whole (pattern_holds pattern) none each peer (seen-is-named case seen named)

  nobody-holds : tree_holds admits nobody ≡ false
  nobody-holds = holds-not admits (tree_of Node.Any) ∙ ap not (holds-any admits)

  part-holds : (text : List ℕ) → tree_holds admits (has_part text) ≡ holds_of (is_part text) peer
  part-holds text = holds-leaf admits (Authenticated (Some (matcher_with kind.Contains text false)))

  no-part-holds : (text : List ℕ) → tree_holds admits (has_no_part text) ≡ not (holds_of (is_part text) peer)
  no-part-holds text = holds-not admits (has_part text) ∙ ap not (part-holds text)

  -- one part, but not the other
  abbrev but_not : List ℕ → List ℕ → Option (List ℕ) → Bool
  but_not text other name = holds_of (is_part text) name && (not (holds_of (is_part other) name) && true)

  both-hold : (text other : List ℕ)
      → tree_holds admits (and_of (has_part text ∷ has_no_part other ∷ [])) ≡ but_not text other peer
  both-hold text other =
      holds-and admits (has_part text) (has_no_part other ∷ [])
      ∙ ap (λ (b : Bool). b && (tree_holds admits (has_no_part other) && true)) (part-holds text)
      ∙ ap (λ (b : Bool). holds_of (is_part text) peer && (b && true)) (no-part-holds other)

  slash-holds : (pattern : Pattern) → ((namespace : List ℕ) → has_slash namespace ≡ false → pattern_holds pattern namespace ≡ false)
      → Matches (tree_holds admits nobody) pattern
  slash-holds pattern never =
      nobody-holds ∙ matches pattern (λ name. false) refl (λ name peer h. sym (never peer.namespace h.plain.namespace))

  exact-holds : (v : List ℕ) (b : Bool) → has_slash v ≡ b
      → Matches (tree_holds admits (if b then nobody else has_part (namespace_segment v))) (Exact v)
  exact-holds v true h = slash-holds (Exact v) (λ namespace. same_slash v namespace h)
  exact-holds v false h =
      part-holds (namespace_segment v)
      ∙ matches (Exact v) (holds_of (is_part (namespace_segment v))) refl (λ name peer told.
      ap (is_part (namespace_segment v)) told.spelled
      ∙ exact-part peer.trust peer.namespace peer.account told.plain.trust told.plain.namespace told.plain.account v h told.not_ns)

  prefix-plain : (v : List ℕ) (b : Bool) → has_slash v ≡ false → is_front_of_sa v ≡ b
      → Matches (tree_holds admits (and_of (has_part (codes "/ns/" ++ v)
      ∷ (if b then has_no_part (namespace_segment (codes "ns")) ∷ [] else [])))) (Prefix v)
  prefix-plain v true h e =
      both-hold (codes "/ns/" ++ v) (namespace_segment (codes "ns"))
      ∙ matches (Prefix v) (but_not (codes "/ns/" ++ v) (namespace_segment (codes "ns"))) refl (λ name peer told.
      ap (λ n. but_not (codes "/ns/" ++ v) (namespace_segment (codes "ns")) (Some n)) told.spelled
      ∙ prefix-of_sa peer.trust peer.namespace peer.account told.plain.trust told.plain.namespace told.plain.account v h told.not_ns e)
  prefix-plain v false h e =
      part-holds (codes "/ns/" ++ v)
      ∙ matches (Prefix v) (holds_of (is_part (codes "/ns/" ++ v))) refl (λ name peer told.
      ap (is_part (codes "/ns/" ++ v)) told.spelled
      ∙ prefix-other peer.trust peer.namespace peer.account told.plain.trust told.plain.namespace told.plain.account v h told.not_ns e)

  prefix-holds : (v : List ℕ) (b : Bool) → has_slash v ≡ b
      → Matches (tree_holds admits (if b then nobody else prefix_tree v)) (Prefix v)
  prefix-holds v true h = slash-holds (Prefix v) (λ namespace. prefix_slash v namespace h)
  prefix-holds v false h = prefix-plain v (is_front_of_sa v) h refl

  suffix-plain : (v : List ℕ) (b : Bool) → has_slash v ≡ false → is_end_of_ns v ≡ b
      → Matches (tree_holds admits (and_of (has_part (v ++ codes "/sa/")
      ∷ (if b then has_no_part (namespace_segment (codes "sa")) ∷ [] else [])))) (Suffix v)
  suffix-plain v true h e =
      both-hold (v ++ codes "/sa/") (namespace_segment (codes "sa"))
      ∙ matches (Suffix v) (but_not (v ++ codes "/sa/") (namespace_segment (codes "sa"))) refl (λ name peer told.
      ap (λ n. but_not (v ++ codes "/sa/") (namespace_segment (codes "sa")) (Some n)) told.spelled
      ∙ suffix-of_ns peer.trust peer.namespace peer.account told.plain.trust told.plain.namespace told.plain.account v h told.not_ns e)
  suffix-plain v false h e =
      part-holds (v ++ codes "/sa/")
      ∙ matches (Suffix v) (holds_of (is_part (v ++ codes "/sa/"))) refl (λ name peer told.
      ap (is_part (v ++ codes "/sa/")) told.spelled
      ∙ suffix-other peer.trust peer.namespace peer.account told.plain.trust told.plain.namespace told.plain.account v h e)

  suffix-holds : (v : List ℕ) (b : Bool) → has_slash v ≡ b
      → Matches (tree_holds admits (if b then nobody else suffix_tree v)) (Suffix v)
  suffix-holds v true h = slash-holds (Suffix v) (λ namespace. suffix_slash v namespace h)
  suffix-holds v false h = suffix-plain v (is_end_of_ns v) h refl

  present-holds : Matches (tree_holds admits known_peer) Present
  present-holds =
      holds-leaf admits (Authenticated None)
      ∙ matches Present (holds_of (λ name. true)) refl (λ name peer told. sym told.written)

pub namespace-holds : (p : Pattern) → HoldsAs (namespace_tree p) p source_namespace
unfolding namespace_tree
namespace-holds (Exact v) case seen named = exact-holds case seen named v (has_slash v) refl
namespace-holds (Prefix v) case seen named = prefix-holds case seen named v (has_slash v) refl
namespace-holds (Suffix v) case seen named = suffix-holds case seen named v (has_slash v) refl
namespace-holds Present case seen named = present-holds case seen named

-- where there was memory
pub holds : (p : Pattern) (r : Result (Tree PrincipalLeaf) Memory) → IfOk r (λ tree. tree ≡ namespace_tree p)
    → IfOk r (λ tree. HoldsAs tree p source_namespace)
holds p (Ok tree) shape = subst (λ (t : Tree PrincipalLeaf). HoldsAs t p source_namespace) (sym shape) (namespace-holds p)
holds p (Err e) shape = tt
