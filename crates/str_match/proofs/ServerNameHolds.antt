-- The tree of a string form holds exactly where the form matches the server name.
use Rattle.std.proofs.Common.{◌≡◌, ◌≢◌, ℕ, Bool, false, not, List, [], ◌∷◌, length}
use Rattle.std.proofs.Common.{Option, Some, None, unwrap_or, refl, sym, ◌∙◌, ap, subst}
use Rattle.std.proofs.Math.Dec.{eqb-suc-zero}
use Rattle.std.specs.Option.{option_and_then}
use Rattle.mesh_policy.specs.Attributes.{text_or_absent}
use Rattle.mesh_policy.specs.Pattern.{HasNoEmptyText, pattern_holds}
use Rattle.mesh_policy.specs.RuleHolds.{text_matches}
use Rattle.mesh_policy.specs.declared.pattern.Pattern.{Pattern}
use Rattle.mesh_policy.specs.declared.pattern.Pattern.TheVariants.{Exact, Prefix, Suffix, Present}
use Rattle.mesh_tree.specs.declared.tree.Tree.{Tree}
use Rattle.mesh_tree.proofs.JudgeLemmas.{holds-leaf, holds-not}
use Rattle.envoy_types.specs.Permission.{leaf_holds}
use Rattle.envoy_types.specs.Strings.{matcher_of, matcher_with, string_holds}
use Rattle.envoy_types.specs.declared.permission.PermissionLeaf.{PermissionLeaf}
use Rattle.envoy_types.specs.declared.permission.PermissionLeaf.TheVariants.{ServerName}
use Rattle.envoy_types.specs.declared.strings.MatchKind.TheVariants as kind
use Rattle.envoy_types.specs.declared.strings.StringMatcher.{StringMatcher}
use Rattle.str_match.specs.ServerName.{HoldsAs, asked_for, asked_for_any, asked_for_by, sni_tree}

-- ---- a server name, or none

-- a test of the name that was asked for, or of the empty text, agrees with the form
abbrev Agree : (test : List ℕ → Bool) → Pattern → Type 0
Agree test p = (name : Option (List ℕ)) → test (unwrap_or name []) ≡ text_matches (pattern_holds p) (text_or_absent name)

exact-agrees : (v : List ℕ) → v ≢ [] → Agree (string_holds (matcher_with kind.Exact v false)) (Exact v)
exact-agrees [] h name = absurd (h refl)
exact-agrees (c ∷ cs) h None = refl
exact-agrees (c ∷ cs) h (Some t) = refl

prefix-agrees : (v : List ℕ) → v ≢ [] → Agree (string_holds (matcher_with kind.Prefix v false)) (Prefix v)
prefix-agrees [] h name = absurd (h refl)
prefix-agrees (c ∷ cs) h None = refl
prefix-agrees (c ∷ cs) h (Some t) = refl

suffix-agrees : (v : List ℕ) → v ≢ [] → Agree (string_holds (matcher_with kind.Suffix v false)) (Suffix v)
suffix-agrees [] h name = absurd (h refl)
suffix-agrees (c ∷ cs) h None = refl
suffix-agrees (c ∷ cs) h (Some t) = refl

present-agrees : Agree (λ t. not (string_holds (matcher_with kind.Exact [] false) t)) Present
present-agrees None = refl
present-agrees (Some []) = refl
present-agrees (Some (c ∷ cs)) = sym (ap not (eqb-suc-zero (length cs)))

-- ---- the tree of a form

asked-holds : (matcher : StringMatcher) (p : Pattern) → Agree (string_holds matcher) p → HoldsAs (asked_for matcher) p
asked-holds matcher p agree = λ case seen.
    holds-leaf (λ leaf. leaf_holds leaf case seen) (ServerName matcher) ∙ agree (option_and_then (λ tls. tls.sni) case.tls)

any-holds : HoldsAs asked_for_any Present
any-holds = λ case seen.
    holds-not (λ leaf. leaf_holds leaf case seen) (asked_for (matcher_with kind.Exact [] false))
    ∙ ap not (holds-leaf (λ leaf. leaf_holds leaf case seen) (ServerName (matcher_with kind.Exact [] false)))
    ∙ present-agrees (option_and_then (λ tls. tls.sni) case.tls)

pub server-name-holds : (p : Pattern) → HasNoEmptyText p → HoldsAs (sni_tree p) p
unfolding sni_tree
server-name-holds (Exact v) h = asked-holds (matcher_with kind.Exact v false) (Exact v) (exact-agrees v h)
server-name-holds (Prefix v) h = asked-holds (matcher_with kind.Prefix v false) (Prefix v) (prefix-agrees v h)
server-name-holds (Suffix v) h = asked-holds (matcher_with kind.Suffix v false) (Suffix v) (suffix-agrees v h)
server-name-holds Present h = any-holds

-- ---- the tree that is made

pub made-is : (p : Pattern) (matcher : StringMatcher) (tree : Tree PermissionLeaf) → matcher_of p false ≡ Some matcher
    → tree ≡ asked_for matcher → tree ≡ sni_tree p
unfolding sni_tree
made-is p matcher tree given made = made ∙ ap asked_for_by (sym given)

pub made-holds : (p : Pattern) (tree : Tree PermissionLeaf) → HasNoEmptyText p → tree ≡ sni_tree p → HoldsAs tree p
made-holds p tree written made = subst (λ t. HoldsAs t p) (sym made) (server-name-holds p written)
