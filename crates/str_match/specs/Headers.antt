-- Headers by string forms (Istio reference, "Authorization Policy": `hosts` and `methods` of an Operation; "Authorization Policy
-- Conditions": `request.headers`), as header matchers of Envoy (Envoy v3 API reference, `config.route.v3.HeaderMatcher`). The method
-- and the host of a request are pseudo-headers (RFC 9113, section 8.3.1).
use Rattle.std.specs.Prelude.{◌≡◌, ℕ, true, false, List, [], ◌∷◌, codes, Option, Some, None}
use Rattle.mesh_policy.specs.Attributes as key
use Rattle.mesh_policy.specs.Attributes.{Seen, attribute}
use Rattle.mesh_policy.specs.Pattern.{pattern_holds, pattern_holds_folded}
use Rattle.mesh_policy.specs.RuleHolds.{text_matches}
use Rattle.mesh_policy.specs.declared.case.Case.{Case}
use Rattle.mesh_policy.specs.declared.pattern.Pattern.{Pattern}
use Rattle.mesh_tree.specs.Joined.{and_of}
use Rattle.mesh_tree.specs.Judge.{tree_holds}
use Rattle.mesh_tree.specs.Tree.{tree_of}
use Rattle.mesh_tree.specs.declared.tree.Node.TheVariants as Node
use Rattle.mesh_tree.specs.declared.tree.Tree.{Tree}
use Rattle.envoy_types.specs.Permission as permission
use Rattle.envoy_types.specs.Principal as principal
use Rattle.envoy_types.specs.Strings.{matcher_of, matcher_with}
use Rattle.envoy_types.specs.declared.headers.HeaderMatch.{HeaderMatch}
use Rattle.envoy_types.specs.declared.headers.HeaderTest.{HeaderTest}
use Rattle.envoy_types.specs.declared.headers.HeaderTest.TheVariants.{Present, Words}
use Rattle.envoy_types.specs.declared.permission.PermissionLeaf.{PermissionLeaf}
use Rattle.envoy_types.specs.declared.permission.PermissionLeaf.TheVariants as asked
use Rattle.envoy_types.specs.declared.principal.PrincipalLeaf.{PrincipalLeaf}
use Rattle.envoy_types.specs.declared.principal.PrincipalLeaf.TheVariants as asking
use Rattle.envoy_types.specs.declared.strings.MatchKind.TheVariants as kind
use Rattle.envoy_types.specs.declared.strings.StringMatcher.{StringMatcher}

-- ---- trees of one header

-- a test of the header of this name, as a leaf of either kind
abbrev pub header_test : {L : Type 0} → (HeaderMatch → L) → List ℕ → HeaderTest → Tree L
header_test leaf name test = tree_of (Node.Leaf (leaf (record { name = name; test = test })))

-- the header is there, and its value is not the empty text
abbrev pub header_filled : {L : Type 0} → (HeaderMatch → L) → List ℕ → Tree L
header_filled leaf name = and_of
    (header_test leaf name Present ∷ tree_of (Node.Not (header_test leaf name (Words (matcher_with kind.Exact [] false)))) ∷ [])

-- by the matcher of a string form, where it has one; presence has none
abbrev pub header_by : {L : Type 0} → (HeaderMatch → L) → List ℕ → Option StringMatcher → Tree L
header_by leaf name None = header_filled leaf name
header_by leaf name (Some matcher) = header_test leaf name (Words matcher)

-- ---- hosts, methods and headers

-- the hosts that the pattern holds for, without regard to ASCII case
unfoldable pub host_tree : Pattern → Tree PermissionLeaf
host_tree pattern = header_by asked.Header (codes ":authority") (matcher_of pattern true)

-- the methods that the pattern holds for
unfoldable pub method_tree : Pattern → Tree PermissionLeaf
method_tree pattern = header_by asked.Header (codes ":method") (matcher_of pattern false)

-- the requests that have a header of this name, for whose first value the pattern holds
unfoldable pub header_tree : List ℕ → Pattern → Tree PrincipalLeaf
header_tree name pattern = header_by asking.Header name (matcher_of pattern false)

-- ---- what they mean, whatever is seen of the case

-- the host of the request, folded
abbrev pub HoldsAsHost : Tree PermissionLeaf → Pattern → Type 0
HoldsAsHost tree pattern =
    (case : Case) (seen : Seen)
    → tree_holds (λ leaf. permission.leaf_holds leaf case seen) tree
    ≡ text_matches (pattern_holds_folded pattern) (attribute case seen key.host)

-- its method
abbrev pub HoldsAsMethod : Tree PermissionLeaf → Pattern → Type 0
HoldsAsMethod tree pattern =
    (case : Case) (seen : Seen)
    → tree_holds (λ leaf. permission.leaf_holds leaf case seen) tree
    ≡ text_matches (pattern_holds pattern) (attribute case seen key.method)

-- its header of this name
abbrev pub HoldsAsHeader : Tree PrincipalLeaf → List ℕ → Pattern → Type 0
HoldsAsHeader tree name pattern =
    (case : Case) (seen : Seen)
    → tree_holds (λ leaf. principal.leaf_holds leaf case seen) tree
    ≡ text_matches (pattern_holds pattern) (attribute case seen (key.header name))
