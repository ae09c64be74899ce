-- Leaves that `==` finds equal are the same: what `==` decides of the parts of a leaf, and then of the leaf.
use Rattle.std.specs.Prelude.{◌≡◌, ◌==◌, ℕ, Bool, true, ◌&&◌, nat_le, List, Some, None}
use Rattle.std.specs.Bool.{Decides}
use Rattle.std.specs.Cmp.{booleans_Decides}
use Rattle.std.specs.Cmp.Lexicographic.{pointwise}
use Rattle.std.proofs.Common.{ap, refl, subst}
use Rattle.std.proofs.Math.Bool.{Bool-set, beq}
use Rattle.std.proofs.lemmas.Bool.{and_parts}
use Rattle.std.proofs.lemmas.Bool.Decides.{Decides-eqb}
use Rattle.std.proofs.lemmas.Slice.Eq.{slice_eq-Decides}
use Rattle.mesh_net.specs.Address.{width}
use Rattle.mesh_net.specs.declared.address.IpAddr.{IpAddr}
use Rattle.mesh_net.specs.declared.address.IpAddr.TheVariants as ip
use Rattle.mesh_net.specs.declared.cidr.Cidr.{Cidr}
use Rattle.mesh_net.specs.contracts.address.IpAddrPartialEq.TheImpl as ips
use Rattle.mesh_net.specs.contracts.cidr.CidrPartialEq.TheImpl as cidrs
use Rattle.envoy_types.specs.declared.headers.HeaderMatch.{HeaderMatch}
use Rattle.envoy_types.specs.declared.headers.HeaderTest.{HeaderTest}
use Rattle.envoy_types.specs.declared.headers.HeaderTest.TheVariants as test
use Rattle.envoy_types.specs.declared.metadata.ValueMatcher.{ValueMatcher}
use Rattle.envoy_types.specs.declared.metadata.ValueMatcher.TheVariants as value
use Rattle.envoy_types.specs.declared.permission.PermissionLeaf.{PermissionLeaf}
use Rattle.envoy_types.specs.declared.permission.PermissionLeaf.TheVariants as permission
use Rattle.envoy_types.specs.declared.principal.PrincipalLeaf.{PrincipalLeaf}
use Rattle.envoy_types.specs.declared.principal.PrincipalLeaf.TheVariants as principal
use Rattle.envoy_types.specs.declared.strings.MatchKind.{MatchKind}
use Rattle.envoy_types.specs.declared.strings.MatchKind.TheVariants.{Exact, Prefix, Suffix, Contains}
use Rattle.envoy_types.specs.declared.strings.StringMatcher.{StringMatcher}
use Rattle.envoy_types.specs.contracts.headers.HeaderMatchPartialEq.TheImpl as header_matches
use Rattle.envoy_types.specs.contracts.headers.HeaderTestPartialEq.TheImpl as header_tests
use Rattle.envoy_types.specs.contracts.metadata.ValueMatcherPartialEq.TheImpl as values
use Rattle.envoy_types.specs.contracts.permission.PermissionLeafPartialEq.TheImpl as permissions
use Rattle.envoy_types.specs.contracts.principal.PrincipalLeafPartialEq.TheImpl as principals
use Rattle.envoy_types.specs.contracts.strings.MatchKindPartialEq.TheImpl as kinds
use Rattle.envoy_types.specs.contracts.strings.StringMatcherPartialEq.TheImpl as matchers

-- ---- texts and blocks

text_decides : (a b : List ℕ) → Decides (pointwise ◌==◌ a b) (a ≡ b)
text_decides a b = slice_eq-Decides Decides-eqb a b (pointwise ◌==◌ a b) refl

text_same : (a b : List ℕ) → pointwise ◌==◌ a b ≡ true → a ≡ b
text_same a b h = (text_decides a b).0 h

texts_same : (a b : List (List ℕ)) → pointwise (pointwise ◌==◌) a b ≡ true → a ≡ b
texts_same a b h = (slice_eq-Decides text_decides a b (pointwise (pointwise ◌==◌) a b) refl).0 h

address_same : (a b : IpAddr) → ips.ghosts.eq a b ≡ true → a ≡ b
address_same (ip.V4 x) (ip.V4 y) h = ap ip.V4 ((Decides-eqb x y).0 h)
address_same (ip.V6 x) (ip.V6 y) h = ap ip.V6 ((Decides-eqb x y).0 h)
address_same a b h = cc

abbrev block : (addr : IpAddr) (len : ℕ) → nat_le len (width addr) ≡ true → Cidr
block addr len fits = record { addr = addr; len = len; fits = fits }

-- that the length fits is told in one way
block_with_len : (addr : IpAddr) (len : ℕ) (fits : nat_le len (width addr) ≡ true) (len' : ℕ) → len ≡ len'
    → (fits' : nat_le len' (width addr) ≡ true) → block addr len fits ≡ block addr len' fits'
block_with_len addr len fits len' e =
    subst (λ (n : ℕ). (f : nat_le n (width addr) ≡ true) → block addr len fits ≡ block addr n f) e
    (λ f. ap (λ (p : nat_le len (width addr) ≡ true). block addr len p) (Bool-set _ _ fits f))

block_with_address : (addr : IpAddr) (len : ℕ) (fits : nat_le len (width addr) ≡ true) (addr' : IpAddr) (len' : ℕ)
    → addr ≡ addr' → len ≡ len'
    → (fits' : nat_le len' (width addr') ≡ true) → block addr len fits ≡ block addr' len' fits'
block_with_address addr len fits addr' len' same e =
    subst (λ (a : IpAddr). (f : nat_le len' (width a) ≡ true) → block addr len fits ≡ block a len' f) same
    (block_with_len addr len fits len' e)

block_same : (a b : Cidr) → cidrs.ghosts.eq a b ≡ true → a ≡ b
block_same a b h =
    let parts = and_parts (ips.ghosts.eq a.addr b.addr) (a.len == b.len) h in
    block_with_address a.addr a.len a.fits b.addr b.len (address_same a.addr b.addr parts.0) ((Decides-eqb a.len b.len).0 parts.1) b.fits

-- ---- matchers

kind_same : (a b : MatchKind) → kinds.ghosts.eq a b ≡ true → a ≡ b
kind_same Exact Exact h = refl
kind_same Prefix Prefix h = refl
kind_same Suffix Suffix h = refl
kind_same Contains Contains h = refl
kind_same a b h = cc

abbrev matcher : MatchKind → List ℕ → Bool → StringMatcher
matcher kind text fold = record { kind = kind; text = text; ignore_case = fold }

matcher_from : (k k' : MatchKind) (t t' : List ℕ) (i i' : Bool) → k ≡ k' → t ≡ t' → i ≡ i' → matcher k t i ≡ matcher k' t' i'
matcher_from k k' t t' i i' p q r = cc

matcher_same : (a b : StringMatcher) → matchers.ghosts.eq a b ≡ true → a ≡ b
matcher_same a b h =
    let parts = and_parts (kinds.ghosts.eq a.kind b.kind) (pointwise ◌==◌ a.text b.text && beq a.ignore_case b.ignore_case) h in
    let rest = and_parts (pointwise ◌==◌ a.text b.text) (beq a.ignore_case b.ignore_case) parts.1 in
    matcher_from a.kind b.kind a.text b.text a.ignore_case b.ignore_case (kind_same a.kind b.kind parts.0) (text_same a.text b.text rest.0)
    ((booleans_Decides a.ignore_case b.ignore_case).0 rest.1)

test_same : (a b : HeaderTest) → header_tests.ghosts.eq a b ≡ true → a ≡ b
test_same test.Present test.Present h = refl
test_same (test.Words m) (test.Words n) h = ap test.Words (matcher_same m n h)
test_same a b h = cc

abbrev header : List ℕ → HeaderTest → HeaderMatch
header name test = record { name = name; test = test }

header_from : (n n' : List ℕ) (t t' : HeaderTest) → n ≡ n' → t ≡ t' → header n t ≡ header n' t'
header_from n n' t t' p q = cc

header_same : (a b : HeaderMatch) → header_matches.ghosts.eq a b ≡ true → a ≡ b
header_same a b h =
    let parts = and_parts (pointwise ◌==◌ a.name b.name) (header_tests.ghosts.eq a.test b.test) h in
    header_from a.name b.name a.test b.test (text_same a.name b.name parts.0) (test_same a.test b.test parts.1)

value_same : (a b : ValueMatcher) → values.ghosts.eq a b ≡ true → a ≡ b
value_same value.Present value.Present h = refl
value_same (value.Words m) (value.Words n) h = ap value.Words (matcher_same m n h)
value_same value.OneOfPresent value.OneOfPresent h = refl
value_same (value.OneOf m) (value.OneOf n) h = ap value.OneOf (matcher_same m n h)
value_same a b h = cc

-- ---- leaves

-- equal permissions are the same
pub permission_same : (a b : PermissionLeaf) → permissions.ghosts.eq a b ≡ true → a ≡ b
permission_same (permission.Header h) (permission.Header k) e = ap permission.Header (header_same h k e)
permission_same (permission.UrlPath m) (permission.UrlPath n) e = ap permission.UrlPath (matcher_same m n e)
permission_same (permission.UriTemplate t) (permission.UriTemplate u) e = ap permission.UriTemplate (text_same t u e)
permission_same (permission.DestinationIp b) (permission.DestinationIp c) e = ap permission.DestinationIp (block_same b c e)
permission_same (permission.DestinationPort p) (permission.DestinationPort q) e = ap permission.DestinationPort ((Decides-eqb p q).0 e)
permission_same (permission.ServerName m) (permission.ServerName n) e = ap permission.ServerName (matcher_same m n e)
permission_same a b e = cc

metadata_from : (p p' : List (List ℕ)) (v v' : ValueMatcher) → p ≡ p' → v ≡ v' → principal.Metadata p v ≡ principal.Metadata p' v'
metadata_from p p' v v' e f = cc

-- equal principals are the same
pub principal_same : (a b : PrincipalLeaf) → principals.ghosts.eq a b ≡ true → a ≡ b
principal_same (principal.Authenticated None) (principal.Authenticated None) e = refl
principal_same (principal.Authenticated (Some m)) (principal.Authenticated (Some n)) e =
    ap (λ k. principal.Authenticated (Some k)) (matcher_same m n e)
principal_same (principal.DirectRemoteIp b) (principal.DirectRemoteIp c) e = ap principal.DirectRemoteIp (block_same b c e)
principal_same (principal.RemoteIp b) (principal.RemoteIp c) e = ap principal.RemoteIp (block_same b c e)
principal_same (principal.Header h) (principal.Header k) e = ap principal.Header (header_same h k e)
principal_same (principal.Metadata p v) (principal.Metadata q w) e =
    let parts = and_parts (pointwise (pointwise ◌==◌) p q) (values.ghosts.eq v w) e in
    metadata_from p q v w (texts_same p q parts.0) (value_same v w parts.1)
principal_same a b e = cc
