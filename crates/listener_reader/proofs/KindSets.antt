-- A set of kinds of connections: what it has, and what one more kind changes.
use denote.Ref.{Bor}
use Rattle.std.proofs.Common.{◌≡◌, ◌==◌, ℕ, ◌+◌, ◌<◌, Bool, true, false, cond, ◌&&◌, ◌||◌, List, Option, Some, None}
use Rattle.std.proofs.Common.{length, take, get_or, refl, sym, ap, ◌∙◌, nat_cmp}
use Rattle.std.proofs.lemmas.List.Folds.{list_any_more}
use Rattle.std.proofs.lemmas.Map.Text.{is_eq-slice_cmp}
use Rattle.std.specs.BTreeSet.{BTreeSet, contains, contains_by}
use Rattle.std.specs.Cmp.{tied_then, unsigned_tied}
use Rattle.std.specs.Cmp.Lexicographic.{slice_cmp}
use Rattle.std.specs.List.{list_any}
use Rattle.std.specs.Option.{option_cmp, option_copied, option_map}
use Rattle.std.specs.Ordering.{is_eq, ordering_then}
use Rattle.std.specs.declared.cmp.Ordering.{Ordering}
use Rattle.std.specs.declared.cmp.Ordering.TheVariants.{Less, Equal, Greater}
use Rattle.envoy_types.specs.ChainForms.{clashes_with_one, same_port, same_protocol}
use Rattle.envoy_types.specs.declared.chains.ChainMatch.{ChainMatch}
use Rattle.envoy_types.specs.declared.chains.FilterChain.{FilterChain}
use Rattle.envoy_types.specs.declared.chains.Transport.{Transport}
use Rattle.envoy_types.specs.declared.chains.Transport.TheVariants as transport
use Rattle.listener_reader.proofs.Chosen.{or_true}
use Rattle.listener_reader.proofs.LookedUp.{any-same, looked-up, named-kinds, sole-kind}
use Rattle.listener_reader.specs.Targets.{Kind, has, is_for, kind_in, kind_of, kinds_of, one_is_for, same, same_name, transport_of}
use Rattle.listener_reader.specs.contracts.clashes.KeyOrd.TheImpl as key_ord
use Rattle.listener_reader.specs.contracts.clashes.ProtocolOrd.TheImpl as protocol_ord
use Rattle.listener_reader.specs.declared.clashes.Key.{Key}
use Rattle.listener_reader.specs.declared.clashes.Protocol.{Protocol}
use Rattle.listener_reader.specs.declared.clashes.Protocol.TheVariants as protocol

-- ---- keys are equal where they are of one kind

abbrev pub key_cmp : Key → Key → Ordering
key_cmp = (key_ord.ghosts).cmp

abbrev protocol_cmp : Protocol → Protocol → Ordering
protocol_cmp = (protocol_ord.ghosts).cmp

abbrev name_cmp : Option (Bor (List ℕ)) → Option (Bor (List ℕ)) → Ordering
name_cmp = option_cmp (λ x y. slice_cmp nat_cmp x.now y.now)

ports : (p q : Option ℕ) → is_eq (option_cmp nat_cmp p q) ≡ same_port p q
ports None None = refl
ports None (Some q) = refl
ports (Some p) None = refl
ports (Some p) (Some q) = unsigned_tied p q

protocols : (p q : Protocol) → is_eq (protocol_cmp p q) ≡ same_protocol (transport_of p) (transport_of q)
protocols protocol.Unnamed protocol.Unnamed = refl
protocols protocol.Unnamed protocol.RawBuffer = refl
protocols protocol.Unnamed protocol.Tls = refl
protocols protocol.RawBuffer protocol.Unnamed = refl
protocols protocol.RawBuffer protocol.RawBuffer = refl
protocols protocol.RawBuffer protocol.Tls = refl
protocols protocol.Tls protocol.Unnamed = refl
protocols protocol.Tls protocol.RawBuffer = refl
protocols protocol.Tls protocol.Tls = refl

names : (n m : Option (Bor (List ℕ))) → is_eq (name_cmp n m) ≡ same_name (option_copied n) (option_copied m)
names None None = refl
names None (Some m) = refl
names (Some n) None = refl
names (Some n) (Some m) = is_eq-slice_cmp n.now m.now

all-equal : (o p q : Ordering) → is_eq (ordering_then o (ordering_then p q)) ≡ ((is_eq o && is_eq p) && is_eq q)
all-equal Less p q = refl
all-equal Equal p q = sym (tied_then p q)
all-equal Greater p q = refl

same-kind : (k l : Key) → is_eq (key_cmp k l) ≡ same (kind_in k) (kind_in l)
same-kind k l =
    all-equal (option_cmp nat_cmp k.port l.port) (protocol_cmp k.protocol l.protocol) (name_cmp k.name l.name)
    ∙ rw (ports k.port l.port, protocols k.protocol l.protocol, names k.name l.name) refl

-- ---- each kind has a key

abbrev kept-protocol : Option Transport → Protocol
kept-protocol None = protocol.Unnamed
kept-protocol (Some transport.RawBuffer) = protocol.RawBuffer
kept-protocol (Some transport.Tls) = protocol.Tls

abbrev kept-name : Option (List ℕ) → Option (Bor (List ℕ))
kept-name name = option_map (λ n. record { ref_ptr = (0, 0); now = n }) name

abbrev kept : Kind → Key
kept kind = record { port = kind.port; protocol = kept-protocol kind.transport; name = kept-name kind.name }

protocol-is : (t : Option Transport) → transport_of (kept-protocol t) ≡ t
protocol-is None = refl
protocol-is (Some transport.RawBuffer) = refl
protocol-is (Some transport.Tls) = refl

name-is : (n : Option (List ℕ)) → option_copied (kept-name n) ≡ n
name-is None = refl
name-is (Some n) = refl

kept-is : (kind : Kind) → kind_in (kept kind) ≡ kind
kept-is kind = rw (protocol-is kind.transport, name-is kind.name) refl

-- ---- what a set has

pub found : (kinds : BTreeSet Key) (key : Key) → contains_by (key_cmp key) kinds ≡ has kinds (kind_in key)
unfolding has
found kinds key = any-same _ _ (λ k. same-kind key k) kinds.keys

pick : (b x : Bool) → cond b true x ≡ (x || b)
pick true x = sym (or_true x)
pick false true = refl
pick false false = refl

pub one-more : (old new : BTreeSet Key) (key : Key)
    → ((q : Key) → contains key_cmp new q ≡ cond (is_eq (key_cmp key q)) true (contains key_cmp old q))
    → (kind : Kind) → has new kind ≡ (has old kind || same (kind_in key) kind)
one-more old new key h kind =
    let q = kept kind in
    ap (λ k. has new k) (sym (kept-is kind))
    ∙ sym (found new q) ∙ h q
    ∙ pick (is_eq (key_cmp key q)) (contains key_cmp old q)
    ∙ ap (λ b. b || is_eq (key_cmp key q)) (found old q)
    ∙ ap (λ b. has old (kind_in q) || b) (same-kind key q)
    ∙ ap (λ k. has old k || same (kind_in key) k) (kept-is kind)

or-assoc : (a b c : Bool) → ((a || b) || c) ≡ (a || (b || c))
or-assoc true b c = refl
or-assoc false b c = refl

pub one-name-more : (old now new : BTreeSet Key) (of_name : List ℕ → Kind) (names : List (List ℕ)) (i : ℕ) (name : List ℕ)
    → i < length names → name ≡ get_or names i name
    → ((kind : Kind) → has now kind ≡ (has old kind || list_any (λ n. same (of_name n) kind) (take i names)))
    → ((kind : Kind) → has new kind ≡ (has now kind || same (of_name name) kind))
    → (kind : Kind) → has new kind ≡ (has old kind || list_any (λ n. same (of_name n) kind) (take (i + 1) names))
one-name-more old now new of_name names i name h e before put kind =
    put kind ∙ ap (λ b. b || same (of_name name) kind) (before kind)
    ∙ or-assoc (has old kind) (list_any (λ n. same (of_name n) kind) (take i names)) (same (of_name name) kind)
    ∙ ap (λ b. has old kind || (list_any (λ n. same (of_name n) kind) (take i names) || b)) (ap (λ n. same (of_name n) kind) e)
    ∙ ap (λ b. has old kind || b) (sym (list_any_more (λ n. same (of_name n) kind) names i name h))

-- ---- chains

pub one-kind-more : (old new : BTreeSet Key) (matching : ChainMatch) (key : Key) → (length matching.alpn == 0) ≡ true
    → kind_in key ≡ kind_of matching None
    → ((kind : Kind) → has new kind ≡ (has old kind || same (kind_in key) kind))
    → (kind : Kind) → has new kind ≡ (has old kind || is_for kind matching)
one-kind-more old new matching key none is put kind =
    put kind ∙ ap (λ k. has old kind || same k kind) is
    ∙ ap (λ b. has old kind || b) (sym (sole-kind (λ own. same own kind) matching none))

pub kinds-more : (old new : BTreeSet Key) (matching : ChainMatch) (names : List (List ℕ)) → names ≡ matching.alpn
    → (length matching.alpn == 0) ≡ false
    → ((kind : Kind) → has new kind ≡ (has old kind || list_any (λ n. same (kind_of matching (Some n)) kind) names))
    → (kind : Kind) → has new kind ≡ (has old kind || is_for kind matching)
kinds-more old new matching names e some put kind =
    put kind ∙ ap (λ ns. has old kind || list_any (λ n. same (kind_of matching (Some n)) kind) ns) e
    ∙ ap (λ b. has old kind || b) (sym (named-kinds (λ own. same own kind) matching some))

pub taken : (kinds : BTreeSet Key) (earlier : List FilterChain) (chain : FilterChain)
    → ((kind : Kind) → has kinds kind ≡ one_is_for earlier kind)
    → list_any (λ kind. has kinds kind) (kinds_of chain.matching) ≡ clashes_with_one earlier chain
taken kinds earlier chain h = any-same _ _ h (kinds_of chain.matching) ∙ sym (looked-up earlier chain)

pub one-chain-more : (now new : BTreeSet Key) (chains : List FilterChain) (i : ℕ) (chain : FilterChain)
    → i < length chains → chain ≡ get_or chains i chain
    → ((kind : Kind) → has now kind ≡ one_is_for (take i chains) kind)
    → ((kind : Kind) → has new kind ≡ (has now kind || is_for kind chain.matching))
    → (kind : Kind) → has new kind ≡ one_is_for (take (i + 1) chains) kind
unfolding one_is_for
one-chain-more now new chains i chain h e before keep kind =
    keep kind ∙ ap (λ b. b || is_for kind chain.matching) (before kind)
    ∙ ap (λ b. list_any (λ c. is_for kind c.matching) (take i chains) || b) (ap (λ c. is_for kind c.matching) e)
    ∙ sym (list_any_more (λ c. is_for kind c.matching) chains i chain h)
