-- `ip_of` gives exactly the address that a text spells.
use Rattle.std.proofs.Common.{◌≡◌, ℕ, ◌==◌, List, [], ◌++◌, length, Option, Some, None, option_map}
use Rattle.std.proofs.Common.{sym, refl, ap, ◌∙◌, subst, append-nil, arith, lit≤}
use Rattle.std.specs.Int.Digits.{number_from_digits}
use Rattle.std.specs.declared.net.ip_addr.IpAddr.{IpAddr as StdIpAddr}
use Rattle.std.specs.declared.net.ip_addr.IpAddr.TheVariants as Std
use Rattle.std.specs.Net.Grammar.{IsColonHex, IsDotted, IsIpText}
use Rattle.std.specs.Net.Reader.{read_ipv4, read_ipv6, whole_value}
use Rattle.std.proofs.lemmas.List.{nil_from_length}
use Rattle.std.proofs.lemmas.Bool.Decides.{nat_tests}
use Rattle.std.proofs.NetLemmas.Ipv4.{read_ipv4_complete, read_ipv4_sound}
use Rattle.std.proofs.NetLemmas.Ipv6.{read_ipv6_complete, read_ipv6_sound, EndsGroups-nil, IsDotted-not_colon_hex}
use Rattle.std.proofs.NetLemmas.Options.{cond_some}
use Rattle.mesh_net.specs.declared.address.IpAddr.{IpAddr}
use Rattle.mesh_net.specs.declared.address.IpAddr.TheVariants.{V4, V6}
use Rattle.mesh_net.specs.Address.{ip_of, one_of, v4_of, v6_of, Spells}

v4_reads : (text octets : List ℕ) → IsDotted text octets → whole_value (read_ipv4 text) ≡ Some octets
v4_reads text octets h = ap whole_value (ap read_ipv4 (sym (append-nil text)) ∙ read_ipv4_complete text octets [] h (lit≤ tt))

v6_reads : (text groups : List ℕ) → IsColonHex text groups → whole_value (read_ipv6 text) ≡ Some groups
v6_reads text groups h = ap whole_value (ap read_ipv6 (sym (append-nil text)) ∙ read_ipv6_complete text groups [] h EndsGroups-nil)

-- what was read whole has no rest
no_rest : (p : List ℕ × List ℕ) (value : List ℕ) → whole_value (Some p) ≡ Some value → (p.1 ≡ []) × (p.0 ≡ value)
no_rest p value h =
    let parts = cond_some (length p.1 == 0) p.0 value h in
    (nil_from_length p.1 (grind (arith, nat_tests, parts.0)), parts.1)

whole_text : (text front rest : List ℕ) → text ≡ front ++ rest → rest ≡ [] → front ≡ text
whole_text text front rest split ended = sym (split ∙ ap (λ r. front ++ r) ended ∙ append-nil front)

v4_read : (text octets : List ℕ) → whole_value (read_ipv4 text) ≡ Some octets → IsDotted text octets
v4_read text octets h = go (read_ipv4 text) refl h
  where
    go : (r : Option (List ℕ × List ℕ)) → read_ipv4 text ≡ r → whole_value r ≡ Some octets → IsDotted text octets
    go None read e = absurd cc
    go (Some p) read e =
        let whole = no_rest p octets e in
        let sound = read_ipv4_sound text p.0 p.1 read in
        subst (λ t. IsDotted t octets) (whole_text text sound.0 p.1 sound.1 whole.0)
        (subst (λ o. IsDotted sound.0 o) whole.1 sound.2)

v6_read : (text groups : List ℕ) → whole_value (read_ipv6 text) ≡ Some groups → IsColonHex text groups
v6_read text groups h = go (read_ipv6 text) refl h
  where
    go : (r : Option (List ℕ × List ℕ)) → read_ipv6 text ≡ r → whole_value r ≡ Some groups → IsColonHex text groups
    go None read e = absurd cc
    go (Some p) read e =
        let whole = no_rest p groups e in
        let sound = read_ipv6_sound text p.0 p.1 read in
        subst (λ t. IsColonHex t groups) (whole_text text sound.0 p.1 sound.1 whole.0)
        (subst (λ g. IsColonHex sound.0 g) whole.1 sound.2)

no_v4 : (text groups : List ℕ) → IsColonHex text groups → whole_value (read_ipv4 text) ≡ None
no_v4 text groups h = go (whole_value (read_ipv4 text)) refl
  where
    go : (r : Option (List ℕ)) → whole_value (read_ipv4 text) ≡ r → whole_value (read_ipv4 text) ≡ None
    go None e = e
    go (Some octets) e = absurd (IsDotted-not_colon_hex text octets groups (v4_read text octets e) h)

pub reads : (text : List ℕ) (ip : IpAddr) → Spells text ip → ip_of text ≡ Some ip
unfolding ip_of
reads text (V4 n) spelled =
    ap (λ r. one_of (option_map v4_of r) (option_map v6_of (whole_value (read_ipv6 text)))) (v4_reads text spelled.0 spelled.1)
    ∙ ap (λ m. Some (V4 m)) (sym spelled.2)
reads text (V6 n) spelled =
    ap (λ r. one_of (option_map v4_of r) (option_map v6_of (whole_value (read_ipv6 text)))) (no_v4 text spelled.0 spelled.1)
    ∙ ap (option_map v6_of) (v6_reads text spelled.0 spelled.1)
    ∙ ap (λ m. Some (V6 m)) (sym spelled.2)

pub spells : (text : List ℕ) (ip : IpAddr) → ip_of text ≡ Some ip → Spells text ip
unfolding ip_of
spells text ip h = go (whole_value (read_ipv4 text)) (whole_value (read_ipv6 text)) refl refl h
  where
    go : (r4 r6 : Option (List ℕ)) → whole_value (read_ipv4 text) ≡ r4 → whole_value (read_ipv6 text) ≡ r6
        → one_of (option_map v4_of r4) (option_map v6_of r6) ≡ Some ip → Spells text ip
    go (Some octets) r6 e4 e6 h =
        let same : V4 (number_from_digits 256 octets) ≡ ip = cc in
        subst (Spells text) same (octets, v4_read text octets e4, refl)
    go None (Some groups) e4 e6 h =
        let same : V6 (number_from_digits 65536 groups) ≡ ip = cc in
        subst (Spells text) same (groups, v6_read text groups e6, refl)
    go None None e4 e6 h = absurd cc

-- a text spells one address at most
pub one_address : (text : List ℕ) (ip other : IpAddr) → Spells text ip → Spells text other → ◌≡◌ {A = Option IpAddr} (Some ip) (Some other)
one_address text ip other h k = sym (reads text ip h) ∙ reads text other k

no_spelling : (text : List ℕ) → ((a : StdIpAddr) → ¬ (IsIpText text a)) → (ip : IpAddr) → ¬ (Spells text ip)
no_spelling text never (V4 n) spelled = never (Std.V4 (record { octets = spelled.0 })) spelled.1
no_spelling text never (V6 n) spelled = never (Std.V6 (record { segments = spelled.0 })) spelled.1

pub nothing_read : (text : List ℕ) → ((a : StdIpAddr) → ¬ (IsIpText text a)) → None ≡ ip_of text
nothing_read text never = go (ip_of text) refl
  where
    go : (r : Option IpAddr) → ip_of text ≡ r → None ≡ ip_of text
    go None e = sym e
    go (Some ip) e = absurd (no_spelling text never ip (spells text ip e))

pub nothing_spelled : (text : List ℕ) → ((a : StdIpAddr) → ¬ (IsIpText text a)) → (ip : IpAddr) → Spells text ip → None ≡ Some ip
nothing_spelled text never ip spelled = absurd (no_spelling text never ip spelled)
