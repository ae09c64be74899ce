-- The address that a text spells, and that of the block that a text spells, is one of its family.
use Rattle.std.proofs.Common.{◌≡◌, ℕ, ◌+◌, ◌*◌, ◌-◌, ◌^◌, ◌<◌, ◌≤◌, zero, suc, true, Bool, List, [], ◌∷◌, ◌++◌, length, replicate}
use Rattle.std.proofs.Common.{refl, subst, sym, arith, inl, inr, false, append_assoc, length-append}
use Rattle.std.proofs.lemmas.Bool.{lt-ltb}
use Rattle.std.proofs.lemmas.Int.Digits.{digits_value-lt, number_lt}
use Rattle.std.proofs.lemmas.List.{length-replicate}
use Rattle.std.specs.Int.Digits.{AllBelowBase, number_from_digits}
use Rattle.std.specs.Net.Addr.{segments_of}
use Rattle.std.specs.Net.Grammar.{IsColonHex, IsDotted, IsElided, IsGroup, IsGroupsAfter}
use Rattle.mesh_net.specs.Address.{Spells}
use Rattle.mesh_net.specs.Block.{SpellsBlock}
use Rattle.mesh_net.specs.declared.address.IpAddr.{IpAddr}
use Rattle.mesh_net.specs.declared.address.IpAddr.TheVariants.{V4, V6}
use Rattle.mesh_net.specs.declared.cidr.Cidr.{Cidr}
use Rattle.mesh_policy.specs.Values.{is_address, is_block}

-- ---- octets and groups

-- four octets
abbrev FourOctets : List ℕ → Type 0
FourOctets octets = AllBelowBase 256 octets × (length octets ≡ 4)

four_octets : (text octets : List ℕ) → IsDotted text octets → FourOctets octets
four_octets text octets h = subst FourOctets (sym h.value) ((h.fit.0, (h.fit.1, (h.fit.2, (h.fit.3, tt)))), refl)

-- two octets are one group
pair-below : (a b : ℕ) → a < 256 → b < 256 → a * 256 + b < 65536
pair-below a b h k = omega arith

segments-below : (octets : List ℕ) → AllBelowBase 256 octets → AllBelowBase 65536 (segments_of octets)
segments-below [] h = tt
segments-below (a ∷ []) h = tt
segments-below (a ∷ b ∷ octets) h = (pair-below a b h.0 h.1.0, segments-below octets h.1.1)

-- at most four hexadecimal digits
group-below : (text : List ℕ) (segment : ℕ) → IsGroup text segment → segment < 65536
group-below text segment h =
    let value = digits_value-lt 16 text h.0.0.1 in
    at (length text) segment (subst (λ n. n < 16 ^ length text) h.0.1 value) h.1 where
      at : (k n : ℕ) → n < 16 ^ k → k ≤ 4 → n < 65536
      at zero n h k = omega arith
      at (suc zero) n h k = omega arith
      at (suc (suc zero)) n h k = omega arith
      at (suc (suc (suc zero))) n h k = omega arith
      at (suc (suc (suc (suc zero)))) n h k = omega arith
      at (suc (suc (suc (suc (suc m))))) n h k = absurd (omega (arith, k))

groups-below : (ipv4 : Bool) (lead text segments : List ℕ) → IsGroupsAfter ipv4 lead text segments → AllBelowBase 65536 segments
groups-below ipv4 lead text [] h = tt
groups-below ipv4 lead text (s ∷ segments) (inl (group, rest, spelled, first, later)) =
    (group-below group s first, groups-below ipv4 _ rest segments later)
groups-below ipv4 lead text (s ∷ segments) (inr (last, octets, allowed, spelled, dotted, same)) =
    subst (AllBelowBase 65536) (sym same) (segments-below octets (four_octets last octets dotted).0)

zeros-below : (n : ℕ) (rest : List ℕ) → AllBelowBase 65536 rest → AllBelowBase 65536 (replicate n 0 ++ rest)
zeros-below zero rest h = h
zeros-below (suc n) rest h = (omega arith, zeros-below n rest h)

joined-below : (front rest : List ℕ) → AllBelowBase 65536 front → AllBelowBase 65536 rest → AllBelowBase 65536 (front ++ rest)
joined-below [] rest h k = k
joined-below (d ∷ ds) rest h k = (h.0, joined-below ds rest h.1 k)

-- eight groups
abbrev EightGroups : List ℕ → Type 0
EightGroups groups = AllBelowBase 65536 groups × (length groups ≡ 8)

eight_elided : (text groups : List ℕ) → IsElided text groups → EightGroups groups
eight_elided text groups h =
    let zeros = 8 - length h.head - length h.tail in
    let filled : length (replicate zeros 0) ≡ zeros = length-replicate {A = ℕ} zeros 0 in
    let count : length (h.head ++ replicate zeros 0 ++ h.tail) ≡ 8 =
    omega (arith, length-append (h.head ++ replicate zeros 0) h.tail, length-append h.head (replicate zeros 0), filled, h.room) in
    subst EightGroups (sym h.value) (
      subst (AllBelowBase 65536) (sym (append_assoc h.head (replicate zeros 0) h.tail))
          (joined-below h.head (replicate zeros 0 ++ h.tail) (groups-below false [] h.head_text h.head h.head_groups)
          (zeros-below zeros h.tail (groups-below true [] h.tail_text h.tail h.tail_groups))),
      count,
    )

eight_groups : (text groups : List ℕ) → IsColonHex text groups → EightGroups groups
eight_groups text groups (inl h) = (groups-below true [] text groups h.0, h.1)
eight_groups text groups (inr h) = eight_elided text groups h

-- ---- addresses and blocks

pub spelled-address : (text : List ℕ) (ip : IpAddr) → Spells text ip → is_address ip ≡ true
spelled-address text (V4 n) (octets, dotted, value) =
    let four = four_octets text octets dotted in
    let below = number_lt 256 octets four.0 in
    lt-ltb n (2 ^ 32) (subst (λ m. m < 2 ^ 32) (sym value) (subst (λ k. number_from_digits 256 octets < 256 ^ k) four.1 below))
spelled-address text (V6 n) (groups, spelled, value) =
    let eight = eight_groups text groups spelled in
    let below = number_lt 65536 groups eight.0 in
    lt-ltb n (2 ^ 128) (subst (λ m. m < 2 ^ 128) (sym value) (subst (λ k. number_from_digits 65536 groups < 65536 ^ k) eight.1 below))

pub spelled-block : (text : List ℕ) (block : Cidr) → SpellsBlock text block → is_block block ≡ true
spelled-block text block (inl h) = spelled-address text block.addr h.0
spelled-block text block (inr (addr, len, spelled, address, length)) = spelled-address addr block.addr address
