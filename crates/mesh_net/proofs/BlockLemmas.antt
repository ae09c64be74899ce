-- There is one block of an address and a length, and `block_of` gives exactly the block that a text spells.
use Rattle.std.proofs.Common.{◌≡◌, ℕ, ◌+◌, ◌||◌, nat_le, Bool, true, false, List, [], ◌∷◌, ◌++◌, length, if◌then◌else◌}
use Rattle.std.proofs.Common.{Option, Some, None, IfSome, codes, inl, inr, refl, sym, ◌∙◌, ap, subst, append_assoc, arith}
use Rattle.std.proofs.lemmas.Bool.{false≢true}
use Rattle.std.proofs.Math.Bool.{Bool-set}
use Rattle.std.specs.List.{list_any, position_or_len, before_first, after_first}
use Rattle.mesh_text.specs.Bytes.{slash}
use Rattle.mesh_text.specs.Number.{decimal_of}
use Rattle.mesh_net.specs.declared.address.IpAddr.{IpAddr}
use Rattle.mesh_net.specs.declared.cidr.Cidr.{Cidr}
use Rattle.mesh_net.specs.Address.{ip_of, width, Spells}
use Rattle.mesh_net.specs.Block.{block_of, cut_block, is_slash, whole_block, SpellsBlock}
use Rattle.mesh_net.specs.Cidr.{block_where, block_with}
use Rattle.mesh_net.proofs.AddressLemmas.{reads, spells}
use Rattle.mesh_net.proofs.SlashLemmas.{address_clean, after_slash, before_slash, cut_at_slash, has_slash}

one_proof : (b : Bool) → IsProp (b ≡ true)
one_proof b = Bool-set b true

pub block_fits : (ip : IpAddr) (len : ℕ) (fits : nat_le len (width ip) ≡ true)
    → Some (record { addr = ip; len = len; fits = fits }) ≡ block_with ip len
block_fits ip len fits = go (nat_le len (width ip)) refl
  where
    go : (b : Bool) (e : nat_le len (width ip) ≡ b) → Some (record { addr = ip; len = len; fits = fits }) ≡ block_where ip len b e
    go true e = ap (λ (p : nat_le len (width ip) ≡ true). Some (record { addr = ip; len = len; fits = p })) (one_proof _ fits e)
    go false e = absurd (false≢true (sym e ∙ fits))

or_slash : (b found : Bool) (n m : ℕ) → (if b then 0 else (1 + n)) ≡ 1 + m → (n ≡ m → found ≡ false)
    → (b || found) ≡ false
or_slash true found n m e below = absurd (omega (arith, e))
or_slash false found n m e below = below (omega (arith, e))

pub no_slash : (xs : List ℕ) → position_or_len is_slash xs ≡ length xs → list_any is_slash xs ≡ false
no_slash [] e = refl
no_slash (x ∷ xs) e =
    or_slash (is_slash x) (list_any is_slash xs) (position_or_len is_slash xs) (length xs) (grind (arith, e)) (no_slash xs)

-- ---- the grammar

whole_reads : (text : List ℕ) (block : Cidr) → Spells text block.addr → block.len ≡ width block.addr → block_of text ≡ Some block
whole_reads text block spelled long =
    let clean : list_any is_slash text ≡ false = address_clean text block.addr spelled in
    let found : whole_block (ip_of text) ≡ Some block =
    ap whole_block (reads text block.addr spelled) ∙ ap (block_with block.addr) (sym long)
    ∙ sym (block_fits block.addr block.len block.fits) in
    rw clean found

cut_reads : (addr len : List ℕ) (block : Cidr) → Spells addr block.addr → decimal_of len ≡ Some block.len
    → block_of (addr ++ slash ∷ len) ≡ Some block
cut_reads addr len block spelled number =
    let clean : list_any is_slash addr ≡ false = address_clean addr block.addr spelled in
    let cut : list_any is_slash (addr ++ slash ∷ len) ≡ true = has_slash addr len in
    let front = ap ip_of (before_slash addr len clean) ∙ reads addr block.addr spelled in
    let back = ap decimal_of (after_slash addr len clean) ∙ number in
    let whole = whole_block (ip_of (addr ++ slash ∷ len)) in
    let text = addr ++ slash ∷ len in
    ap (λ b. if b then cut_block (ip_of (before_first is_slash text)) (decimal_of (after_first is_slash text)) else whole) cut
    ∙ ap (λ ip. cut_block ip (decimal_of (after_first is_slash text))) front
    ∙ ap (cut_block (Some block.addr)) back
    ∙ sym (block_fits block.addr block.len block.fits)

pub block_reads : (text : List ℕ) (block : Cidr) → SpellsBlock text block → block_of text ≡ Some block
block_reads text block spelled =
    elim spelled [
      | inl alone ↦ whole_reads text block alone.0 alone.1
      | inr cut ↦
          let split : text ≡ cut.0 ++ slash ∷ cut.1 = cut.2 ∙ append_assoc cut.0 (codes "/") cut.1 in
          ap block_of split ∙ cut_reads cut.0 cut.1 block cut.3 cut.4
    ]

block_parts : (ip : IpAddr) (len : ℕ) (b : Bool) (e : nat_le len (width ip) ≡ b) (block : Cidr)
    → block_where ip len b e ≡ Some block → (ip ≡ block.addr) × (len ≡ block.len)
block_parts ip len true e block h =
    let made : Cidr = record { addr = ip; len = len; fits = e } in
    let same : made ≡ block = cc in
    (ap (λ (c : Cidr). c.addr) same, ap (λ (c : Cidr). c.len) same)
block_parts ip len false e block h = absurd cc

whole_spells : (text : List ℕ) (block : Cidr) (found : Option IpAddr) → ip_of text ≡ found → whole_block found ≡ Some block
    → SpellsBlock text block
whole_spells text block None e h = absurd cc
whole_spells text block (Some ip) e h =
    let parts = block_parts ip (width ip) _ refl block h in
    inl (subst (Spells text) parts.0 (spells text ip e), sym parts.1 ∙ ap width parts.0)

cut_spells : (text addr len : List ℕ) (block : Cidr) (found : Option IpAddr) (number : Option ℕ) → text ≡ addr ++ slash ∷ len
    → ip_of addr ≡ found → decimal_of len ≡ number → cut_block found number ≡ Some block → SpellsBlock text block
cut_spells text addr len block None number split e f h = absurd cc
cut_spells text addr len block (Some ip) None split e f h = absurd cc
cut_spells text addr len block (Some ip) (Some n) split e f h =
    let parts = block_parts ip n _ refl block h in
    let joined : text ≡ addr ++ codes "/" ++ len = split ∙ sym (append_assoc addr (codes "/") len) in
    inr (addr, len, joined, subst (Spells addr) parts.0 (spells addr ip e), f ∙ ap Some parts.1)

block_spells : (text : List ℕ) (block : Cidr) → block_of text ≡ Some block → SpellsBlock text block
block_spells text block h = go (list_any is_slash text) refl h
  where
    cut : Option Cidr
    cut = cut_block (ip_of (before_first is_slash text)) (decimal_of (after_first is_slash text))

    go : (b : Bool) → list_any is_slash text ≡ b → (if b then cut else whole_block (ip_of text)) ≡ Some block → SpellsBlock text block
    go true cut_there e = cut_spells text _ _ block _ _ (cut_at_slash text cut_there) refl refl e
    go false none e = whole_spells text block _ refl e

pub spelled_if_some : (text : List ℕ) (r : Option Cidr) → r ≡ block_of text → IfSome r (SpellsBlock text)
spelled_if_some text None e = tt
spelled_if_some text (Some block) e = block_spells text block (sym e)
