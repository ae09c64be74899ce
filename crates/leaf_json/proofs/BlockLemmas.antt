-- A block of an address and a length is there exactly where the length fits.
use Rattle.std.proofs.Common.{◌≡◌, ℕ, Bool, true, false, nat_le, Some, None, refl, sym}
use Rattle.std.proofs.lemmas.Option.{none-some}
use Rattle.mesh_net.specs.Address.{width}
use Rattle.mesh_net.specs.Cidr.{block_where, block_with}
use Rattle.mesh_net.specs.declared.address.IpAddr.{IpAddr}
use Rattle.mesh_net.specs.declared.cidr.Cidr.{Cidr}

some-where : (ip : IpAddr) (len : ℕ) (b : Bool) (is : nat_le len (width ip) ≡ b) (block : Cidr)
    → block_where ip len b is ≡ Some block → b ≡ true
some-where ip len true is block h = refl
some-where ip len false is block h = absurd (none-some block h)

none-where : (ip : IpAddr) (len : ℕ) (b : Bool) (is : nat_le len (width ip) ≡ b) → block_where ip len b is ≡ None → b ≡ false
none-where ip len true is h = absurd (none-some _ (sym h))
none-where ip len false is h = refl

pub fits_where_some : (ip : IpAddr) (len : ℕ) (block : Cidr) → block_with ip len ≡ Some block → nat_le len (width ip) ≡ true
fits_where_some ip len block h = some-where ip len (nat_le len (width ip)) refl block h

pub longer_where_none : (ip : IpAddr) (len : ℕ) → block_with ip len ≡ None → nat_le len (width ip) ≡ false
longer_where_none ip len h = none-where ip len (nat_le len (width ip)) refl h
