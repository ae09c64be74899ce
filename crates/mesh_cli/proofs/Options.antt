-- Small laws of options.
use Rattle.std.proofs.Common.{◌≡◌, Some}

pub some-same : {A : Type 0} (x y : A) → Some x ≡ Some y → x ≡ y
some-same x y h = cc
