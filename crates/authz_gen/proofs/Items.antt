-- An item of a list is as all its items are.
use Rattle.std.proofs.Common.{◌≡◌, ℕ, ◌<◌, All, List, get_or, length, subst, sym}

pub item-is : {A : Type 0} (P : A → Type 0) (xs : List A) (i : ℕ) (x : A) → All P xs → i < length xs → x ≡ get_or xs i x → P x
item-is P xs i x all within is = subst P (sym is) (all i x within)
