-- What two writes did together.
use Rattle.std.proofs.Common.{ℕ, ◌+◌, ◌≤◌, List, ◌++◌, length, take, sym, subst, arith}
use Rattle.std.proofs.KnownBytes.{Appends-trans}
use Rattle.std.proofs.lemmas.List.{length-append}
use Rattle.std.proofs.Math.Seq.{take-append-add}
use Rattle.mesh_edge.specs.Sink.{KnownSink, Adds, AddsFront}

-- all of the first piece, and then a front of the second
pub front-then : (a b c : KnownSink) (xs ys : List ℕ) → Adds a b xs → AddsFront b c ys → AddsFront a c (xs ++ ys)
front-then a b c xs ys whole (n, fits, taken) =
    let within : length xs + n ≤ length (xs ++ ys) = omega (arith, length-append xs ys) in
    let P : List ℕ → Type 0 = Adds a c in
    (length xs + n, within, subst P (sym (take-append-add xs ys n)) (Appends-trans a.taken b.taken c.taken xs (take n ys) whole taken))
