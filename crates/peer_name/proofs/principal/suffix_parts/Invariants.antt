-- The parts so far, with those of the ends that are left, are the parts of all ends.
use Rattle.std.proofs.Common.{◌≡◌, ◌∷◌, ◌++◌, drop, map}
use Rattle.std.specs.List.{flat_map}
use Rattle.envoy_types.specs.declared.strings.MatchKind.TheVariants as MatchKind
use Rattle.peer_name.specs.Principal as meaning
use Rattle.peer_name.proofs.principal.suffix_parts.Given as goal

abbrev pub invariant-loop-end : goal.invariant-loop-end
invariant-loop-end l =
    l.parts ++ flat_map (meaning.all_but_shorter l.suffix) (map (λ n. n.now) (drop l.end-index l.end-items))
    ≡ meaning.named MatchKind.Suffix l.suffix ∷ flat_map (meaning.all_but_shorter l.suffix) meaning.scheme_ends
