use Rattle.std.proofs.Common.{◌≡◌, drop, filter, map}
use Rattle.std.specs.List.{list_any}
use Rattle.std.specs.Option.{option_copied}
use Rattle.std.specs.Str.{bytes_eq}
use Rattle.mesh_policy.specs.Lists.{least, text_before}
use Rattle.mesh_select.specs.Least.{least_from}
use Rattle.mesh_select.proofs.texts.least_within.Given as goal

abbrev pub invariant-loop-text : goal.invariant-loop-text
invariant-loop-text l =
    least_from text_before (option_copied l.found)
    (filter (λ text. list_any (bytes_eq text) (map (λ t. t.now) l.set.keys)) (map (λ t. t.now) (drop l.text-index l.texts)))
    ≡ least text_before (filter (λ text. list_any (bytes_eq text) (map (λ t. t.now) l.set.keys)) (map (λ t. t.now) l.texts))
