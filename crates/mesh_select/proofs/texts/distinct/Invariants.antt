use Rattle.std.proofs.Common.{◌≡◌, drop, map}
use Rattle.std.specs.BTreeSet.{insert_key}
use Rattle.std.specs.List.{fold}
use Rattle.mesh_policy.specs.Lists.{distinct_texts, text_cmp}
use Rattle.mesh_select.proofs.texts.distinct.Given as goal

abbrev pub invariant-loop-text : goal.invariant-loop-text
invariant-loop-text l =
    fold (insert_key text_cmp) (map (λ t. t.now) l.set.keys) (map (λ t. t.now) (drop l.text-index l.texts))
    ≡ distinct_texts (map (λ t. t.now) l.texts)
