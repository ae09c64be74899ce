-- So far as many are there as of the first names.
use Rattle.std.proofs.Common.{◌≡◌, ◌+◌, ◌≤◌, map, drop}
use Rattle.serde_json.specs.View.{view}
use Rattle.envoy_types.specs.SmallForms.{count_written}
use Rattle.leaf_json.proofs.alternatives.count_written.Given as goal

abbrev pub invariant-loop-name : goal.invariant-loop-name
invariant-loop-name l = record {
  sum :
      l.count + count_written (map (λ name. name.now) (drop l.name-index l.names)) (view l.v)
      ≡ count_written (map (λ name. name.now) l.names) (view l.v);
  bound : l.count ≤ l.name-index;
}
