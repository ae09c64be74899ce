-- The values are those of `payload` and of the first keys.
use Rattle.std.proofs.Common.{◌≡◌, ◌∷◌, map, take}
use Rattle.serde_json.specs.View.{view}
use Rattle.envoy_types.specs.ValueForms.{segment_written}
use Rattle.envoy_types.specs.declared.fixed.TheConstants.{PAYLOAD}
use Rattle.leaf_json.proofs.values.path_value.Given as goal

abbrev pub invariant-loop-key : goal.invariant-loop-key
invariant-loop-key l = map view l.values.items ≡ map segment_written (PAYLOAD.now ∷ take l.key-index l.keys)
