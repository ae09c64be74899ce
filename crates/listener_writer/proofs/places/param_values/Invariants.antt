-- The values are those of the parameters among the first places.
use Rattle.std.proofs.Common.{◌≡◌, map, take}
use Rattle.std.specs.List.{filter_map}
use Rattle.serde_json.specs.Data.{string}
use Rattle.serde_json.specs.View.{view}
use Rattle.envoy_types.specs.ProviderForms as form
use Rattle.listener_writer.proofs.places.param_values.Given as goal

abbrev pub invariant-loop-place : goal.invariant-loop-place
invariant-loop-place l = map view l.values.items ≡ map string (filter_map form.param_of (take l.place-index l.places))
