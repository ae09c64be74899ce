-- The values are those of the first names.
use Rattle.std.proofs.Common.{◌≡◌, map, take}
use Rattle.serde_json.specs.View.{view}
use Rattle.envoy_types.specs.JwtForms as form
use Rattle.listener_writer.proofs.jwt.provider_names.Given as goal

abbrev pub invariant-loop-name : goal.invariant-loop-name
invariant-loop-name l = map view l.values.items ≡ map form.provider_name_written (take l.name-index l.names)
