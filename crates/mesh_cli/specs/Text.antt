-- The text of a workload's listener.
use Rattle.std.specs.Prelude.{ℕ, List}
use Rattle.serde_json.specs.Written.{compact_text}
use Rattle.mesh_policy.specs.Workload.{Workload}
use Rattle.envoy_types.specs.ListenerForms.{listener_written}
use Rattle.chain_build.specs.Listener.{built}

-- compact JSON
unfoldable pub listener_text : Workload → List ℕ
listener_text workload = compact_text (listener_written (built workload))
