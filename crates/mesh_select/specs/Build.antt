-- The ports of a workload by what was found.
use Rattle.std.specs.Prelude.{ℕ, List, if◌then◌else◌}
use Rattle.std.specs.BTreeMap.{is_at}
use Rattle.std.specs.List.{list_any}
use Rattle.std.specs.Option.{option_and_then}
use Rattle.std.specs.Ordering.{nat_cmp}
use Rattle.mesh_policy.specs.Modes.{port_mode}
use Rattle.mesh_policy.specs.Workload.{ListedPort}
use Rattle.mesh_policy.specs.declared.service.Protocol.{Protocol}
use Rattle.mesh_policy.specs.declared.service.Protocol.TheVariants.{Http, Tcp}
use Rattle.mesh_select.specs.Modes.{Levels, mode_from}

-- what a listed port speaks: HTTP where a Service says so, else TCP (Istio, "Protocol Selection")
abbrev pub protocol_in : List ℕ → ℕ → Protocol
protocol_in http number = if list_any (is_at (nat_cmp number)) http then Http else Tcp

-- A listed port with what it speaks and its mutual TLS mode: that of the workload's policy for this port, or the first that
-- is set for all ports (Istio reference, PeerAuthentication: `portLevelMtls`, `mtls`).
abbrev pub port_with : List ℕ → Levels → ℕ → ListedPort
port_with http levels number = record {
  number = number;
  protocol = protocol_in http number;
  mode = mode_from (option_and_then (port_mode number) levels.workload) levels;
}
