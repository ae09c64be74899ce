-- The `spec` of a PeerAuthentication (Istio reference, PeerAuthentication).
use Rattle.std.specs.Prelude.{ℕ, List, [], ◌∷◌, Option, Some, None, is_some, unwrap_or, if◌then◌else◌}
use Rattle.std.specs.Str.{bytes_eq}
use Rattle.serde_json.specs.Data.{Data}
use Rattle.mesh_doc.specs.Faults.{Check, ◌⨾◌, ◌▸◌, demands}
use Rattle.mesh_doc.specs.Fields.{strict, optional, optional_in, spec_of, unless_null}
use Rattle.mesh_doc.specs.Kinds.{text_faults, text_in}
use Rattle.mesh_doc.specs.Maps.{map_of, map_in}
use Rattle.mesh_doc.specs.declared.reason.Reason.TheVariants as reason
use Rattle.mesh_policy.specs.declared.peer.Mode.{Mode}
use Rattle.mesh_policy.specs.declared.peer.Mode.TheVariants as mode
use Rattle.mesh_policy.specs.declared.peer.PeerAuthentication.{PeerAuthentication}
use Rattle.mesh_policy.specs.declared.peer.PortMode.{PortMode}
use Rattle.policy_json.specs.Labels.{selector_faults, selector_in}
use Rattle.policy_json.specs.Ports.{port_of}
use Rattle.policy_json.specs.declared.labels.TheConstants.{SELECTOR}
use Rattle.policy_json.specs.declared.peer.TheConstants.{MTLS, PORT_LEVEL_MTLS, MODE, UNSET, DISABLE, PERMISSIVE, STRICT}

-- ---- the mode

-- MutualTLS.Mode, by its words; UNSET is none of them, and leaves it to the wider policy
abbrev pub mode_of : List ℕ → Option (Option Mode)
mode_of word =
    if bytes_eq word UNSET.now then Some None
    else if bytes_eq word DISABLE.now then Some (Some mode.Disable)
    else if bytes_eq word PERMISSIVE.now then Some (Some mode.Permissive)
    else if bytes_eq word STRICT.now then Some (Some mode.Strict)
    else None

-- a text that is one of the words
unfoldable pub mode_faults : Check
mode_faults = text_faults ▸ demands (λ d. is_some (mode_of (text_in d))) reason.BadEnum

-- the mode of the word
unfoldable pub mode_in : Data → Option Mode
mode_in d = unwrap_or (mode_of (text_in d)) None

-- MutualTLS
unfoldable pub mtls_faults : Check
mtls_faults = strict (MODE.now ∷ []) (optional MODE.now mode_faults)

-- the mode, UNSET where none is written
unfoldable pub mtls_in : Data → Option Mode
mtls_in d = unwrap_or (optional_in MODE.now mode_in d) None

-- ---- single ports

-- an entry of `portLevelMtls`: a port, and a MutualTLS, for which `null` is the empty object
unfoldable pub port_faults : List ℕ → Check
port_faults key = demands (λ d. is_some (port_of key)) reason.BadPort ⨾ λ d at. mtls_faults (spec_of (unless_null d)) at

-- the mode of the port
unfoldable pub port_in : List ℕ → Data → PortMode
port_in key d = record { port = unwrap_or (port_of key) 0; mode = mtls_in (spec_of (unless_null d)) }

-- `portLevelMtls`: an object whose keys are ports
unfoldable pub ports_faults : Check
ports_faults = map_of port_faults

-- the modes of the ports, each key once
unfoldable pub ports_in : Data → List PortMode
ports_in = map_in port_in

-- ---- the whole

-- what can be wrong with a PeerAuthentication
unfoldable pub peer_faults : Check
peer_faults = strict (SELECTOR.now ∷ MTLS.now ∷ PORT_LEVEL_MTLS.now ∷ [])
    (optional SELECTOR.now selector_faults
    ⨾ optional MTLS.now mtls_faults
    ⨾ optional PORT_LEVEL_MTLS.now ports_faults)

-- PeerAuthentication
unfoldable pub peer_in : List ℕ → List ℕ → Option (List ℕ) → Data → PeerAuthentication
peer_in name namespace age d = record {
  name = name;
  namespace = namespace;
  age = age;
  labels = unwrap_or (optional_in SELECTOR.now selector_in d) [];
  mode = unwrap_or (optional_in MTLS.now mtls_in d) None;
  ports = unwrap_or (optional_in PORT_LEVEL_MTLS.now ports_in d) [];
}
