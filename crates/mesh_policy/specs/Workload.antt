-- What selection gives for a Pod: its ports and their modes, and the policies that apply to it. The verdict, the
-- explanation and the listener read the manifests and the Pod through this record alone.
use Rattle.std.specs.Prelude.{◌≡◌, ℕ, ◌==◌, Bool, true, false, List, map, filter, find, flat_map, Option, unwrap_or}
use Rattle.std.specs.Option.{option_and_then, option_map}
use Rattle.std.specs.Str.{bytes_eq}
use Rattle.mesh_policy.specs.declared.bundle.Bundle.{Bundle}
use Rattle.mesh_policy.specs.declared.jwt.JwtRule.{JwtRule}
use Rattle.mesh_policy.specs.declared.peer.Mode.{Mode}
use Rattle.mesh_policy.specs.declared.pod.Pod.{Pod}
use Rattle.mesh_policy.specs.declared.policy.Action.{Action}
use Rattle.mesh_policy.specs.declared.policy.Action.TheVariants.{Allow, Deny, Audit, Custom}
use Rattle.mesh_policy.specs.declared.policy.AuthorizationPolicy.{AuthorizationPolicy}
use Rattle.mesh_policy.specs.declared.provider.Provider.{Provider}
use Rattle.mesh_policy.specs.declared.service.Protocol.{Protocol}
use Rattle.mesh_policy.specs.declared.service.Protocol.TheVariants.{Tcp}
use Rattle.mesh_policy.specs.Applying.{authorization_of, requests_of}
use Rattle.mesh_policy.specs.Lists.{first_answer}
use Rattle.mesh_policy.specs.Modes as modes
use Rattle.mesh_policy.specs.Ports as ports

-- a port that has a say of its own
pub record ListedPort : Type 0 where
  pub number : ℕ
  pub protocol : Protocol
  pub mode : Mode

-- what selection answers for a Pod
pub record Workload : Type 0 where
  -- ascending
  pub ports : List ListedPort
  -- of every other port, which is a TCP port
  pub other_mode : Mode
  -- by namespace, then by name
  pub allow : List AuthorizationPolicy
  pub deny : List AuthorizationPolicy
  pub audit : List AuthorizationPolicy
  pub custom : List AuthorizationPolicy
  -- of the policies in that order, each with its rules in order
  pub jwt_rules : List JwtRule
  -- the authorizer that the CUSTOM policies name
  pub provider : Option Provider

-- the same action
abbrev pub is_action : Action → Action → Bool
is_action Allow Allow = true
is_action Deny Deny = true
is_action Audit Audit = true
is_action Custom Custom = true
is_action _ _ = false

-- the policies of one action that apply
abbrev pub policies_of : Action → Bundle → Pod → List AuthorizationPolicy
policies_of action bundle pod = filter (λ policy. is_action action policy.action) (authorization_of bundle pod)

-- the rules of the RequestAuthentications that apply, in order
abbrev pub jwt_rules_of : Bundle → Pod → List JwtRule
jwt_rules_of bundle pod = flat_map (λ policy. policy.rules) (requests_of bundle pod)

-- the authorizer of a name
abbrev pub provider_named : Bundle → List ℕ → Option Provider
provider_named bundle name = find (λ provider. bytes_eq provider.name name) bundle.mesh.providers

-- the authorizer that the first CUSTOM policy names; all name one, where the Pod is not refused
abbrev pub provider_of : Bundle → Pod → Option Provider
provider_of bundle pod =
    option_and_then (provider_named bundle) (first_answer (λ policy. policy.provider) (policies_of Custom bundle pod))

-- a listed port
abbrev pub port_of : Bundle → Pod → ℕ → ListedPort
port_of bundle pod number =
    record { number = number; protocol = ports.protocol_at bundle pod number; mode = modes.mode_at bundle pod number }

-- the workload of a Pod among these manifests
unfoldable pub workload_of : Bundle → Pod → Workload
workload_of bundle pod = record {
  ports = map (port_of bundle pod) (ports.listed bundle pod);
  other_mode = modes.other_mode bundle pod;
  allow = policies_of Allow bundle pod;
  deny = policies_of Deny bundle pod;
  audit = policies_of Audit bundle pod;
  custom = policies_of Custom bundle pod;
  jwt_rules = jwt_rules_of bundle pod;
  provider = provider_of bundle pod;
}

-- ---- what a workload says of its ports

-- the listed port of a number
abbrev pub port_at : Workload → ℕ → Option ListedPort
port_at workload number = find (λ port. port.number == number) workload.ports

-- the mode of a port
abbrev pub mode_of : Workload → ℕ → Mode
mode_of workload number = unwrap_or (option_map (λ port. port.mode) (port_at workload number)) workload.other_mode

-- what a port speaks
abbrev pub protocol_of : Workload → ℕ → Protocol
protocol_of workload number = unwrap_or (option_map (λ port. port.protocol) (port_at workload number)) Tcp

-- the numbers of the listed ports
abbrev pub listed_of : Workload → List ℕ
listed_of workload = map (λ port. port.number) workload.ports

-- the policies of an action
abbrev pub with_action : Workload → Action → List AuthorizationPolicy
with_action workload Allow = workload.allow
with_action workload Deny = workload.deny
with_action workload Audit = workload.audit
with_action workload Custom = workload.custom

-- it says of each port, listed or not, what the manifests do
pub record TellsPorts (bundle : Bundle) (pod : Pod) : Type 0 where
  pub modes : (port : ℕ) → mode_of (workload_of bundle pod) port ≡ modes.mode_at bundle pod port
  pub protocols : (port : ℕ) → protocol_of (workload_of bundle pod) port ≡ ports.protocol_at bundle pod port
  pub numbers : listed_of (workload_of bundle pod) ≡ ports.listed bundle pod

-- of each Pod
abbrev pub WorkloadTellsPorts : Type 0
WorkloadTellsPorts = (bundle : Bundle) (pod : Pod) → TellsPorts bundle pod
