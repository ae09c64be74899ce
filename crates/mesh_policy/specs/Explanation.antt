-- Which filter chain and which rules a verdict comes from. The names are those that Istio gives the policies of its
-- RBAC filters, as this project fixes them.
use Rattle.std.specs.Prelude.{ℕ, Bool, ◌||◌, List, [], ◌++◌, filter_map, flat_map, codes, decimal, Option, Some, None, if◌then◌else◌}
use Rattle.std.specs.List.{enumerate_from}
use Rattle.std.specs.Option.{option_map}
use Rattle.mesh_policy.specs.declared.case.Case.{Case}
use Rattle.mesh_policy.specs.declared.case.Tls.{Tls}
use Rattle.mesh_policy.specs.declared.peer.Mode.{Mode}
use Rattle.mesh_policy.specs.declared.peer.Mode.TheVariants.{Disable, Permissive, Strict}
use Rattle.mesh_policy.specs.declared.policy.Action.{Action}
use Rattle.mesh_policy.specs.declared.policy.Action.TheVariants.{Allow, Deny, Audit, Custom}
use Rattle.mesh_policy.specs.declared.policy.AuthorizationPolicy.{AuthorizationPolicy}
use Rattle.mesh_policy.specs.declared.service.Protocol.{Protocol}
use Rattle.mesh_policy.specs.declared.service.Protocol.TheVariants.{Http, Tcp}
use Rattle.mesh_policy.specs.declared.verdict.Verdict.{Verdict}
use Rattle.mesh_policy.specs.Attributes.{Seen}
use Rattle.mesh_policy.specs.Connection.{offers_mesh_name}
use Rattle.mesh_policy.specs.Lists.{least, text_before}
use Rattle.mesh_policy.specs.Verdicts.{Arrival, ends, arrives, arrival, custom_refuses, deny_refuses, holds_on, verdict_by}
use Rattle.mesh_policy.specs.Workload.{ListedPort, Workload, mode_of, port_at, protocol_of}

-- None prints as `-`.
pub record Explanation : Type 0 where
  pub chain : Option (List ℕ)
  pub custom : Option (List ℕ)
  pub audit : Option (List ℕ)
  pub deny : Option (List ℕ)
  pub allow : Option (List ℕ)
  pub verdict : Verdict

-- ---- the chain

-- TLS that is passed on unread has a chain on TCP ports alone
abbrev pub opaque_ending : Protocol → Option (List ℕ)
opaque_ending Tcp = Some (codes "-opaque")
opaque_ending Http = None

-- TLS that isn't looked at shares the chain of plaintext
abbrev pub disabled_ending : Protocol → Option (List ℕ)
disabled_ending Tcp = Some (codes "-plain")
disabled_ending Http = None

-- the ending for TLS, by the mode and what the port speaks
abbrev pub tls_ending : Mode → Protocol → Tls → Option (List ℕ)
tls_ending Strict protocol tls = Some (codes "-mtls")
tls_ending Permissive protocol tls = if offers_mesh_name tls then Some (codes "-mtls") else opaque_ending protocol
tls_ending Disable protocol tls = disabled_ending protocol

-- what the name of the chain ends with; none takes a connection that no chain matches
abbrev pub chain_ending : Mode → Protocol → Option Tls → Option (List ℕ)
chain_ending Strict protocol None = None
chain_ending Permissive protocol None = Some (codes "-plain")
chain_ending Disable protocol None = Some (codes "-plain")
chain_ending mode protocol (Some tls) = tls_ending mode protocol tls

-- `any` stands for the ports that are not listed
abbrev pub chain_front : Option ListedPort → List ℕ
chain_front None = codes "any"
chain_front (Some port) = decimal port.number

-- the name of the chain that takes a connection, where one does
abbrev pub chain_name : Workload → Case → Option (List ℕ)
chain_name workload case = option_map (λ ending. chain_front (port_at workload case.port) ++ ending)
    (chain_ending (mode_of workload case.port) (protocol_of workload case.port) case.tls)

-- ---- the rules

-- the names of CUSTOM rules have a front of their own
abbrev pub action_front : Action → List ℕ
action_front Allow = []
action_front Deny = []
action_front Audit = []
action_front Custom = codes "istio-ext-authz-"

-- `ns[NAMESPACE]-policy[NAME]-rule[INDEX]`, with the index from 0
abbrev pub rule_name : AuthorizationPolicy → ℕ → List ℕ
rule_name policy index =
    action_front policy.action ++ codes "ns[" ++ policy.namespace
    ++ codes "]-policy[" ++ policy.name ++ codes "]-rule[" ++ decimal index ++ codes "]"

-- the names of the rules of a policy that hold
abbrev pub holding_names : Protocol → Case → Seen → AuthorizationPolicy → List (List ℕ)
holding_names protocol case seen policy =
    filter_map (λ entry. if holds_on protocol case seen policy.action entry.1 then Some (rule_name policy entry.0) else None)
    (enumerate_from 0 policy.rules)

-- the least name, in byte order, of a rule that holds
abbrev pub least_name : Protocol → Case → Seen → List AuthorizationPolicy → Option (List ℕ)
least_name protocol case seen policies = least text_before (flat_map (holding_names protocol case seen) policies)

-- ---- the whole

-- a stage that a refusal hides has no name
abbrev pub unless : Bool → Option (List ℕ) → Option (List ℕ)
unless hidden name = if hidden then None else name

-- nothing but the chain where the policies are not asked; else the names of each stage as far as the verdict came
abbrev pub explanation_by : Workload → Case → Arrival → Explanation
explanation_by workload case (ends v) = record {
  chain = chain_name workload case;
  custom = None;
  audit = None;
  deny = None;
  allow = None;
  verdict = v;
}
explanation_by workload case (arrives protocol seen) = record {
  chain = chain_name workload case;
  custom = least_name protocol case seen workload.custom;
  audit = unless (custom_refuses workload protocol case seen) (least_name protocol case seen workload.audit);
  deny = unless (custom_refuses workload protocol case seen) (least_name protocol case seen workload.deny);
  allow = unless (custom_refuses workload protocol case seen || deny_refuses workload protocol case seen)
      (least_name protocol case seen workload.allow);
  verdict = verdict_by workload case (arrives protocol seen);
}

-- the explanation of the verdict of a workload for a case
unfoldable pub explanation_of : Workload → Case → Explanation
explanation_of workload case = explanation_by workload case (arrival workload case)
