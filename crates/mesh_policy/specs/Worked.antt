-- Worked cases of the meaning: one Pod, policies for its ports, and connections to it.
use Rattle.std.specs.Prelude.{ℕ, false, List, [], ◌∷◌, Option, Some, None, codes, map}
use Rattle.mesh_net.specs.declared.address.IpAddr.TheVariants.{V4}
use Rattle.mesh_policy.specs.Applying.{root_namespace}
use Rattle.mesh_policy.specs.Verdicts.{verdict_of}
use Rattle.mesh_policy.specs.Workload.{workload_of}
use Rattle.mesh_policy.specs.declared.bundle.Bundle.{Bundle}
use Rattle.mesh_policy.specs.declared.case.Case.{Case}
use Rattle.mesh_policy.specs.declared.case.Tls.{Tls}
use Rattle.mesh_policy.specs.declared.pod.Pod.{Pod}
use Rattle.mesh_policy.specs.declared.policy.Action.TheVariants as action
use Rattle.mesh_policy.specs.declared.policy.AuthorizationPolicy.{AuthorizationPolicy}
use Rattle.mesh_policy.specs.declared.policy.OperationSpec.{OperationSpec}
use Rattle.mesh_policy.specs.declared.policy.Rule.{Rule}
use Rattle.mesh_policy.specs.declared.verdict.Outcome.TheVariants as outcome
use Rattle.mesh_policy.specs.declared.verdict.Verdict.{Verdict}

-- ---- the Pod and its policies

abbrev pub web : Pod
web = record { name = codes "web"; namespace = codes "foo"; labels = []; ports = [] }

-- an operation on these ports alone
abbrev pub on_ports : List ℕ → OperationSpec
on_ports ports = record {
  hosts = [];
  not_hosts = [];
  ports = ports;
  not_ports = [];
  methods = [];
  not_methods = [];
  paths = [];
  not_paths = [];
}

-- a rule of one operation, and one without any
abbrev pub for_port : ℕ → Rule
for_port port = record { sources = []; operations = on_ports (port ∷ []) ∷ []; conditions = [] }

abbrev pub always : Rule
always = record { sources = []; operations = []; conditions = [] }

-- one ALLOW policy of this namespace for every Pod there
abbrev pub policy : List ℕ → List Rule → List AuthorizationPolicy
policy namespace rules = record {
  name = codes "a";
  namespace = namespace;
  labels = [];
  action = action.Allow;
  provider = None;
  rules = rules;
} ∷ []

-- and one with a rule for each of these ports
abbrev pub allow : List ℕ → List ℕ → List AuthorizationPolicy
allow namespace ports = policy namespace (map for_port ports)

abbrev pub manifests : List AuthorizationPolicy → Bundle
manifests policies = record {
  pods = web ∷ [];
  services = [];
  authorization = policies;
  peers = [];
  requests = [];
  mesh = record { root = root_namespace; providers = [] };
  mesh_items = 0;
  others = 0;
}

-- ---- connections from 10.0.0.1 to 10.0.0.9

abbrev pub connection : ℕ → Option Tls → Case
connection port tls = record {
  source = V4 167772161;
  remote = V4 167772161;
  destination = V4 167772169;
  port = port;
  tls = tls;
  request = None;
  verdicts = [];
  answers = [];
}

-- TLS that offers these application protocols, by a client that shows a certificate of the mesh, or none
abbrev pub with_peer : List (List ℕ) → Option Tls
with_peer names = Some (record { peer = Some (codes "spiffe://cluster.local/ns/foo/sa/a"); sni = None; alpn = names })

abbrev pub without_peer : List (List ℕ) → Option Tls
without_peer names = Some (record { peer = None; sni = None; alpn = names })

-- ---- verdicts

abbrev pub admitted : Verdict
admitted = record { outcome = outcome.Admitted; audited = false }

abbrev pub closed : Verdict
closed = record { outcome = outcome.Closed; audited = false }

-- the verdict of a connection under these policies
abbrev pub verdict : List AuthorizationPolicy → ℕ → Option Tls → Verdict
verdict policies port tls = verdict_of (workload_of (manifests policies) web) (connection port tls)
