-- When a rule of a policy holds (Istio reference, "Authorization Policy": Rule, Source, Operation and Condition;
-- "Authorization Policy Conditions"; on TCP ports the Istio task "Authorization for TCP traffic").
use Rattle.std.specs.Prelude.{ℕ, ◌==◌, Bool, true, false, not, ◌&&◌, ◌||◌, List, [], length, map, filter, if◌then◌else◌}
use Rattle.std.specs.List.{list_all, list_any}
use Rattle.mesh_net.specs.declared.address.IpAddr.{IpAddr}
use Rattle.mesh_net.specs.declared.cidr.Cidr.{Cidr}
use Rattle.mesh_net.specs.Cidr.{in_network}
use Rattle.mesh_policy.specs.declared.case.Case.{Case}
use Rattle.mesh_policy.specs.declared.condition.BlockKey.{BlockKey}
use Rattle.mesh_policy.specs.declared.condition.BlockKey.TheVariants.{SourceIp, RemoteIp, DestinationIp}
use Rattle.mesh_policy.specs.declared.condition.Condition.{Condition}
use Rattle.mesh_policy.specs.declared.condition.Condition.TheVariants.{Words, Blocks, Ports}
use Rattle.mesh_policy.specs.declared.condition.TextKey.{TextKey}
use Rattle.mesh_policy.specs.declared.condition.TextKey.TheVariants.{SourcePrincipal, SourceNamespace, Sni, Header, AuthPrincipal, Audiences, Presenter, Claim}
use Rattle.mesh_policy.specs.declared.policy.Action.{Action}
use Rattle.mesh_policy.specs.declared.policy.Action.TheVariants.{Allow, Deny, Audit, Custom}
use Rattle.mesh_policy.specs.declared.policy.OperationSpec.{OperationSpec}
use Rattle.mesh_policy.specs.declared.policy.Rule.{Rule}
use Rattle.mesh_policy.specs.declared.policy.SourceSpec.{SourceSpec}
use Rattle.mesh_policy.specs.Attributes as key
use Rattle.mesh_policy.specs.Attributes.{Attribute, Key, Seen, absent, text, texts, address, port, attribute}
use Rattle.mesh_policy.specs.Pattern.{pattern_of, pattern_holds, pattern_holds_folded}
use Rattle.mesh_policy.specs.Template.{is_template, template_holds, uri_of}

-- ---- when an entry of a list matches an attribute

-- of a list of texts one has to match, and nothing matches what isn't there
abbrev pub text_matches : (List ℕ → Bool) → Attribute → Bool
text_matches holds absent = false
text_matches holds (text t) = holds t
text_matches holds (texts ts) = list_any holds ts
text_matches holds (address ip) = false
text_matches holds (port number) = false

-- a test of an address
abbrev pub address_matches : (IpAddr → Bool) → Attribute → Bool
address_matches holds absent = false
address_matches holds (text t) = false
address_matches holds (texts ts) = false
address_matches holds (address ip) = holds ip
address_matches holds (port number) = false

-- a test of a port
abbrev pub port_matches : (ℕ → Bool) → Attribute → Bool
port_matches holds absent = false
port_matches holds (text t) = false
port_matches holds (texts ts) = false
port_matches holds (address ip) = false
port_matches holds (port number) = holds number

-- a string form
abbrev pub value_matches : Attribute → List ℕ → Bool
value_matches a value = text_matches (pattern_holds (pattern_of value)) a

-- the same without regard to ASCII case
abbrev pub host_matches : Attribute → List ℕ → Bool
host_matches a value = text_matches (pattern_holds_folded (pattern_of value)) a

-- a template, or a string form
abbrev pub path_matches : Attribute → List ℕ → Bool
path_matches a value = text_matches (if is_template value then template_holds (uri_of value) else pattern_holds (pattern_of value)) a

-- a block that the address lies in
abbrev pub block_matches : Attribute → Cidr → Bool
block_matches a block = address_matches (in_network block.addr block.len) a

-- the same port
abbrev pub number_matches : Attribute → ℕ → Bool
number_matches a number = port_matches (λ n. number == n) a

-- ---- lists

-- a list holds where nothing is written, or one entry matches
abbrev pub one_of : {A : Type 0} → (A → Bool) → List A → Bool
one_of matches entries = (length entries == 0) || list_any matches entries

-- a negative list holds where no entry matches
abbrev pub none_of : {A : Type 0} → (A → Bool) → List A → Bool
none_of matches entries = not (list_any matches entries)

-- a list and the negative list beside it
abbrev pub both_hold : {A : Type 0} → (A → Bool) → List A → List A → Bool
both_hold matches entries not_entries = one_of matches entries && none_of matches not_entries

-- ---- sources, operations and conditions

-- all lists of a source hold (Istio reference, Source)
abbrev pub source_holds : Case → Seen → SourceSpec → Bool
source_holds case seen source =
    both_hold (value_matches (attribute case seen key.source_principal)) source.principals source.not_principals
    && both_hold (value_matches (attribute case seen key.request_principal)) source.request_principals source.not_request_principals
    && both_hold (value_matches (attribute case seen key.source_namespace)) source.namespaces source.not_namespaces
    && both_hold (block_matches (attribute case seen key.source_ip)) source.ip_blocks source.not_ip_blocks
    && both_hold (block_matches (attribute case seen key.remote_ip)) source.remote_ip_blocks source.not_remote_ip_blocks

-- all lists of an operation hold (Istio reference, Operation)
abbrev pub operation_holds : Case → Seen → OperationSpec → Bool
operation_holds case seen operation =
    both_hold (host_matches (attribute case seen key.host)) operation.hosts operation.not_hosts
    && both_hold (number_matches (attribute case seen key.destination_port)) operation.ports operation.not_ports
    && both_hold (value_matches (attribute case seen key.method)) operation.methods operation.not_methods
    && both_hold (path_matches (attribute case seen key.path)) operation.paths operation.not_paths

-- the attribute of a key of a condition
abbrev pub text_key : TextKey → Key
text_key SourcePrincipal = key.source_principal
text_key SourceNamespace = key.source_namespace
text_key Sni = key.server_name
text_key (Header name) = key.header name
text_key AuthPrincipal = key.request_principal
text_key Audiences = key.audiences
text_key Presenter = key.presenter
text_key (Claim names) = key.claim names

-- the attribute of a key that is an address
abbrev pub block_key : BlockKey → Key
block_key SourceIp = key.source_ip
block_key RemoteIp = key.remote_ip
block_key DestinationIp = key.destination_ip

-- both lists of a condition hold for the attribute of its key (Istio reference, Condition)
abbrev pub condition_holds : Case → Seen → Condition → Bool
condition_holds case seen (Words name values not_values) =
    both_hold (value_matches (attribute case seen (text_key name))) values not_values
condition_holds case seen (Blocks name values not_values) =
    both_hold (block_matches (attribute case seen (block_key name))) values not_values
condition_holds case seen (Ports values not_values) =
    both_hold (number_matches (attribute case seen key.destination_port)) values not_values

-- ---- rules

-- one source, one operation and all conditions hold; a part that isn't written holds
unfoldable pub rule_holds : Case → Seen → Rule → Bool
rule_holds case seen rule =
    one_of (source_holds case seen) rule.sources && one_of (operation_holds case seen) rule.operations
    && list_all (condition_holds case seen) rule.conditions

-- ---- on TCP ports

-- a field with an entry
abbrev pub is_written : {A : Type 0} → List A → Bool
is_written entries = not (length entries == 0)

-- the fields that only a request has
abbrev pub source_needs_http : SourceSpec → Bool
source_needs_http source = is_written source.request_principals || is_written source.not_request_principals

-- hosts, methods and paths, and their negative lists
abbrev pub operation_needs_http : OperationSpec → Bool
operation_needs_http operation =
    is_written operation.hosts || is_written operation.not_hosts || is_written operation.methods || is_written operation.not_methods
    || is_written operation.paths || is_written operation.not_paths

-- the keys that only a request has: `request.headers[..]` and `request.auth.*`
abbrev pub key_needs_http : TextKey → Bool
key_needs_http SourcePrincipal = false
key_needs_http SourceNamespace = false
key_needs_http Sni = false
key_needs_http (Header name) = true
key_needs_http AuthPrincipal = true
key_needs_http Audiences = true
key_needs_http Presenter = true
key_needs_http (Claim names) = true

-- a condition on such a key
abbrev pub condition_needs_http : Condition → Bool
condition_needs_http (Words key values not_values) = key_needs_http key
condition_needs_http (Blocks key values not_values) = false
condition_needs_http (Ports values not_values) = false

-- a rule with such a field or key
abbrev pub needs_http : Rule → Bool
needs_http rule =
    list_any source_needs_http rule.sources || list_any operation_needs_http rule.operations
    || list_any condition_needs_http rule.conditions

-- the rule as if they were not written; a source or an operation that is left with nothing holds
abbrev pub source_without_http : SourceSpec → SourceSpec
source_without_http source = record source { request_principals = []; not_request_principals = [] }

-- an operation by its ports alone
abbrev pub operation_without_http : OperationSpec → OperationSpec
operation_without_http operation =
    record operation { hosts = []; not_hosts = []; methods = []; not_methods = []; paths = []; not_paths = [] }

-- a rule by its other fields and conditions
abbrev pub without_http : Rule → Rule
without_http rule = record {
  sources = map source_without_http rule.sources;
  operations = map operation_without_http rule.operations;
  conditions = filter (λ condition. not (condition_needs_http condition)) rule.conditions;
}

-- the action ALLOW
abbrev pub is_allow : Action → Bool
is_allow Allow = true
is_allow Deny = false
is_allow Audit = false
is_allow Custom = false

-- A rule of ALLOW that asks for something of a request never holds. One of another action is read without it.
unfoldable pub rule_holds_tcp : Case → Seen → Action → Rule → Bool
rule_holds_tcp case seen action rule = not (is_allow action && needs_http rule) && rule_holds case seen (without_http rule)
