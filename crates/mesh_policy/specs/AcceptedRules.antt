-- AuthorizationPolicies that are accepted (Istio reference, "Authorization Policy", "Authorization Policy Conditions").
use Rattle.std.specs.Prelude.{ℕ, ◌+◌, ◌<◌, Bool, true, ◌&&◌, IsTrue, nat_le, List, [], ◌∷◌, length}
use Rattle.std.specs.List.{list_all}
use Rattle.std.specs.Option.{ForSome}
use Rattle.mesh_net.specs.declared.cidr.Cidr.{Cidr}
use Rattle.mesh_policy.specs.AcceptedLists.{AcceptedLabels, AcceptedList, AcceptedValues}
use Rattle.mesh_policy.specs.Values.{belongs, is_block, is_claim_name, is_lower_name, is_path_value, is_port, is_request_principal, is_short}
use Rattle.mesh_policy.specs.declared.condition.Condition.{Condition}
use Rattle.mesh_policy.specs.declared.condition.Condition.TheVariants as condition
use Rattle.mesh_policy.specs.declared.condition.TextKey.{TextKey}
use Rattle.mesh_policy.specs.declared.condition.TextKey.TheVariants as key
use Rattle.mesh_policy.specs.declared.policy.AuthorizationPolicy.{AuthorizationPolicy}
use Rattle.mesh_policy.specs.declared.policy.OperationSpec.{OperationSpec}
use Rattle.mesh_policy.specs.declared.policy.Rule.{Rule}
use Rattle.mesh_policy.specs.declared.policy.SourceSpec.{SourceSpec}
use Rattle.mesh_text.specs.Dns.{is_label, is_subdomain}
use Rattle.mesh_text.specs.Token.{is_token}

-- ---- sources and operations

pub record AcceptedSource (source : SourceSpec) : Type 0 where
  pub principals : AcceptedValues is_short source.principals
  pub not_principals : AcceptedValues is_short source.not_principals
  pub request_principals : AcceptedValues is_request_principal source.request_principals
  pub not_request_principals : AcceptedValues is_request_principal source.not_request_principals
  pub namespaces : AcceptedValues is_short source.namespaces
  pub not_namespaces : AcceptedValues is_short source.not_namespaces
  pub ip_blocks : AcceptedValues is_block source.ip_blocks
  pub not_ip_blocks : AcceptedValues is_block source.not_ip_blocks
  pub remote_ip_blocks : AcceptedValues is_block source.remote_ip_blocks
  pub not_remote_ip_blocks : AcceptedValues is_block source.not_remote_ip_blocks

pub record AcceptedOperation (operation : OperationSpec) : Type 0 where
  pub hosts : AcceptedValues is_short operation.hosts
  pub not_hosts : AcceptedValues is_short operation.not_hosts
  pub ports : AcceptedValues is_port operation.ports
  pub not_ports : AcceptedValues is_port operation.not_ports
  pub methods : AcceptedValues is_short operation.methods
  pub not_methods : AcceptedValues is_short operation.not_methods
  pub paths : AcceptedValues is_path_value operation.paths
  pub not_paths : AcceptedValues is_path_value operation.not_paths

-- ---- conditions

-- the bytes of names, each in brackets
abbrev pub bracketed_len : List (List ℕ) → ℕ
bracketed_len [] = 0
bracketed_len (name ∷ names) = length name + 2 + bracketed_len names

-- A key of at most 1,024 bytes. `request.headers[` and `]` stand round the name of a header, 17 bytes; the names of
-- claims, one at least, stand in brackets behind `request.auth.claims`, 19 bytes.
abbrev pub is_text_key : TextKey → Bool
is_text_key key.SourcePrincipal = true
is_text_key key.SourceNamespace = true
is_text_key key.Sni = true
is_text_key (key.Header name) = is_lower_name name && nat_le (17 + length name) 1024
is_text_key key.AuthPrincipal = true
is_text_key key.Audiences = true
is_text_key key.Presenter = true
is_text_key (key.Claim names) = nat_le 1 (length names) && list_all is_claim_name names && nat_le (19 + bracketed_len names) 1024

-- the form of the values of a key
abbrev pub is_value_of : TextKey → List ℕ → Bool
is_value_of key.SourcePrincipal = is_short
is_value_of key.SourceNamespace = is_short
is_value_of key.Sni = is_short
is_value_of (key.Header name) = is_short
is_value_of key.AuthPrincipal = is_request_principal
is_value_of key.Audiences = is_short
is_value_of key.Presenter = is_short
is_value_of (key.Claim names) = is_short

pub record AcceptedWords (attribute : TextKey) (words not_words : List (List ℕ)) : Type 0 where
  pub key : IsTrue (is_text_key attribute)
  pub values : AcceptedValues (is_value_of attribute) words
  pub not_values : AcceptedValues (is_value_of attribute) not_words
  -- one list at least has an entry
  pub written : 0 < length words + length not_words

pub record AcceptedBlockLists (blocks not_blocks : List Cidr) : Type 0 where
  pub values : AcceptedValues is_block blocks
  pub not_values : AcceptedValues is_block not_blocks
  pub written : 0 < length blocks + length not_blocks

pub record AcceptedPortLists (ports not_ports : List ℕ) : Type 0 where
  pub values : AcceptedValues is_port ports
  pub not_values : AcceptedValues is_port not_ports
  pub written : 0 < length ports + length not_ports

abbrev pub AcceptedCondition : Condition → Type 0
AcceptedCondition (condition.Words key values not_values) = AcceptedWords key values not_values
AcceptedCondition (condition.Blocks key values not_values) = AcceptedBlockLists values not_values
AcceptedCondition (condition.Ports values not_values) = AcceptedPortLists values not_values

-- ---- rules and policies

pub record AcceptedRule (rule : Rule) : Type 0 where
  pub sources : AcceptedList AcceptedSource rule.sources
  pub operations : AcceptedList AcceptedOperation rule.operations
  pub conditions : AcceptedList AcceptedCondition rule.conditions

pub record AcceptedPolicy (policy : AuthorizationPolicy) : Type 0 where
  pub name : IsTrue (is_subdomain policy.name)
  pub namespace : IsTrue (is_label policy.namespace)
  pub labels : AcceptedLabels policy.labels
  pub provider : ForSome policy.provider (λ provider. IsTrue (is_token provider))
  -- a provider exactly where the action is CUSTOM
  pub provider_rule : IsTrue (belongs policy.action policy.provider)
  pub rules : AcceptedList AcceptedRule policy.rules
