-- How much the policies of one workload hold: match values and where tokens may stand, entries of lists, and bytes of
-- texts. The limits are this project's own.
use Rattle.std.specs.Prelude.{ℕ, ◌+◌, ◌==◌, nat_lt, Bool, ◌||◌, List, [], ◌∷◌, length, map, count_by}
use Rattle.mesh_text.specs.Bytes.{slash}
use Rattle.mesh_policy.specs.declared.condition.Condition.{Condition}
use Rattle.mesh_policy.specs.declared.condition.Condition.TheVariants.{Words, Blocks, Ports}
use Rattle.mesh_policy.specs.declared.condition.TextKey.{TextKey}
use Rattle.mesh_policy.specs.declared.condition.TextKey.TheVariants.{SourcePrincipal, SourceNamespace, Sni, Header, AuthPrincipal, Audiences, Presenter, Claim}
use Rattle.mesh_policy.specs.declared.jwt.JwtRule.{JwtRule}
use Rattle.mesh_policy.specs.declared.jwt.TokenPlace.{TokenPlace}
use Rattle.mesh_policy.specs.declared.jwt.TokenPlace.TheVariants.{Header as InHeader, Param}
use Rattle.mesh_policy.specs.declared.policy.AuthorizationPolicy.{AuthorizationPolicy}
use Rattle.mesh_policy.specs.declared.policy.OperationSpec.{OperationSpec}
use Rattle.mesh_policy.specs.declared.policy.Rule.{Rule}
use Rattle.mesh_policy.specs.declared.policy.SourceSpec.{SourceSpec}
use Rattle.mesh_policy.specs.Authenticated.{text_of}

-- values, entries and bytes
pub record Size : Type 0 where
  pub values : ℕ
  pub entries : ℕ
  pub bytes : ℕ

-- the sums of some sizes
abbrev pub sum_of : List Size → Size
sum_of [] = record { values = 0; entries = 0; bytes = 0 }
sum_of (part ∷ parts) = record {
  values = part.values + (sum_of parts).values;
  entries = part.entries + (sum_of parts).entries;
  bytes = part.bytes + (sum_of parts).bytes;
}

-- one entry of a list of rules, sources, operations, conditions or rules of tokens
abbrev pub one_entry : Size
one_entry = record { values = 0; entries = 1; bytes = 0 }

-- a text that is no value
abbrev pub text_size : List ℕ → Size
text_size t = record { values = 0; entries = 0; bytes = length t }

-- a value of its own
abbrev pub value_size : List ℕ → Size
value_size value = record { values = 1; entries = 0; bytes = length value }

-- one more for each '/', at which issuer and subject may part
abbrev pub principal_size : List ℕ → Size
principal_size value = record { values = 1 + count_by (λ c. c == slash) value; entries = 0; bytes = length value }

-- values, each as it is written
abbrev pub texts_size : List (List ℕ) → Size
texts_size values = sum_of (map value_size values)

-- values for request principals
abbrev pub principals_size : List (List ℕ) → Size
principals_size values = sum_of (map principal_size values)

-- blocks and ports have no bytes
abbrev pub plain_size : {A : Type 0} → List A → Size
plain_size values = record { values = length values; entries = 0; bytes = 0 }

-- a source with the values of all its lists
abbrev pub source_size : SourceSpec → Size
source_size source = sum_of (one_entry
    ∷ texts_size source.principals ∷ texts_size source.not_principals
    ∷ principals_size source.request_principals ∷ principals_size source.not_request_principals
    ∷ texts_size source.namespaces ∷ texts_size source.not_namespaces
    ∷ plain_size source.ip_blocks ∷ plain_size source.not_ip_blocks
    ∷ plain_size source.remote_ip_blocks ∷ plain_size source.not_remote_ip_blocks ∷ [])

-- an operation with the values of all its lists
abbrev pub operation_size : OperationSpec → Size
operation_size operation = sum_of (one_entry
    ∷ texts_size operation.hosts ∷ texts_size operation.not_hosts
    ∷ plain_size operation.ports ∷ plain_size operation.not_ports
    ∷ texts_size operation.methods ∷ texts_size operation.not_methods
    ∷ texts_size operation.paths ∷ texts_size operation.not_paths ∷ [])

-- the values of a condition by its key, and the names in the key
abbrev pub words_size : TextKey → List (List ℕ) → Size
words_size SourcePrincipal values = texts_size values
words_size SourceNamespace values = texts_size values
words_size Sni values = texts_size values
words_size (Header name) values = texts_size values
words_size AuthPrincipal values = principals_size values
words_size Audiences values = texts_size values
words_size Presenter values = texts_size values
words_size (Claim names) values = texts_size values

-- the bytes of a header, or of the names of a claim, in a key
abbrev pub key_size : TextKey → Size
key_size SourcePrincipal = text_size []
key_size SourceNamespace = text_size []
key_size Sni = text_size []
key_size (Header name) = text_size name
key_size AuthPrincipal = text_size []
key_size Audiences = text_size []
key_size Presenter = text_size []
key_size (Claim names) = sum_of (map text_size names)

-- a condition with its key and the values of both lists
abbrev pub condition_size : Condition → Size
condition_size (Words key values not_values) = sum_of (one_entry ∷ key_size key ∷ words_size key values ∷ words_size key not_values ∷ [])
condition_size (Blocks key values not_values) = sum_of (one_entry ∷ plain_size values ∷ plain_size not_values ∷ [])
condition_size (Ports values not_values) = sum_of (one_entry ∷ plain_size values ∷ plain_size not_values ∷ [])

-- a rule with its sources, operations and conditions
abbrev pub rule_size : Rule → Size
rule_size rule = sum_of (one_entry
    ∷ sum_of (map source_size rule.sources)
    ∷ sum_of (map operation_size rule.operations)
    ∷ sum_of (map condition_size rule.conditions) ∷ [])

-- the rules of a policy
abbrev pub policy_size : AuthorizationPolicy → Size
policy_size policy = sum_of (map rule_size policy.rules)

-- a place is a value, with the bytes of its name and its prefix
abbrev pub place_size : TokenPlace → Size
place_size (InHeader name prefix) = record { values = 1; entries = 0; bytes = length name + length prefix }
place_size (Param name) = value_size name

-- the name of the header for the payload counts nothing
abbrev pub jwt_rule_size : JwtRule → Size
jwt_rule_size rule = sum_of (one_entry
    ∷ text_size rule.issuer ∷ texts_size rule.audiences ∷ text_size (text_of rule.keys)
    ∷ sum_of (map place_size rule.places) ∷ [])

-- policies and rules for tokens together
unfoldable pub size_of : List AuthorizationPolicy → List JwtRule → Size
size_of policies rules = sum_of (sum_of (map policy_size policies) ∷ sum_of (map jwt_rule_size rules) ∷ [])

-- 2,048 values, 1,024 entries and 65,536 bytes are the most
abbrev pub is_over_limit : Size → Bool
is_over_limit size = nat_lt 2048 size.values || nat_lt 1024 size.entries || nat_lt 65536 size.bytes
