-- What a port reads of a rule is accepted as the rule is, and no larger.
use Rattle.std.proofs.Common.{◌≤◌, Bool, true, false, not, All, List, [], ◌∷◌, filter, map, arith, if◌then◌else◌}
use Rattle.std.proofs.lemmas.List.Elements.{All-filter, All-map, All-nil}
use Rattle.mesh_policy.specs.AcceptedLists.{AcceptedList}
use Rattle.mesh_policy.specs.AcceptedRules.{AcceptedCondition, AcceptedOperation, AcceptedRule, AcceptedSource}
use Rattle.mesh_policy.specs.RuleHolds.{condition_needs_http, operation_without_http, source_without_http}
use Rattle.mesh_policy.specs.Sizes.{condition_size, operation_size, rule_size, source_size}
use Rattle.mesh_policy.specs.Sizes as sizes
use Rattle.mesh_policy.specs.declared.condition.Condition.{Condition}
use Rattle.mesh_policy.specs.declared.policy.OperationSpec.{OperationSpec}
use Rattle.mesh_policy.specs.declared.policy.Rule.{Rule}
use Rattle.mesh_policy.specs.declared.policy.SourceSpec.{SourceSpec}
use Rattle.mesh_policy.specs.declared.service.Protocol.{Protocol}
use Rattle.mesh_policy.specs.declared.service.Protocol.TheVariants.{Http, Tcp}
use Rattle.authz_gen.specs.Policies.{rule_on}
use Rattle.authz_gen.proofs.Small.{IsSmall}

-- ---- sizes

-- at most as many values and entries
record IsNoLarger (part whole : sizes.Size) : Type 0 where
  values : part.values ≤ whole.values
  entries : part.entries ≤ whole.entries

module _ {A : Type 0} (size : A → sizes.Size) where
  abbrev sum : List A → sizes.Size
  sum xs = sizes.sum_of (map size xs)

  -- entries of which each is read without something
  read-size : (read : A → A) → ((x : A) → IsNoLarger (size (read x)) (size x)) → (xs : List A) → IsNoLarger (sum (map read xs)) (sum xs)
  read-size read each [] = record { values = omega arith; entries = omega arith }
  read-size read each (x ∷ xs) =
      let first = each x in
      let rest = read-size read each xs in
      record { values = omega (arith, first.values, rest.values); entries = omega (arith, first.entries, rest.entries) }

  -- some of the entries
  kept-size : (keep : A → Bool) (xs : List A) → IsNoLarger (sum (filter keep xs)) (sum xs)
  kept-size keep [] = record { values = omega arith; entries = omega arith }
  kept-size keep (x ∷ xs) = at (keep x) (kept-size keep xs) where
    at : (b : Bool) → IsNoLarger (sum (filter keep xs)) (sum xs)
        → IsNoLarger (sum (if b then x ∷ filter keep xs else filter keep xs)) (sum (x ∷ xs))
    at true h = record { values = omega (arith, h.values); entries = omega (arith, h.entries) }
    at false h = record { values = omega (arith, h.values); entries = omega (arith, h.entries) }

source-size : (s : SourceSpec) → IsNoLarger (source_size (source_without_http s)) (source_size s)
source-size s = record { values = omega arith; entries = omega arith }

operation-size : (o : OperationSpec) → IsNoLarger (operation_size (operation_without_http o)) (operation_size o)
operation-size o = record { values = omega arith; entries = omega arith }

-- ---- accepted parts

nothing : {A : Type 0} (Accepted : A → Type 0) → AcceptedList Accepted []
nothing Accepted = record { few = omega arith; each = All-nil Accepted }

source-read : (s : SourceSpec) → AcceptedSource s → AcceptedSource (source_without_http s)
source-read s h = record {
  principals = h.principals;
  not_principals = h.not_principals;
  request_principals = nothing _;
  not_request_principals = nothing _;
  namespaces = h.namespaces;
  not_namespaces = h.not_namespaces;
  ip_blocks = h.ip_blocks;
  not_ip_blocks = h.not_ip_blocks;
  remote_ip_blocks = h.remote_ip_blocks;
  not_remote_ip_blocks = h.not_remote_ip_blocks;
}

operation-read : (o : OperationSpec) → AcceptedOperation o → AcceptedOperation (operation_without_http o)
operation-read o h = record {
  hosts = nothing _;
  not_hosts = nothing _;
  ports = h.ports;
  not_ports = h.not_ports;
  methods = nothing _;
  not_methods = nothing _;
  paths = nothing _;
  not_paths = nothing _;
}

-- entries of which each is read without something
read-accepted : {A : Type 0} (Accepted : A → Type 0) (read : A → A) → ((x : A) → Accepted x → Accepted (read x)) → (xs : List A)
    → All Accepted xs → All Accepted (map read xs)
read-accepted Accepted read each xs h = All-map Accepted read xs (λ k d within. each _ (h k d within))

-- ---- rules

-- a rule of accepted parts within the limits of a workload
pub record IsFit (rule : Rule) : Type 0 where
  pub sources : All AcceptedSource rule.sources
  pub operations : All AcceptedOperation rule.operations
  pub conditions : All AcceptedCondition rule.conditions
  pub small : IsSmall (rule_size rule)

pub fit-on : (protocol : Protocol) (rule : Rule) → AcceptedRule rule → IsSmall (rule_size rule) → IsFit (rule_on protocol rule)
fit-on Http rule h small =
    record { sources = h.sources.each; operations = h.operations.each; conditions = h.conditions.each; small = small }
fit-on Tcp rule h small =
    let keep : Condition → Bool = λ condition. not (condition_needs_http condition) in
    let sources = read-size source_size source_without_http source-size rule.sources in
    let operations = read-size operation_size operation_without_http operation-size rule.operations in
    let conditions = kept-size condition_size keep rule.conditions in
    record {
      sources = read-accepted AcceptedSource source_without_http source-read rule.sources h.sources.each;
      operations = read-accepted AcceptedOperation operation_without_http operation-read rule.operations h.operations.each;
      conditions = All-filter keep AcceptedCondition rule.conditions h.conditions.each;
      small = record {
        values = omega (arith, small.values, sources.values, operations.values, conditions.values);
        entries = omega (arith, small.entries, sources.entries, operations.entries, conditions.entries);
      };
    }
