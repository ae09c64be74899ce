-- The rules of an AuthorizationPolicy without fault are accepted.
use Rattle.std.proofs.Common.{◌≡◌, ℕ, ◌+◌, ◌<◌, ◌==◌, ◌&&◌, Bool, true, false, not, List, length, refl}
use Rattle.std.proofs.Common.{sym, arith, Option, None, Some, is_some, unwrap_or, IsTrue, subst, ◌⊎◌, inl, inr}
use Rattle.std.proofs.lemmas.Bool.{and_cases, and_from, eqb-false, not-true}
use Rattle.serde_json.specs.Data.{Data}
use Rattle.mesh_doc.proofs.NoFault as no_fault
use Rattle.mesh_doc.proofs.NoFault.{Ensures, ◌⨾⨾◌, earlier, later, passed, strict_object}
use Rattle.mesh_doc.specs.Faults.{Check, first}
use Rattle.mesh_doc.specs.Fields.{required_in}
use Rattle.mesh_doc.specs.Kinds.{text_in}
use Rattle.mesh_doc.specs.Lists.{listed, listed_in}
use Rattle.mesh_doc.specs.Places.{Steps}
use Rattle.mesh_doc.specs.declared.reason.Reason.TheVariants as reason
use Rattle.mesh_net.proofs.BlockLemmas.{spelled_if_some}
use Rattle.mesh_net.specs.Block.{block_of}
use Rattle.mesh_net.specs.declared.cidr.Cidr.{Cidr}
use Rattle.mesh_policy.proofs.Addresses.{spelled-block}
use Rattle.mesh_policy.specs.AcceptedLists.{AcceptedList}
use Rattle.mesh_policy.specs.AcceptedRules.{AcceptedCondition, AcceptedOperation, AcceptedRule, AcceptedSource, is_value_of}
use Rattle.mesh_policy.specs.Values.{has_few_slashes, is_block, is_path, is_path_value, is_port, is_request_principal, is_short}
use Rattle.policy_json.proofs.AcceptedKeys.{IsKey, key_ensures}
use Rattle.policy_json.proofs.PortTexts.{port_there}
use Rattle.policy_json.specs.BothListed.{both_listed, both_listed_in}
use Rattle.policy_json.specs.ConditionKeys.{key_in}
use Rattle.policy_json.specs.Conditions.{both_faults, both_in, condition_faults, condition_in, has_entries, values_faults, values_in}
use Rattle.policy_json.specs.Operations.{operation_faults, operation_in}
use Rattle.policy_json.specs.Ports.{port_of}
use Rattle.policy_json.specs.Rules.{from_faults, from_in, rule_faults, rule_in, to_faults, to_in}
use Rattle.policy_json.specs.Sources.{source_faults, source_in}
use Rattle.policy_json.specs.Texts.{short_text_faults}
use Rattle.policy_json.specs.Values.{any_block, block_faults, block_in, path_faults, port_value_faults, port_value_in, request_principal_faults}
use Rattle.policy_json.specs.declared.both_listed.ValueLists.{ValueLists}
use Rattle.policy_json.specs.declared.condition_keys.ConditionKey.{ConditionKey}
use Rattle.policy_json.specs.declared.condition_keys.ConditionKey.TheVariants as key
use Rattle.policy_json.specs.declared.conditions.TheConstants.{KEY, NOT_VALUES, VALUES}
use Rattle.policy_json.specs.declared.operations.TheConstants.{HOSTS, METHODS, NOT_HOSTS, NOT_METHODS, NOT_PATHS, NOT_PORTS, PATHS, PORTS}
use Rattle.policy_json.specs.declared.rules.TheConstants.{FROM, OPERATION, SOURCE, TO, WHEN}
use Rattle.policy_json.specs.declared.sources.TheConstants.{IP_BLOCKS, NAMESPACES, NOT_IP_BLOCKS, NOT_NAMESPACES}
use Rattle.policy_json.specs.declared.sources.TheConstants.{NOT_PRINCIPALS, NOT_REMOTE_IP_BLOCKS}
use Rattle.policy_json.specs.declared.sources.TheConstants.{NOT_REQUEST_PRINCIPALS, PRINCIPALS, REMOTE_IP_BLOCKS}
use Rattle.policy_json.specs.declared.sources.TheConstants.{REQUEST_PRINCIPALS}

-- ---- lists

-- a list of a manifest
pub entries : {A : Type 0} {f : Check} {value : Data → A} {P : A → Type 0} (name : List ℕ) → Ensures f value P
    → Ensures (listed name 2048 f) (listed_in name value) (AcceptedList P)
entries name e = record {
  holds = λ d at h. let each =
      (no_fault.listed name 2048 e).holds d at h in record { few = each.few; each = each.each };
}

-- both lists
record AcceptedLists {A : Type 0} (P : A → Type 0) (lists : ValueLists A) : Type 0 where
  values : AcceptedList P lists.values
  not_values : AcceptedList P lists.not_values

both_entries : {A : Type 0} {f : Check} {value : Data → A} {P : A → Type 0} (name not_name : List ℕ) → Ensures f value P
    → Ensures (both_listed name not_name f) (both_listed_in name not_name value) (AcceptedLists P)
unfolding both_listed
both_entries name not_name e = record {
  holds = λ d at h. record {
    values = (entries name e).holds d at (earlier _ _ h);
    not_values = (entries not_name e).holds d at (later _ _ h);
  };
}

-- ---- values

pub short_ensures : Ensures short_text_faults text_in (λ t. IsTrue (is_short t))
short_ensures = no_fault.tested is_short reason.BadValue

port_ensures : Ensures port_value_faults port_value_in (λ n. IsTrue (is_port n))
unfolding port_value_faults port_value_in
port_ensures = record {
  holds = λ d at h. (port_there (text_in d) (port_of (text_in d)) refl (passed (is_some (port_of
      (text_in d))) _ at (later _ _ h))).1;
}

block_there : (text : List ℕ) (found : Option Cidr) → found ≡ block_of text → IsTrue (is_block (unwrap_or found any_block))
block_there text None e = refl
block_there text (Some block) e = spelled-block text block (spelled_if_some text (Some block) e)

block_ensures : Ensures block_faults block_in (λ block. IsTrue (is_block block))
unfolding block_in
block_ensures = record { holds = λ d at h. block_there (text_in d) (block_of (text_in d)) refl }

principal_ensures : Ensures request_principal_faults text_in (λ t. IsTrue (is_request_principal t))
unfolding request_principal_faults
principal_ensures = record {
  holds = λ d at h. and_from _ _ (short_ensures.holds d at (earlier _ _ h)) (passed (has_few_slashes
      (text_in d)) _ at (later _ _ h));
}

path_ensures : Ensures path_faults text_in (λ t. IsTrue (is_path_value t))
unfolding path_faults
path_ensures = record {
  holds = λ d at h. and_from _ _ (short_ensures.holds d at (earlier _ _ h)) (passed (is_path
      (text_in d)) _ at (later _ _ h));
}

-- ---- sources and operations

source_ensures : Ensures source_faults source_in AcceptedSource
unfolding source_faults source_in
source_ensures = strict_object _ (record {
  holds = λ d at h.
      let lists = (both_entries PRINCIPALS.now NOT_PRINCIPALS.now short_ensures
      ⨾⨾ both_entries REQUEST_PRINCIPALS.now NOT_REQUEST_PRINCIPALS.now principal_ensures
      ⨾⨾ both_entries NAMESPACES.now NOT_NAMESPACES.now short_ensures
      ⨾⨾ both_entries IP_BLOCKS.now NOT_IP_BLOCKS.now block_ensures
      ⨾⨾ both_entries REMOTE_IP_BLOCKS.now NOT_REMOTE_IP_BLOCKS.now block_ensures).holds d at h in
      record {
        principals = lists.0.values;
        not_principals = lists.0.not_values;
        request_principals = lists.1.0.values;
        not_request_principals = lists.1.0.not_values;
        namespaces = lists.1.1.0.values;
        not_namespaces = lists.1.1.0.not_values;
        ip_blocks = lists.1.1.1.0.values;
        not_ip_blocks = lists.1.1.1.0.not_values;
        remote_ip_blocks = lists.1.1.1.1.values;
        not_remote_ip_blocks = lists.1.1.1.1.not_values;
      };
})

operation_ensures : Ensures operation_faults operation_in AcceptedOperation
unfolding operation_faults operation_in
operation_ensures = strict_object _ (record {
  holds = λ d at h.
      let lists = (both_entries HOSTS.now NOT_HOSTS.now short_ensures
      ⨾⨾ both_entries PORTS.now NOT_PORTS.now port_ensures
      ⨾⨾ both_entries METHODS.now NOT_METHODS.now short_ensures
      ⨾⨾ both_entries PATHS.now NOT_PATHS.now path_ensures).holds d at h in
      record {
        hosts = lists.0.values;
        not_hosts = lists.0.not_values;
        ports = lists.1.0.values;
        not_ports = lists.1.0.not_values;
        methods = lists.1.1.0.values;
        not_methods = lists.1.1.0.not_values;
        paths = lists.1.1.1.values;
        not_paths = lists.1.1.1.not_values;
      };
})

-- ---- conditions

some_entry : (m n : ℕ) → not ((m == 0) && (n == 0)) ≡ true → 0 < m + n
some_entry m n h = some_of (and_cases (m == 0) (n == 0) (not-true _ h))
  where
    some_of : (m == 0 ≡ false) ⊎ (n == 0 ≡ false) → 0 < m + n
    some_of (inl e) = let some = eqb-false m 0 e in grind (arith, some)
    some_of (inr e) = let some = eqb-false n 0 e in grind (arith, some)

-- both lists of a condition
record AcceptedBoth {A : Type 0} (value : Data → A) (P : A → Type 0) (d : Data) : Type 0 where
  lists : AcceptedLists P (both_in value d)
  written : 0 < length (listed_in VALUES.now value d) + length (listed_in NOT_VALUES.now value d)

both_accepted : {A : Type 0} {f : Check} {value : Data → A} {P : A → Type 0} → Ensures f value P → (d : Data) (at : Steps)
    → first (both_faults f value d at) ≡ None → AcceptedBoth value P d
unfolding both_faults
both_accepted {value = value} e d at h = record {
  lists = (both_entries VALUES.now NOT_VALUES.now e).holds d at (earlier _ _ h);
  written = some_entry _ _ (passed (has_entries value d) _ at (later _ _ h));
}

values_accepted : (k : ConditionKey) → IsKey k → (d : Data) (at : Steps) → first (values_faults k d at) ≡ None
    → AcceptedCondition (values_in k d)
values_accepted (key.Words word) is d at h =
    let both = both_accepted short_ensures d at h in
    let form : (xs : List (List ℕ)) → AcceptedList (λ t. IsTrue (is_short t)) xs → AcceptedList (λ t. IsTrue (is_value_of word t)) xs
    = λ xs each. subst (λ (test : List ℕ → Bool). AcceptedList (λ t. IsTrue (test t)) xs) (sym is.values) each in
    record { key = is.form; values = form _ both.lists.values; not_values = form _ both.lists.not_values; written = both.written }
values_accepted key.Principals is d at h =
    let both = both_accepted principal_ensures d at h in
    record { key = refl; values = both.lists.values; not_values = both.lists.not_values; written = both.written }
values_accepted (key.Blocks address) is d at h =
    let both = both_accepted block_ensures d at h in
    record { values = both.lists.values; not_values = both.lists.not_values; written = both.written }
values_accepted key.Ports is d at h =
    let both = both_accepted port_ensures d at h in
    record { values = both.lists.values; not_values = both.lists.not_values; written = both.written }

condition_ensures : Ensures condition_faults condition_in AcceptedCondition
unfolding condition_faults condition_in
condition_ensures = strict_object _ (record {
  holds = λ d at h.
      values_accepted (required_in KEY.now key_in d) ((no_fault.required KEY.now key_ensures).holds d at (earlier _ _ h)) d at
      (later _ _ h);
})

-- ---- rules

from_ensures : Ensures from_faults from_in AcceptedSource
unfolding from_faults from_in
from_ensures = strict_object _ (no_fault.or_empty SOURCE.now source_ensures)

to_ensures : Ensures to_faults to_in AcceptedOperation
unfolding to_faults to_in
to_ensures = strict_object _ (no_fault.or_empty OPERATION.now operation_ensures)

pub rule_ensures : Ensures rule_faults rule_in AcceptedRule
unfolding rule_faults rule_in
rule_ensures = strict_object _ (record {
  holds = λ d at h.
      let parts = (entries FROM.now from_ensures ⨾⨾ entries TO.now to_ensures ⨾⨾ entries WHEN.now condition_ensures).holds d at h in
      record { sources = parts.0; operations = parts.1.0; conditions = parts.1.1 };
})
