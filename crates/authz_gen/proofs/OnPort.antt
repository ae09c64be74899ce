-- What the functions make of a rule is what the rule gives as a port reads it.
use Rattle.std.proofs.Common.{◌≡◌, Bool, true, false, List, [], ◌∷◌, ◌++◌, cond, filter, map, if◌then◌else◌, refl, sym, ap, ap₂}
use Rattle.std.proofs.lemmas.Simd.{map-map}
use Rattle.std.specs.List.{flat_map}
use Rattle.mesh_policy.specs.RuleHolds.{operation_without_http, source_without_http}
use Rattle.mesh_policy.specs.declared.condition.Condition.{Condition}
use Rattle.mesh_policy.specs.declared.policy.Rule.{Rule}
use Rattle.mesh_policy.specs.declared.service.Protocol.{Protocol}
use Rattle.mesh_policy.specs.declared.service.Protocol.TheVariants.{Http, Tcp}
use Rattle.mesh_tree.specs.Joined.{or_of}
use Rattle.authz_gen.specs.Conditions.{permission_of, principal_by}
use Rattle.authz_gen.specs.Lists.{all_of, if_any}
use Rattle.authz_gen.specs.Operations.{operation_for, operation_tree}
use Rattle.authz_gen.specs.Policies.{rule_on}
use Rattle.authz_gen.specs.Rules.{is_tested, of_tested, permission_tree, principal_tree}
use Rattle.authz_gen.specs.Sources.{source_tree}

flat_map-kept : {A B : Type 0} (f : A → List B) (keep : A → Bool) (xs : List A)
    → flat_map (λ x. if keep x then f x else []) xs ≡ flat_map f (filter keep xs)
flat_map-kept f keep [] = refl
flat_map-kept {A} {B} f keep (x ∷ xs) = at (keep x) (flat_map-kept f keep xs) where
  at : (b : Bool) → flat_map (λ y. if keep y then f y else []) xs ≡ flat_map f (filter keep xs)
      → (if b then f x else []) ++ flat_map (λ y. if keep y then f y else []) xs ≡ flat_map f (cond b (x ∷ filter keep xs) (filter keep xs))
  at true rest = ap (λ ys. f x ++ ys) rest
  at false rest = rest

operations-on : (protocol : Protocol) (rule : Rule)
    → map (operation_for protocol) rule.operations ≡ map operation_tree (rule_on protocol rule).operations
operations-on Http rule = refl
operations-on Tcp rule = sym (map-map operation_tree operation_without_http rule.operations)

sources-on : (protocol : Protocol) (rule : Rule) → map source_tree rule.sources ≡ map source_tree (rule_on protocol rule).sources
unfolding source_tree
sources-on Http rule = refl
sources-on Tcp rule = sym (map-map source_tree source_without_http rule.sources)

conditions-on : {A : Type 0} (trees : Condition → List A) (protocol : Protocol) (rule : Rule)
    → flat_map (of_tested trees protocol) rule.conditions ≡ flat_map trees (rule_on protocol rule).conditions
conditions-on trees Http rule = refl
conditions-on trees Tcp rule = flat_map-kept trees (is_tested Tcp) rule.conditions

pub permission_made : (protocol : Protocol) (rule : Rule)
    → all_of (if_any or_of (map (operation_for protocol) rule.operations)
    ++ flat_map (of_tested permission_of protocol) rule.conditions) ≡ permission_tree (rule_on protocol rule)
unfolding permission_tree
permission_made protocol rule =
    ap₂ (λ os cs. all_of (if_any or_of os ++ cs)) (operations-on protocol rule) (conditions-on permission_of protocol rule)

pub principal_made : (protocol : Protocol) (rule : Rule)
    → all_of (if_any or_of (map source_tree rule.sources) ++ flat_map (of_tested principal_by protocol) rule.conditions)
    ≡ principal_tree (rule_on protocol rule)
unfolding principal_tree
principal_made protocol rule =
    ap₂ (λ ss cs. all_of (if_any or_of ss ++ cs)) (sources-on protocol rule) (conditions-on principal_by protocol rule)
