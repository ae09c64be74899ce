-- What a port reads of a rule asks for no token, and for a path only of a request that is seen.
use Rattle.std.proofs.Common.{◌≡◌, Bool, true, false, not, ◌||◌, All, List, filter, get_or, refl, sym, ◌∙◌, arith}
use Rattle.std.proofs.lemmas.Bool.{false_from_ne_true, not-true}
use Rattle.std.proofs.lemmas.List.Elements.{All-filter, All-map, filter_passes}
use Rattle.std.proofs.lemmas.List.Folds.{list_any_at}
use Rattle.std.specs.List.{list_any}
use Rattle.mesh_policy.specs.AcceptedRules.{AcceptedCondition, AcceptedRule}
use Rattle.mesh_policy.specs.Attributes.{Seen}
use Rattle.mesh_policy.specs.RuleHolds.{condition_needs_http, operation_without_http, source_needs_http, source_without_http}
use Rattle.mesh_policy.specs.declared.case.Case.{Case}
use Rattle.mesh_policy.specs.declared.condition.Condition.{Condition}
use Rattle.mesh_policy.specs.declared.condition.Condition.TheVariants.{Words, Blocks, Ports}
use Rattle.mesh_policy.specs.declared.condition.TextKey.TheVariants.{SourcePrincipal, SourceNamespace, Sni, Header, AuthPrincipal}
use Rattle.mesh_policy.specs.declared.condition.TextKey.TheVariants.{Audiences, Presenter, Claim}
use Rattle.mesh_policy.specs.declared.policy.AuthorizationPolicy.{AuthorizationPolicy}
use Rattle.mesh_policy.specs.declared.policy.Rule.{Rule}
use Rattle.mesh_policy.specs.declared.service.Protocol.{Protocol}
use Rattle.mesh_policy.specs.declared.service.Protocol.TheVariants.{Http, Tcp}
use Rattle.str_match.proofs.PathsHold.{path-holds}
use Rattle.authz_gen.specs.Policies.{AreToldOn, IsJudgedOn, condition_needs_token, needs_token, rule_on}
use Rattle.authz_gen.proofs.ConditionsHold.{IsPlain}
use Rattle.authz_gen.proofs.OperationsHold.{HasToldPaths}

none-passes : {A : Type 0} (test : A → Bool) (xs : List A) → list_any test xs ≡ false → All (λ x. test x ≡ false) xs
none-passes test xs none = λ k d within. false_from_ne_true (test (get_or xs k d)) (λ e.
    let wrong : true ≡ false = sym (list_any_at test xs k d within e) ∙ none in
    absurd cc)

neither : (a b : Bool) → (a || b) ≡ false → (a ≡ false) × (b ≡ false)
neither true b none = absurd cc
neither false b none = (refl, none)

-- what asks for nothing of a request asks for no token
no-token : (c : Condition) → not (condition_needs_http c) ≡ true → condition_needs_token c ≡ false
no-token (Words SourcePrincipal values not_values) plain = refl
no-token (Words SourceNamespace values not_values) plain = refl
no-token (Words Sni values not_values) plain = refl
no-token (Words (Header name) values not_values) plain = refl
no-token (Words AuthPrincipal values not_values) plain = sym plain
no-token (Words Audiences values not_values) plain = sym plain
no-token (Words Presenter values not_values) plain = sym plain
no-token (Words (Claim names) values not_values) plain = sym plain
no-token (Blocks key values not_values) plain = refl
no-token (Ports values not_values) plain = refl

-- ---- a rule that is told

-- on an HTTP port one that asks for no token
abbrev pub RuleIsToldOn : Protocol → Rule → Type 0
RuleIsToldOn Tcp rule = Unit {0}
RuleIsToldOn Http rule = needs_token rule ≡ false

pub rules-told : (protocol : Protocol) (policies : List AuthorizationPolicy) → AreToldOn protocol policies
    → All (λ policy. All (RuleIsToldOn protocol) policy.rules) policies
rules-told Tcp policies told = λ k d within j e inside. tt
rules-told Http policies told = λ k d within.
    none-passes needs_token (get_or policies k d).rules (not-true (list_any needs_token (get_or policies k d).rules) (told k d within))

module _ (case : Case) (seen : Seen) where
  -- what is tested of a rule is told
  pub record IsTold (rule : Rule) : Type 0 where
    pub sources : All (λ source. source_needs_http source ≡ false) rule.sources
    pub operations : All (HasToldPaths case seen) rule.operations
    pub conditions : All IsPlain rule.conditions

  pub told-on : (protocol : Protocol) (rule : Rule) → IsJudgedOn protocol case seen → AcceptedRule rule → RuleIsToldOn protocol rule
      → IsTold (rule_on protocol rule)
  told-on Tcp rule judged accepted told = record {
    sources = All-map (λ source. source_needs_http source ≡ false) source_without_http rule.sources (λ k d within. refl);
    operations = All-map (HasToldPaths case seen) operation_without_http rule.operations (λ k d within. record {
      paths = λ j e inside. absurd (omega (arith, inside));
      not_paths = λ j e inside. absurd (omega (arith, inside));
    });
    conditions = λ k d within.
        let keep : Condition → Bool = λ c. not (condition_needs_http c) in
        record {
          accepted = All-filter keep AcceptedCondition rule.conditions accepted.conditions.each k d within;
          plain = no-token (get_or (filter keep rule.conditions) k d) (filter_passes keep rule.conditions k d within);
        };
  }
  told-on Http rule judged accepted told =
      let none = neither (list_any source_needs_http rule.sources) (list_any condition_needs_token rule.conditions) told in
      record {
        sources = none-passes source_needs_http rule.sources none.0;
        operations = λ k d within. record {
          paths = λ j e inside. path-holds (get_or (get_or rule.operations k d).paths j e) case seen judged;
          not_paths = λ j e inside. path-holds (get_or (get_or rule.operations k d).not_paths j e) case seen judged;
        };
        conditions = λ k d within. record {
          accepted = accepted.conditions.each k d within;
          plain = none-passes condition_needs_token rule.conditions none.1 k d within;
        };
      }
