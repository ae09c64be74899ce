-- The place of a token's verdict, and the verdict.
use Rattle.std.proofs.Common.{◌≡◌, ℕ, ◌+◌, suc, Bool, true, false, not, ◌&&◌, ◌||◌, List, [], ◌∷◌, find, Option, Some, None, is_some}
use Rattle.std.proofs.Common.{cond, if◌then◌else◌, ap, sym, refl, subst, ◌∙◌, arith}
use Rattle.std.specs.List.{list_any, position_from, slice_get}
use Rattle.std.specs.Option.{option_and_then, option_map, option_or}
use Rattle.mesh_policy.specs.Attributes.{Seen}
use Rattle.mesh_policy.specs.declared.token_verdict.ClaimField.{ClaimField}
use Rattle.mesh_policy.specs.Authenticated.{is_answer, question_of, token_of, verdict_for}
use Rattle.mesh_policy.specs.Lists.{first_answer}
use Rattle.mesh_policy.specs.declared.case.Case.{Case}
use Rattle.mesh_policy.specs.declared.jwt.JwtRule.{JwtRule}
use Rattle.mesh_policy.specs.declared.token_verdict.TokenVerdict.{TokenVerdict}
use Rattle.envoy_types.specs.Access.{first_position}
use Rattle.envoy_types.specs.Jwt.{Authentication, Provider, has_token, names_of, provider_holds, provider_named, requirement_holds}
use Rattle.envoy_types.specs.Jwt.{verdict_by}
use Rattle.envoy_types.specs.Run.{Names, Step, goes_on, run_required, unauthenticated, with_claims}
use Rattle.envoy_types.specs.State.{seen_of}
use Rattle.envoy_types.specs.declared.jwt.Requirement.{Requirement}
use Rattle.envoy_types.specs.declared.jwt.Requirement.TheVariants.{One, AnyOf}
use Rattle.envoy_eval.proofs.Positions.{position-first}
use Rattle.envoy_eval.specs.Steps.{StepIs, decision_of, standing}
use Rattle.envoy_eval.specs.Tokens.{first_position_by, may_miss, position_by, position_for}
use Rattle.envoy_eval.specs.declared.steps.FilterStep.{FilterStep}
use Rattle.envoy_eval.specs.declared.steps.Standing.{Standing}

-- the entry stands at the place, or there is neither
abbrev Agrees : {V : Type 0} → List V → Option ℕ → Option V → Type 0
Agrees xs None None = Unit {0}
Agrees xs None (Some v) = ⊥
Agrees xs (Some k) None = ⊥
Agrees xs (Some k) (Some v) = slice_get xs k ≡ Some v

behind-one : {V : Type 0} (x : V) (xs : List V) (position : Option ℕ) (found : Option V) → Agrees xs position found
    → Agrees (x ∷ xs) (option_map (λ k. k + 1) position) found
behind-one x xs None None h = tt
behind-one x xs None (Some v) h = absurd h
behind-one x xs (Some k) None h = absurd h
behind-one x xs (Some k) (Some v) h =
    let next : k + 1 ≡ suc k = omega arith in
    ap (slice_get (x ∷ xs)) next ∙ h

first-agrees : {V : Type 0} (test : V → Bool) (xs : List V) → Agrees xs (first_position test xs) (find test xs)
first-agrees test [] = tt
first-agrees test (x ∷ xs) = at (test x) (behind-one x xs (first_position test xs) (find test xs) (first-agrees test xs)) where
  at : (b : Bool) → Agrees (x ∷ xs) (option_map (λ k. k + 1) (first_position test xs)) (find test xs)
      → Agrees (x ∷ xs) (cond b (Some 0) (option_map (λ k. k + 1) (first_position test xs))) (cond b (Some x) (find test xs))
  at true h = refl
  at false h = h

position-agrees : {V : Type 0} (test : V → Bool) (xs : List V) → Agrees xs (position_from test 0 xs) (find test xs)
position-agrees test xs =
    subst (λ (position : Option ℕ). Agrees xs position (find test xs)) (sym (position-first test xs)) (first-agrees test xs)

module _ {V : Type 0} (xs : List V) where
  behind-agrees : {X : Type 0} (f : X → Option ℕ) (g : X → Option V) → ((x : X) → Agrees xs (f x) (g x)) → (o : Option X)
      → Agrees xs (option_and_then f o) (option_and_then g o)
  behind-agrees f g each None = tt
  behind-agrees f g each (Some x) = each x

  or-agrees : (a : Option ℕ) (b : Option V) (c : Option ℕ) (d : Option V) → Agrees xs a b → Agrees xs c d
      → Agrees xs (option_or a c) (option_or b d)
  or-agrees None None c d h k = k
  or-agrees None (Some v) c d h k = absurd h
  or-agrees (Some n) None c d h k = absurd h
  or-agrees (Some n) (Some v) c d h k = h

  answers-agree : {X : Type 0} (f : X → Option ℕ) (g : X → Option V) → ((x : X) → Agrees xs (f x) (g x)) → (ys : List X)
      → Agrees xs (first_answer f ys) (first_answer g ys)
  answers-agree f g each [] = tt
  answers-agree f g each (y ∷ ys) =
      or-agrees (f y) (g y) (first_answer f ys) (first_answer g ys) (each y) (answers-agree f g each ys)

module _ (providers : List Provider) (case : Case) where
  for-agrees : (rule : JwtRule) → Agrees case.verdicts (position_for case rule) (verdict_for case rule)
  for-agrees rule = behind-agrees case.verdicts
      (λ token. position_from (is_answer (question_of rule token)) 0 case.verdicts)
      (λ token. find (is_answer (question_of rule token)) case.verdicts)
      (λ token. position-agrees (is_answer (question_of rule token)) case.verdicts) (token_of case rule)

  by-agrees : (name : List ℕ) → Agrees case.verdicts (position_by providers case name) (verdict_by providers case name)
  by-agrees name = behind-agrees case.verdicts
      (λ (provider : Provider). position_for case provider.rule) (λ provider. verdict_for case provider.rule)
      (λ provider. for-agrees provider.rule)
      (provider_named providers name)

  -- the place and the verdict of the first provider that holds
  first_verdict : (requirement : Requirement)
      → Agrees case.verdicts (first_position_by providers case (names_of requirement))
      (first_answer (verdict_by providers case) (names_of requirement))
  first_verdict requirement =
      answers-agree case.verdicts (position_by providers case) (verdict_by providers case) by-agrees (names_of requirement)

  any-answers : (names : List (List ℕ))
      → list_any (provider_holds providers case) names ≡ is_some (first_answer (verdict_by providers case) names)
  any-answers [] = refl
  any-answers (name ∷ names) = at (verdict_by providers case name) (any-answers names) where
    at : (v : Option TokenVerdict)
        → list_any (provider_holds providers case) names ≡ is_some (first_answer (verdict_by providers case) names)
        → (is_some v || list_any (provider_holds providers case) names)
        ≡ is_some (option_or v (first_answer (verdict_by providers case) names))
    at None h = h
    at (Some v) h = refl

  only : (v : Option TokenVerdict) → is_some v ≡ (is_some (option_or v None) || false)
  only None = refl
  only (Some v) = refl

  -- a requirement holds where a provider does, or where none is needed
  holds-by : (requirement : Requirement) → requirement_holds providers requirement case
      ≡ (is_some (first_answer (verdict_by providers case) (names_of requirement)) || may_miss providers case requirement)
  holds-by (One name) = only (verdict_by providers case name)
  holds-by (AnyOf names allow_missing) =
      ap (λ b. b || (allow_missing && not (list_any (has_token providers case) names))) (any-answers names)

module _ (jwt : Authentication) (requirement : Requirement) (case : Case) (now : Standing) (names : Names) where
  abbrev found : Option TokenVerdict
  found = first_answer (verdict_by jwt.providers case) (names_of requirement)

  abbrev meant : Step
  meant = run_required jwt case (standing case now names) (Some requirement)

  abbrev with_seen : Option (List ClaimField) → Seen
  with_seen claims = record { request = now.state.request_seen; peer = now.state.peer_seen; claims = claims }

  meant-found : (v : TokenVerdict) → found ≡ Some v
      → meant ≡ record { decision = goes_on; state = with_claims (Some v.claims) (standing case now names) }
  meant-found v e =
      let holds : requirement_holds jwt.providers requirement case ≡ true =
      holds-by jwt.providers case requirement ∙ ap (λ (o : Option TokenVerdict). is_some o || may_miss jwt.providers case requirement) e in
      rw (holds, e) refl

  meant-lost : (missing : Bool) → found ≡ None → may_miss jwt.providers case requirement ≡ missing
      → meant ≡ record { decision = (if missing then goes_on else unauthenticated); state = standing case now names }
  meant-lost true e m =
      let holds : requirement_holds jwt.providers requirement case ≡ true =
      holds-by jwt.providers case requirement
      ∙ ap (λ (o : Option TokenVerdict). is_some o || may_miss jwt.providers case requirement) e ∙ m in
      rw (holds, e) refl
  meant-lost false e m =
      let holds : requirement_holds jwt.providers requirement case ≡ false =
      holds-by jwt.providers case requirement
      ∙ ap (λ (o : Option TokenVerdict). is_some o || may_miss jwt.providers case requirement) e ∙ m in
      rw holds refl

  at_position : (position : ℕ) (v : Option TokenVerdict) → found ≡ v → Agrees case.verdicts (Some position) v → (ran : FilterStep)
      → decision_of ran.decision ≡ goes_on
      → ran.after.state ≡ record { request_seen = now.state.request_seen; peer_seen = now.state.peer_seen; verdict = Some position }
      → ran.after.audited ≡ now.audited → StepIs case ran meant
  at_position position None e h ran d s a = absurd h
  at_position position (Some v) e h ran d s a = record {
    decision = d ∙ ap (λ (step : Step). step.decision) (sym (meant-found v e));
    stands = record {
      seen = ap (seen_of case) s
          ∙ ap (λ (o : Option TokenVerdict). with_seen (option_map (λ w. w.claims) o)) h
          ∙ ap (λ (step : Step). step.state.seen) (sym (meant-found v e));
      audited = a ∙ ap (λ (step : Step). step.state.audited) (sym (meant-found v e));
    };
  }

  nowhere : (v : Option TokenVerdict) → found ≡ v → Agrees case.verdicts None v → (ran : FilterStep)
      → decision_of ran.decision ≡ (if may_miss jwt.providers case requirement then goes_on else unauthenticated)
      → ran.after ≡ now → StepIs case ran meant
  nowhere (Some v) e h ran d s = absurd h
  nowhere None e h ran d s =
      let same = meant-lost (may_miss jwt.providers case requirement) e refl in
      record {
        decision = d ∙ ap (λ (step : Step). step.decision) (sym same);
        stands = record {
          seen = ap (λ (n : Standing). seen_of case n.state) s ∙ ap (λ (step : Step). step.state.seen) (sym same);
          audited = ap (λ (n : Standing). n.audited) s ∙ ap (λ (step : Step). step.state.audited) (sym same);
        };
      }

  -- where the verdict is found, and where it isn't
  pub held : (position : ℕ) → Some position ≡ first_position_by jwt.providers case (names_of requirement) → (ran : FilterStep)
      → decision_of ran.decision ≡ goes_on
      → ran.after.state ≡ record { request_seen = now.state.request_seen; peer_seen = now.state.peer_seen; verdict = Some position }
      → ran.after.audited ≡ now.audited → StepIs case ran meant
  held position p = at_position position found refl
      (subst (λ (o : Option ℕ). Agrees case.verdicts o found) (sym p) (first_verdict jwt.providers case requirement))

  pub not_held : None ≡ first_position_by jwt.providers case (names_of requirement) → (ran : FilterStep)
      → decision_of ran.decision ≡ (if may_miss jwt.providers case requirement then goes_on else unauthenticated)
      → ran.after ≡ now → StepIs case ran meant
  not_held p =
      nowhere found refl (subst (λ (o : Option ℕ). Agrees case.verdicts o found) (sym p) (first_verdict jwt.providers case requirement))
