-- The run of filters, filter by filter.
use Rattle.std.proofs.Common.{◌≡◌, ℕ, ◌+◌, ◌-◌, ◌<◌, ◌≤◌, Bool, true, false, List, [], ◌∷◌, ◌++◌, length, take, drop, get_or, Option, Some}
use Rattle.std.proofs.Common.{None, ap, arith, sym, refl, subst, ◌∙◌}
use Rattle.std.proofs.lemmas.List.{drop_more, take_more}
use Rattle.std.specs.Option.{option_or}
use Rattle.mesh_policy.specs.Attributes.{Seen}
use Rattle.mesh_policy.specs.declared.case.Case.{Case}
use Rattle.mesh_policy.specs.declared.token_verdict.ClaimField.{ClaimField}
use Rattle.envoy_types.specs.Jwt.{Authentication, claims_by, required, requirement_holds}
use Rattle.envoy_types.specs.Run.{Decision, Names, RunState, Step, goes_on, name_of, refuses, run_filters, run_jwt, run_required}
use Rattle.envoy_types.specs.Run.{then_run, unauthenticated, with_claims}
use Rattle.envoy_types.specs.State.{seen_of}
use Rattle.envoy_types.specs.declared.jwt.Requirement.{Requirement}
use Rattle.envoy_eval.specs.Hits.{first_hits, no_hits}
use Rattle.envoy_eval.specs.Runs.{after, is_going, run_hits, unless_refused}
use Rattle.envoy_eval.specs.Steps.{StepIs, Stands, decision_of, standing}
use Rattle.envoy_eval.specs.declared.hits.Hit.{Hit}
use Rattle.envoy_eval.specs.declared.hits.StageHits.{StageHits}
use Rattle.envoy_eval.specs.declared.steps.FilterStep.{FilterStep}
use Rattle.envoy_eval.specs.declared.steps.Standing.{Standing}

-- ---- a token filter leaves the names, and its claims are by what was seen

claims-seen : (claims : Option (List ClaimField)) (one two : RunState) → one.seen ≡ two.seen
    → (with_claims claims one).seen ≡ (with_claims claims two).seen
claims-seen None one two e = e
claims-seen (Some claims) one two e = ap (λ (s : Seen). record { request = s.request; peer = s.peer; claims = Some claims }) e

claims-names : (claims : Option (List ClaimField)) (one : RunState) → (with_claims claims one).names ≡ one.names
claims-names None one = refl
claims-names (Some claims) one = refl

jwt-seen : (jwt : Authentication) (case : Case) (one two : RunState) → one.seen ≡ two.seen
    → (run_jwt jwt case one).state.seen ≡ (run_jwt jwt case two).state.seen
jwt-seen jwt case one two e = of (required jwt case) where
  by : (requirement : Requirement) (b : Bool) → requirement_holds jwt.providers requirement case ≡ b
      → (run_required jwt case one (Some requirement)).state.seen ≡ (run_required jwt case two (Some requirement)).state.seen
  by requirement true h = rw h (claims-seen (claims_by jwt.providers requirement case) one two e)
  by requirement false h = rw h e

  of : (o : Option Requirement) → (run_required jwt case one o).state.seen ≡ (run_required jwt case two o).state.seen
  of None = e
  of (Some requirement) = by requirement _ refl

pub jwt-names : (jwt : Authentication) (case : Case) (one : RunState) → (run_jwt jwt case one).state.names ≡ one.names
jwt-names jwt case one = of (required jwt case) where
  by : (requirement : Requirement) (b : Bool) → requirement_holds jwt.providers requirement case ≡ b
      → (run_required jwt case one (Some requirement)).state.names ≡ one.names
  by requirement true h = rw h (claims-names (claims_by jwt.providers requirement case) one)
  by requirement false h = rw h refl

  of : (o : Option Requirement) → (run_required jwt case one o).state.names ≡ one.names
  of None = refl
  of (Some requirement) = by requirement _ refl

-- what is seen behind it
pub jwt-after : (jwt : Authentication) (case : Case) (now : Standing) (before : RunState) (ran : FilterStep)
    → before.seen ≡ seen_of case now.state
    → ((names : Names) → StepIs case ran (run_jwt jwt case (standing case now names)))
    → seen_of case ran.after.state ≡ (run_jwt jwt case before).state.seen
jwt-after jwt case now before ran e step = (step []).stands.seen ∙ jwt-seen jwt case (standing case now []) before (sym e)

-- ---- one filter

-- what stands, with its names, is all that stands
whole : (case : Case) (now : Standing) (meant : RunState) → Stands case now meant → standing case now meant.names ≡ meant
whole case now meant h =
    ap (λ (seen : Seen). record { seen = seen; audited = now.audited; names = meant.names }) h.seen
    ∙ ap (λ (audited : Bool). record { seen = meant.seen; audited = audited; names = meant.names }) h.audited

pub step-from : (case : Case) (now : Standing) (before : RunState) (ran : FilterStep) (run : RunState → Step) (meant : Step)
    → Stands case now before → meant ≡ run before → StepIs case ran (run (standing case now before.names)) → StepIs case ran meant
step-from case now before ran run meant stands e h =
    subst (λ (step : Step). StepIs case ran step) (ap run (whole case now before stands) ∙ sym e) h

-- ---- hits

or-none : (one : Option Hit) → option_or one None ≡ one
or-none None = refl
or-none (Some hit) = refl

or-or : (one two three : Option Hit) → option_or (option_or one two) three ≡ option_or one (option_or two three)
or-or None two three = refl
or-or (Some hit) two three = refl

abbrev four : (c a d l : Option Hit) → StageHits
four c a d l = record { custom = c; audit = a; deny = d; allow = l }

hits_from : (c c' a a' d d' l l' : Option Hit) → c ≡ c' → a ≡ a' → d ≡ d' → l ≡ l' → four c a d l ≡ four c' a' d' l'
hits_from c c' a a' d d' l l' e f g h = cc

first-nothing : (hits : StageHits) → first_hits hits no_hits ≡ hits
first-nothing hits =
    hits_from _ hits.custom _ hits.audit _ hits.deny _ hits.allow
    (or-none hits.custom) (or-none hits.audit) (or-none hits.deny) (or-none hits.allow)

first-first : (one two three : StageHits) → first_hits (first_hits one two) three ≡ first_hits one (first_hits two three)
first-first one two three = hits_from _ _ _ _ _ _ _ _
    (or-or one.custom two.custom three.custom) (or-or one.audit two.audit three.audit)
    (or-or one.deny two.deny three.deny) (or-or one.allow two.allow three.allow)

-- ---- the loop

module _ {F : Type 0} (run : F → RunState → Step) where
  after-append : (xs ys : List F) (state : RunState) → after run (xs ++ ys) state ≡ after run ys (after run xs state)
  after-append [] ys state = refl
  after-append (x ∷ xs) ys state = after-append xs ys (run x state).state

  pub after-one : (filters : List F) (i : ℕ) (filter : F) (state : RunState) → i < length filters → filter ≡ get_or filters i filter
      → after run (take (i + 1) filters) state ≡ (run filter (after run (take i filters) state)).state
  after-one filters i filter state within is =
      ap (λ fs. after run fs state) (take_more filters i filter within)
      ∙ after-append (take i filters) (get_or filters i filter ∷ []) state
      ∙ ap (λ (f : F). (run f (after run (take i filters) state)).state) (sym is)

  -- the same of the last of those that are left
  pub after-last : (filters : List F) (left : ℕ) (filter : F) (state : RunState) → left ≤ length filters → 0 < left
      → filter ≡ get_or filters (left - 1) filter
      → after run (take left filters) state ≡ (run filter (after run (take (left - 1) filters) state)).state
  after-last filters left filter state within some is =
      let next : left ≡ left - 1 + 1 = omega arith in
      ap (λ n. after run (take n filters) state) next ∙ after-one filters (left - 1) filter state (omega arith) is

  -- A filter is looked at from behind, once for what it is and once for the name that it tells: what is seen before it, and the name.
  pub looked-back : (filters : List F) (left : ℕ) (start : RunState) → left ≤ length filters → 0 < left → (first again : F)
      → first ≡ get_or filters (left - 1) first → again ≡ get_or filters (left - 1) again → (does does-again : RunState → Step)
      → ((before : RunState) → run first before ≡ does before) → ((before : RunState) → run again before ≡ does-again before)
      → ((before : RunState) → (does before).state.seen ≡ before.seen) → (key : List ℕ) (seen : Seen) (name : Option (List ℕ))
      → seen ≡ (after run (take left filters) start).seen → name ≡ name_of key (after run (take left filters) start).names
      → let before = after run (take (left - 1) filters) start in
      (seen ≡ before.seen) × (name ≡ name_of key (does-again before).state.names)
  looked-back filters left start within some first again at at-again does does-again runs runs-again keeps key seen name e f =
      let before = after run (take (left - 1) filters) start in (
        e ∙ ap (λ (s : RunState). s.seen) (after-last filters left first start within some at)
            ∙ ap (λ (step : Step). step.state.seen) (runs before) ∙ keeps before,
        f ∙ ap (λ (s : RunState). name_of key s.names) (after-last filters left again start within some at-again)
            ∙ ap (λ (step : Step). name_of key step.state.names) (runs-again before),
      )

  -- a filter goes on
  then-on : (step : Step) (next : RunState → Step) → is_going step.decision ≡ true
      → then_run step.decision step.state next ≡ next step.state
  then-on step next h = at step.decision h where
    at : (d : Decision) → is_going d ≡ true → then_run d step.state next ≡ next step.state
    at goes_on e = refl
    at unauthenticated e = cc
    at refuses e = cc

  -- or it refuses
  then-off : (step : Step) (next : RunState → Step) → is_going step.decision ≡ false → then_run step.decision step.state next ≡ step
  then-off step next h = at step.decision h where
    at : (d : Decision) → is_going d ≡ false → then_run d step.state next ≡ record { decision = d; state = step.state }
    at goes_on e = cc
    at unauthenticated e = refl
    at refuses e = refl

  module _ (hits : ℕ → F → Seen → StageHits) where
    later-on : (d : Decision) (later : StageHits) → is_going d ≡ true → unless_refused d later ≡ later
    later-on goes_on later e = refl
    later-on unauthenticated later e = cc
    later-on refuses later e = cc

    later-off : (d : Decision) (later : StageHits) → is_going d ≡ false → unless_refused d later ≡ no_hits
    later-off goes_on later e = cc
    later-off unauthenticated later e = refl
    later-off refuses later e = refl

    module _ (filters : List F) (i : ℕ) (filter : F) (start : RunState) (within : i < length filters)
        (is : filter ≡ get_or filters i filter) where
      abbrev now : RunState
      now = after run (take i filters) start

      abbrev rest : List F
      rest = drop (i + 1) filters

      left : drop i filters ≡ filter ∷ rest
      left = drop_more filters i filter within ∙ ap (λ (f : F). f ∷ rest) (sym is)

      pub run-on : (whole : Step) → whole ≡ run_filters run (drop i filters) now → is_going (run filter now).decision ≡ true
          → whole ≡ run_filters run rest (after run (take (i + 1) filters) start)
      run-on whole h on =
          h ∙ ap (λ fs. run_filters run fs now) left ∙ then-on (run filter now) (run_filters run rest) on
          ∙ ap (run_filters run rest) (sym (after-one filters i filter start within is))

      pub run-off : (whole : Step) → whole ≡ run_filters run (drop i filters) now → is_going (run filter now).decision ≡ false
          → whole ≡ run filter now
      run-off whole h off = h ∙ ap (λ fs. run_filters run fs now) left ∙ then-off (run filter now) (run_filters run rest) off

      pub hits-on : (whole so_far : StageHits) → whole ≡ first_hits so_far (run_hits run hits i (drop i filters) now)
          → is_going (run filter now).decision ≡ true
          → whole ≡ first_hits (first_hits so_far (hits i filter now.seen))
          (run_hits run hits (i + 1) rest (after run (take (i + 1) filters) start))
      hits-on whole so_far h on =
          h ∙ ap (λ fs. first_hits so_far (run_hits run hits i fs now)) left
          ∙ ap (λ (later : StageHits). first_hits so_far (first_hits (hits i filter now.seen) later))
          (later-on (run filter now).decision _ on)
          ∙ sym (first-first so_far (hits i filter now.seen) (run_hits run hits (i + 1) rest (run filter now).state))
          ∙ ap (λ (s : RunState). first_hits (first_hits so_far (hits i filter now.seen)) (run_hits run hits (i + 1) rest s))
          (sym (after-one filters i filter start within is))

      pub hits-off : (whole so_far : StageHits) → whole ≡ first_hits so_far (run_hits run hits i (drop i filters) now)
          → is_going (run filter now).decision ≡ false → whole ≡ first_hits so_far (hits i filter now.seen)
      hits-off whole so_far h off =
          h ∙ ap (λ fs. first_hits so_far (run_hits run hits i fs now)) left
          ∙ ap (λ (later : StageHits). first_hits so_far (first_hits (hits i filter now.seen) later))
          (later-off (run filter now).decision _ off)
          ∙ ap (λ (t : StageHits). first_hits so_far t) (first-nothing (hits i filter now.seen))

      -- a turn of the loop
      pub loop-on : (case : Case) (standing_now : Standing) (ran : FilterStep) (so_far next : StageHits) → Stands case standing_now now
          → run_filters run filters start ≡ run_filters run (drop i filters) now
          → run_hits run hits 0 filters start ≡ first_hits so_far (run_hits run hits i (drop i filters) now)
          → StepIs case ran (run filter now) → ran.hits ≡ hits i filter (seen_of case standing_now.state)
          → next ≡ first_hits so_far ran.hits → is_going (decision_of ran.decision) ≡ true
          → Stands case ran.after (after run (take (i + 1) filters) start)
          × (run_filters run filters start ≡ run_filters run rest (after run (take (i + 1) filters) start))
          × (run_hits run hits 0 filters start ≡ first_hits next (run_hits run hits (i + 1) rest (after run (take (i + 1) filters) start)))
      loop-on case standing_now ran so_far next stands decides tells step said e on =
          let going : is_going (run filter now).decision ≡ true = ap is_going (sym step.decision) ∙ on in
          let hit : hits i filter now.seen ≡ ran.hits = ap (λ (s : Seen). hits i filter s) (sym stands.seen) ∙ sym said in (
            subst (λ (s : RunState). Stands case ran.after s) (sym (after-one filters i filter start within is)) step.stands,
            run-on (run_filters run filters start) decides going,
            hits-on (run_hits run hits 0 filters start) so_far tells going
                ∙ ap (λ (t : StageHits). first_hits t (run_hits run hits (i + 1) rest (after run (take (i + 1) filters) start)))
                (ap (λ (t : StageHits). first_hits so_far t) hit ∙ sym e),
          )
