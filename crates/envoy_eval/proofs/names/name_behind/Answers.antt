use Rattle.std.proofs.Common.{◌≡◌, ◌∙◌, List, Option, Bor, ap, sym, ℕ, if◌then◌else◌}
use Rattle.std.specs.Option.{option_or}
use Rattle.std.specs.Str.{bytes_eq}
use Rattle.mesh_policy.specs.Attributes.{Seen}
use Rattle.envoy_types.specs.Access.{shadow_name}
use Rattle.envoy_types.specs.Run.{Names, RunState, name_of, shadow_key}
use Rattle.envoy_types.specs.State.{seen_of}
use Rattle.mesh_policy.specs.declared.case.Case.{Case}
use Rattle.envoy_types.specs.Jwt.{Authentication}
use Rattle.envoy_eval.specs.Filters.{run_part}
use Rattle.envoy_eval.specs.declared.filters.Part.{Part}
use Rattle.envoy_eval.specs.declared.filters.Part.TheVariants.{Jwt}
use Rattle.envoy_eval.proofs.Keys.{name-set}
use Rattle.envoy_eval.proofs.Runs.{jwt-names}
use Rattle.envoy_eval.proofs.names.name_behind.Goals as goal

names-left : (case : Case) (before : RunState) (part : Part) (jwt : Bor Authentication) → part ≡ Jwt jwt
    → (run_part case part before).state.names ≡ before.names
names-left case before part jwt is = ap (λ (p : Part). (run_part case p before).state.names) is ∙ jwt-names jwt.now case before

pub returns-in-Jwt : goal.returns-in-Jwt
returns-in-Jwt c before e named =
    named ∙ ap (λ (names : Names). name_of c.args.key.now names) (sym (names-left c.args.case.now before c.args.part _ c.in-Jwt.is))

pub returns-in-Rbac : goal.returns-in-Rbac
returns-in-Rbac c before e named =
    c.name_behind_rbac.ensures
    ∙ ap (λ (name : Option (List ℕ)). if bytes_eq (shadow_key c.in-Rbac.rbac.now) c.args.key.now
    then option_or (shadow_name c.in-Rbac.rbac.now.shadow c.args.case.now (seen_of c.args.case.now c.args.state.now)) name else name) named
    ∙ ap (λ (seen : Seen). if bytes_eq (shadow_key c.in-Rbac.rbac.now) c.args.key.now
    then option_or (shadow_name c.in-Rbac.rbac.now.shadow c.args.case.now seen) (name_of c.args.key.now before.names)
    else name_of c.args.key.now before.names) (sym e)
    ∙ sym (name-set c.args.key.now (shadow_key c.in-Rbac.rbac.now)
    (shadow_name c.in-Rbac.rbac.now.shadow c.args.case.now before.seen) before.names)
    ∙ ap (λ (part : Part). name_of c.args.key.now (run_part c.args.case.now part before).state.names) (sym c.in-Rbac.is)
