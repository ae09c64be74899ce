use Rattle.std.proofs.Common.{◌∙◌, ◌++◌, ap, codes}
use Rattle.std.specs.Str.{bytes_eq}
use Rattle.envoy_types.specs.State.{holds_of}
use Rattle.envoy_eval.proofs.Keys.{key-behind}
use Rattle.envoy_eval.proofs.names.tells_key.Goals as goal

pub returns-in-None : goal.returns-in-None
returns-in-None c =
    ap (holds_of (bytes_eq (codes "shadow_effective_policy_id"))) c.in-None.ensures
    ∙ key-behind c.deref.result.now (codes "shadow_effective_policy_id") c.args.key.now
    ∙ ap (λ prefix. bytes_eq (prefix ++ codes "shadow_effective_policy_id") c.args.key.now) c.deref.ensures

pub returns-in-Some : goal.returns-in-Some
returns-in-Some c =
    c.eq.ensures
    ∙ ap (holds_of (bytes_eq (codes "shadow_effective_policy_id"))) c.in-Some.ensures
    ∙ key-behind c.deref.result.now (codes "shadow_effective_policy_id") c.args.key.now
    ∙ ap (λ prefix. bytes_eq (prefix ++ codes "shadow_effective_policy_id") c.args.key.now) c.deref.ensures
