-- The names rise, and the filter is that of the definition, which decides as the rules do and can be written.
use Rattle.std.proofs.Common.{[], ap, subst, sym, ◌∙◌}
use Rattle.envoy_types.specs.Order.{names_rise}
use Rattle.envoy_types.specs.RbacForms.{rbac_is_printable}
use Rattle.authz_gen.specs.Policies.{DecidesOn, RulesHoldAsPolicies, policies_on}
use Rattle.authz_gen.proofs.Apart.{names-rise}
use Rattle.authz_gen.proofs.Decided.{decides, rules-hold}
use Rattle.authz_gen.proofs.Made.{made-is}
use Rattle.authz_gen.proofs.Printable.{filter-fits, small-part}
use Rattle.authz_gen.proofs.policies.rbac_on.Goals as goal

pub invariant_of-rules : goal.invariant_of-rules
invariant_of-rules c =
    ap (names_rise (λ policy. policy.name)) (c.in_ok-policies.ensures ∙ ap (policies_on c.args.protocol) c.deref.ensures)
    ∙ names-rise c.args.protocol c.args.action c.args.policies.now c.requires.policies

pub returns-clause-meaning : goal.returns-clause-meaning
returns-clause-meaning c =
    subst (λ filter. DecidesOn c.args.protocol filter c.args.action c.args.policies.now)
    (sym (made-is c.args.protocol c.args.action c.args.policies.now c.rbac_action.result c.in_ok-policies.policies c.in_ok-of.field-0
    c.rbac_action.ensures (c.in_ok-policies.ensures ∙ ap (policies_on c.args.protocol) c.deref.ensures) c.in_ok-of.ensures))
    (decides c.args.protocol c.args.action c.args.policies.now c.requires.policies.accepted.each c.requires.told)

pub returns-clause-rules : goal.returns-clause-rules
returns-clause-rules c =
    subst (λ filter. RulesHoldAsPolicies c.args.protocol filter c.args.policies.now)
    (sym (made-is c.args.protocol c.args.action c.args.policies.now c.rbac_action.result c.in_ok-policies.policies c.in_ok-of.field-0
    c.rbac_action.ensures (c.in_ok-policies.ensures ∙ ap (policies_on c.args.protocol) c.deref.ensures) c.in_ok-of.ensures))
    (rules-hold c.args.protocol c.args.action c.args.policies.now c.requires.policies c.requires.told)

pub returns-clause-printable : goal.returns-clause-printable
returns-clause-printable c =
    λ small. ap rbac_is_printable
    (made-is c.args.protocol c.args.action c.args.policies.now c.rbac_action.result c.in_ok-policies.policies c.in_ok-of.field-0
    c.rbac_action.ensures (c.in_ok-policies.ensures ∙ ap (policies_on c.args.protocol) c.deref.ensures) c.in_ok-of.ensures)
    ∙ filter-fits c.args.protocol c.args.action c.args.policies.now c.requires.policies (small-part c.args.policies.now [] small)
