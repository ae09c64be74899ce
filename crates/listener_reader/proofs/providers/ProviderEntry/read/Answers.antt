-- The places of a provider are its headers and then its parameters, or the default ones.
use Rattle.std.proofs.Common.{subst, sym, IsTrue}
use Rattle.mesh_policy.specs.declared.jwt.JwtRule.{JwtRule}
use Rattle.serde_json.specs.View.{view}
use Rattle.envoy_types.specs.Order.{are_places}
use Rattle.envoy_types.specs.ProviderForms.{provider_rule_in}
use Rattle.listener_reader.proofs.HeadersFirst.{places-ordered}
use Rattle.listener_reader.proofs.providers.ProviderEntry.read.Goals as goal

pub invariant_of-result : goal.invariant_of-result
unfolding provider_rule_in
invariant_of-result c =
    subst (λ (rule : JwtRule). IsTrue (are_places rule.places)) (sym c.in_ok-rule.ensures.1) (places-ordered (view c.args.v.now))
