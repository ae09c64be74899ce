-- Providers stand under their names, as the members of an object.
use Rattle.std.proofs.Common.{refl}
use Rattle.serde_json.specs.View.{view}
use Rattle.envoy_types.specs.ProviderForms.{provider_in}
use Rattle.envoy_types.specs.declared.keys.TheConstants.{PROVIDERS}
use Rattle.listener_reader.proofs.Rising.{entries-rise}
use Rattle.listener_reader.proofs.jwt.ConfigForm.read.Goals as goal

pub invariant_of-providers : goal.invariant_of-providers
unfolding provider_in
invariant_of-providers c =
    entries-rise (λ provider. provider.name) provider_in (λ key d. refl) PROVIDERS.now (view c.args.v.now) _
    c.in_ok-all.ensures.reads.1 c.in_ok-all.ensures.rising

pub invariant_of-result : goal.invariant_of-result
unfolding provider_in
invariant_of-result c =
    entries-rise (λ provider. provider.name) provider_in (λ key d. refl) PROVIDERS.now (view c.args.v.now) _
    c.in_ok-all.ensures.reads.1 c.in_ok-all.ensures.rising
