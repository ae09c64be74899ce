-- By the provider that was found, or not.
use Rattle.std.proofs.Common.{◌∙◌, List, ap}
use Rattle.envoy_types.specs.Jwt.{Provider, provider_named}
use Rattle.listener_reader.proofs.KnownNames.{known}
use Rattle.listener_reader.proofs.requirements.is_provider.Goals as goal

pub returns : goal.returns
returns c =
    let name = c.args.name.now in
    c.is_some.ensures ∙ known _ c.args.providers.now name
    (c.provider_named.ensures ∙ ap (λ (ps : List Provider). provider_named ps name) (c.deref.ensures ∙ c.providers.view_is))
