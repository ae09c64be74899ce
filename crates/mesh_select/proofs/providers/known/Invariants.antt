use Rattle.std.proofs.Common.{◌≡◌, ◌++◌, drop, map}
use Rattle.mesh_select.proofs.providers.known.Given as goal

abbrev pub invariant-loop-provider : goal.invariant-loop-provider
invariant-loop-provider l =
    map (λ t. t.now) l.names.items ++ map (λ provider. provider.name) (drop l.provider-index l.providers)
    ≡ map (λ provider. provider.name) l.providers
